-- What the switch notes, whatever it hears: of its directory alone.
use Rattle.std.proofs.Common.{Bool, true, false, List, [], ◌∷◌, Option, Some, None, slice_get, length}
use Rattle.std.specs.Prelude.{if◌then◌else◌}
use Rattle.std.specs.List.{AllByRecursion}
use Rattle.mind_base.specs.Range.{RangeView}
use Rattle.mind_base.specs.declared.links.LinkName.{LinkName}
use Rattle.mind_base.specs.declared.notes.Note.{Note}
use Rattle.mind_base.specs.declared.notes.Note.TheVariants as note
use Rattle.mind_base.specs.declared.notes.State.{State}
use Rattle.invalidate_multicast.specs.Transition.{is_answered, target_of}
use Rattle.region_directory.specs.declared.entries.Entry.{Entry}
use Rattle.wire_msg.specs.declared.msgs.Msg.{Msg}
use Rattle.switch_core.specs.Deeds.{SwitchDeed, DeniesRequest, GrantsRequest, BeginsTransition, EntersBlock, DropsEntry, MayDo, after_deed}
use Rattle.switch_core.specs.Handling.{ack_heard, noted_at, Receives}
use Rattle.switch_core.specs.Switch.{SwitchView, SwitchEffect}
use Rattle.switch_core.specs.Treating.{granted_state, noted_change, same_state}
use Rattle.switch_core.proofs.Callers.{IsHeard, IsKeptByDeeds, all-append, ends-kept, handled-heard, receives-kept}
use Rattle.rack_core.specs.Noted.{IsOfSwitch}

-- notes of the directory
abbrev pub AreOfSwitch : List Note → Type 0
AreOfSwitch notes = AllByRecursion IsOfSwitch notes

abbrev NotesOfSwitch : SwitchView → SwitchEffect → Type 0
NotesOfSwitch switch e = AreOfSwitch e.noted

changed-note : (range : RangeView) (old new : State) → AreOfSwitch (noted_change range old new)
changed-note range old new = by (same_state old new) where
  by : (b : Bool) → AreOfSwitch (if b then [] else note.Region range new ∷ [])
  by true = tt
  by false = (tt, tt)

end-note : (entry : Option Entry) → AreOfSwitch (noted_at entry)
end-note None = tt
end-note (Some entry) = by (is_answered entry.busy) where
  by : (b : Bool) → AreOfSwitch (if b then note.Region entry.range (target_of entry entry.busy) ∷ [] else [])
  by true = (tt, tt)
  by false = tt

deed-notes : (deed : SwitchDeed) (switch : SwitchView) → MayDo deed switch → AreOfSwitch (after_deed deed switch).noted
deed-notes (DeniesRequest r at) switch may = tt
deed-notes (GrantsRequest r at i entry) switch may = changed-note entry.range entry.state (granted_state r.write r.blade entry.state)
deed-notes (BeginsTransition purpose i entry) switch may = tt
deed-notes (EntersBlock page) switch may = (tt, tt)
deed-notes (DropsEntry i entry) switch may = (tt, tt)

serving-notes : IsKeptByDeeds (λ (switch : SwitchView). switch) NotesOfSwitch
serving-notes =
    record { nothing = λ switch. tt; follows = λ a first next one two. all-append IsOfSwitch first.noted (next first.switch).noted one two; each = deed-notes }

handling-notes : IsHeard (λ kind message switch e. AreOfSwitch e.noted)
handling-notes = record {
  nothing = λ kind message switch. tt;
  asks = λ blade page write switch. tt;
  goes_back = λ page image switch. tt;
  answers = λ blade number count switch.
      let heard : SwitchEffect = ack_heard number blade count switch in
      ends-kept serving-notes (λ i s. end-note (slice_get s.directory.entries i)) switch (length heard.switch.directory.entries) 0 heard tt;
  fills = λ blade page image r switch. tt;
}

pub receives-done : (name : LinkName) (message : Msg) (switch : SwitchView) (e : SwitchEffect) → Receives name message switch e → AreOfSwitch e.noted
receives-done name message switch e receives =
    receives-kept serving-notes switch name message switch e receives (handled-heard handling-notes name.kind name.number message switch)
