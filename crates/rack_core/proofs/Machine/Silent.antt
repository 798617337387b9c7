-- What the switch does notes no label and leaves the permissions, whatever it hears.
use Rattle.std.proofs.Common.{◌≡◌, ◌∙◌, Bool, true, false, ap, refl, [], ◌∷◌, ◌++◌, length, Option, Some, None, slice_get}
use Rattle.std.specs.Prelude.{if◌then◌else◌}
use Rattle.std.proofs.lemmas.List.Elements.{filter_map-append}
use Rattle.mind_base.specs.Range.{RangeView}
use Rattle.mind_base.specs.declared.links.LinkName.{LinkName}
use Rattle.mind_base.specs.declared.notes.Note.TheVariants as note
use Rattle.mind_base.specs.declared.notes.State.{State}
use Rattle.invalidate_multicast.specs.Transition.{is_answered, target_of}
use Rattle.protect_table.specs.Protect.{ProtectView}
use Rattle.region_directory.specs.declared.entries.Entry.{Entry}
use Rattle.wire_msg.specs.declared.msgs.Msg.{Msg}
use Rattle.switch_core.specs.Deeds.{SwitchDeed, DeniesRequest, GrantsRequest, BeginsTransition, EntersBlock, DropsEntry, MayDo, after_deed}
use Rattle.switch_core.specs.Handling.{ack_heard, noted_at, Receives}
use Rattle.switch_core.specs.Switch.{SwitchView, SwitchEffect}
use Rattle.switch_core.specs.Treating.{granted_state, noted_change, same_state}
use Rattle.tso_machine.specs.Replay.{labels, label_of}
use Rattle.switch_core.proofs.Callers.{IsHeard, IsKeptByDeeds, ends-kept, handled-heard, receives-kept}

-- no label was noted, and the permissions are these
pub record IsSilent (given : ProtectView) (e : SwitchEffect) : Type 0 where
  pub silent : labels e.noted ≡ []
  pub protect : e.switch.protect ≡ given

changed-label : (range : RangeView) (old new : State) → labels (noted_change range old new) ≡ []
changed-label range old new = by (same_state old new) where
  by : (b : Bool) → labels (if b then [] else note.Region range new ∷ []) ≡ []
  by true = refl
  by false = refl

end-label : (entry : Option Entry) → labels (noted_at entry) ≡ []
end-label None = refl
end-label (Some entry) = by (is_answered entry.busy) where
  by : (b : Bool) → labels (if b then note.Region entry.range (target_of entry entry.busy) ∷ [] else []) ≡ []
  by true = refl
  by false = refl

deed-silent : (deed : SwitchDeed) (switch : SwitchView) → MayDo deed switch → IsSilent switch.protect (after_deed deed switch)
deed-silent (DeniesRequest r at) switch may = record { silent = refl; protect = refl }
deed-silent (GrantsRequest r at i entry) switch may = record { silent = changed-label entry.range entry.state (granted_state r.write r.blade entry.state); protect = refl }
deed-silent (BeginsTransition purpose i entry) switch may = record { silent = refl; protect = refl }
deed-silent (EntersBlock page) switch may = record { silent = refl; protect = refl }
deed-silent (DropsEntry i entry) switch may = record { silent = refl; protect = refl }

serving-silent : IsKeptByDeeds (λ (switch : SwitchView). switch.protect) IsSilent
serving-silent = record {
  nothing = λ switch. record { silent = refl; protect = refl };
  follows = λ given first next one two. record {
    silent = filter_map-append label_of first.noted (next first.switch).noted ∙ ap (λ l. l ++ labels (next first.switch).noted) one.silent ∙ two.silent;
    protect = two.protect ∙ one.protect;
  };
  each = deed-silent;
}

handling-silent : IsHeard (λ kind message switch e. IsSilent switch.protect e)
handling-silent = record {
  nothing = λ kind message switch. record { silent = refl; protect = refl };
  asks = λ blade page write switch. record { silent = refl; protect = refl };
  goes_back = λ page image switch. record { silent = refl; protect = refl };
  answers = λ blade number count switch.
      let heard : SwitchEffect = ack_heard number blade count switch in
      ends-kept serving-silent (λ i s. record { silent = end-label (slice_get s.directory.entries i); protect = refl })
      switch.protect (length heard.switch.directory.entries) 0 heard (record { silent = refl; protect = refl });
  fills = λ blade page image r switch. record { silent = refl; protect = refl };
}

-- What the switch does when a message comes notes no label, and leaves the permissions.
pub receives-silent : (name : LinkName) (message : Msg) (switch : SwitchView) (effect : SwitchEffect) → Receives name message switch effect → IsSilent switch.protect effect
receives-silent name message switch effect receives =
    receives-kept serving-silent switch.protect name message switch effect receives (handled-heard handling-silent name.kind name.number message switch)
