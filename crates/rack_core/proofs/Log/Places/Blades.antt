-- What a blade notes, whatever it does: of its own harts and of its own pages.
use Rattle.std.proofs.Common.{◌≡◌, refl, sym, ◌∙◌, ap, subst, ℕ, true, List, [], ◌∷◌}
use Rattle.std.specs.Prelude.{is_some}
use Rattle.std.specs.List.{AllByRecursion}
use Rattle.mind_base.specs.declared.notes.Note.{Note}
use Rattle.mind_base.specs.declared.notes.Note.TheVariants as note
use Rattle.compute_blade.specs.Actions.{Action, GivesUp, Lowers, Takes, Asks, Wakes, Performs, Refuses, Drains, Acks, after_action, after_actions, MayAct, MayActEach, IsActions}
use Rattle.compute_blade.specs.Blade.{BladeView, BladeEffect, hart_of}
use Rattle.rack_core.specs.Noted.{IsOfBlade}
use Rattle.rack_core.proofs.Machine.Counts.{HartsStay, action-stays}
use Rattle.rack_core.proofs.Lists.Parts.{some-is}
use Rattle.switch_core.proofs.Callers.{all-append}

-- the hart is one of the blade's
abbrev pub HasHart : BladeView → ℕ → Type 0
HasHart blade h = is_some (hart_of blade h) ≡ true

-- notes of this blade
abbrev pub AreOfBlade : BladeView → List Note → Type 0
AreOfBlade blade notes = AllByRecursion (IsOfBlade blade.number (HasHart blade)) notes

-- a note of the blade as it is then is one of the blade as it was
note-before : (a b : ℕ) (Has Had : ℕ → Type 0) → a ≡ b → ((h : ℕ) → Has h → Had h) → (n : Note) → IsOfBlade a Has n → IsOfBlade b Had n
note-before a b Has Had same had (note.Exec h) is = had h is
note-before a b Has Had same had (note.Drain h) is = had h is
note-before a b Has Had same had (note.Take c page writable) is = is ∙ same
note-before a b Has Had same had (note.Give c page) is = is ∙ same
note-before a b Has Had same had (note.Down c page) is = is ∙ same
note-before a b Has Had same had (note.Event index) is = absurd is
note-before a b Has Had same had (note.Command index) is = absurd is
note-before a b Has Had same had (note.Moved index outcome) is = absurd is
note-before a b Has Had same had (note.Region range state) is = absurd is
note-before a b Has Had same had (note.Gone range) is = absurd is
note-before a b Has Had same had (note.Split range) is = absurd is
note-before a b Has Had same had (note.Merge range) is = absurd is

notes-before : (old new : BladeView) → HartsStay old new → (notes : List Note) → AreOfBlade new notes → AreOfBlade old notes
notes-before old new stay [] all = tt
notes-before old new stay (n ∷ notes) all =
    (note-before new.number old.number (HasHart new) (HasHart old) stay.number had n all.0, notes-before old new stay notes all.1)
  where
    had : (h : ℕ) → HasHart new h → HasHart old h
    had h has = let now = some-is (hart_of new h) has in ap is_some (stay.back h now.0 now.1).1

action-notes : (action : Action) (blade : BladeView) → MayAct action blade → AreOfBlade blade (after_action action blade).noted
action-notes (GivesUp page frame) blade may = (refl, tt)
action-notes (Lowers page frame) blade may = (refl, tt)
action-notes (Takes page frame) blade may = (refl, tt)
action-notes (Asks h hart waits need) blade may = tt
action-notes (Wakes hart asked) blade may = tt
action-notes (Performs h hart plan found pc deed) blade may = (ap is_some may.at.own, tt)
action-notes (Refuses h hart denial pc) blade may = (ap is_some may.own, tt)
action-notes (Drains h hart plan oldest newer) blade may = (ap is_some may.own, tt)
action-notes (Acks number count) blade may = tt

actions-note : (actions : List Action) (blade : BladeView) → MayActEach actions blade → AreOfBlade blade (after_actions actions blade).noted
actions-note [] blade may = tt
actions-note (action ∷ actions) blade may =
    let next = (after_action action blade).blade in
    all-append (IsOfBlade blade.number (HasHart blade)) (after_action action blade).noted (after_actions actions next).noted
    (action-notes action blade may.0)
    (notes-before blade next (action-stays action blade may.0) (after_actions actions next).noted (actions-note actions next may.1))

-- what is actions in a row
pub acts-note : (blade : BladeView) (e : BladeEffect) → IsActions blade e → AreOfBlade blade e.noted
acts-note blade e acts = subst (λ (x : BladeEffect). AreOfBlade blade x.noted) (sym acts.done) (actions-note acts.actions blade acts.may)
