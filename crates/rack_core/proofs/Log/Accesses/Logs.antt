-- Accesses in lists of notes: one list behind another, and lists that have no label.
use Rattle.std.proofs.Common.{◌≡◌, ℕ, suc, ap, ◌∙◌, List, [], ◌∷◌, ◌++◌, fold}
use Rattle.std.specs.Prelude.{unwrap_or}
use Rattle.mind_base.specs.declared.notes.Note.{Note}
use Rattle.mind_base.specs.declared.notes.Note.TheVariants as note
use Rattle.coherence.specs.Held.{Holdings, held_after, no_holdings}
use Rattle.tso_machine.specs.Replay.{Replayed, Whole, Stuck, advance_all, labels, replay}
use Rattle.tso_machine.specs.State.{Setup, State, start_state}
use Rattle.tso_machine.specs.Step.{after}
use Rattle.tso_machine.specs.declared.labels.Label.{Label}
use Rattle.tso_machine.specs.declared.labels.Label.TheVariants as label
use Rattle.tso_machine.proofs.Callers.{enabled}
use Rattle.rack_core.specs.Accesses.{AreAccessesHeld, HoldsAt, state_after}

-- ---- where the machine stands

state_of : Replayed → State → State
state_of (Whole state) other = state
state_of (Stuck n state) other = state

-- a label that is enabled leads on
labelled : (setup : Setup) (k : ℕ) (m last : State) (l : Label) (notes : List Note) → ((s : State) → advance_all setup (suc k) (Whole s) (labels notes) ≡ Whole last → fold (state_after setup) s notes ≡ last)
    → advance_all setup k (Whole m) (l ∷ labels notes) ≡ Whole last → fold (state_after setup) (unwrap_or (after setup m l) m) notes ≡ last
labelled setup k m last l notes rest e =
    let first = enabled setup k m last l (labels notes) e in
    ap (λ o. fold (state_after setup) (unwrap_or o m) notes) first.1 ∙ rest first.0 first.2

states-from : (setup : Setup) (k : ℕ) (m last : State) (notes : List Note) → advance_all setup k (Whole m) (labels notes) ≡ Whole last → fold (state_after setup) m notes ≡ last
unfolding state_of
states-from setup k m last [] e = ap (λ r. state_of r m) e
states-from setup k m last (note.Exec h ∷ notes) e = labelled setup k m last (label.Exec h) notes (λ s. states-from setup (suc k) s last notes) e
states-from setup k m last (note.Drain h ∷ notes) e = labelled setup k m last (label.Drain h) notes (λ s. states-from setup (suc k) s last notes) e
states-from setup k m last (note.Command index ∷ notes) e = labelled setup k m last (label.Command index) notes (λ s. states-from setup (suc k) s last notes) e
states-from setup k m last (note.Event index ∷ notes) e = states-from setup k m last notes e
states-from setup k m last (note.Moved index outcome ∷ notes) e = states-from setup k m last notes e
states-from setup k m last (note.Take blade page writable ∷ notes) e = states-from setup k m last notes e
states-from setup k m last (note.Give blade page ∷ notes) e = states-from setup k m last notes e
states-from setup k m last (note.Down blade page ∷ notes) e = states-from setup k m last notes e
states-from setup k m last (note.Region range state ∷ notes) e = states-from setup k m last notes e
states-from setup k m last (note.Gone range ∷ notes) e = states-from setup k m last notes e
states-from setup k m last (note.Split range ∷ notes) e = states-from setup k m last notes e
states-from setup k m last (note.Merge range ∷ notes) e = states-from setup k m last notes e

-- a whole run leads where the notes do
pub states-led : (setup : Setup) (m last : State) (notes : List Note) → replay setup m (labels notes) ≡ Whole last → fold (state_after setup) m notes ≡ last
states-led setup m last notes e = states-from setup 0 m last notes e

-- notes without a label lead nowhere
pub silent-stays : (setup : Setup) (m : State) (notes : List Note) → labels notes ≡ [] → fold (state_after setup) m notes ≡ m
silent-stays setup m notes e = states-led setup m m notes (ap (replay setup m) e)

-- ---- one list behind another

pub accesses-then : (setup : Setup) (m : State) (held : Holdings) (first later : List Note) → AreAccessesHeld setup m held first
    → AreAccessesHeld setup (fold (state_after setup) m first) (fold held_after held first) later → AreAccessesHeld setup m held (first ++ later)
accesses-then setup m held [] later one two = two
accesses-then setup m held (n ∷ first) later one two = (one.0, accesses-then setup (state_after setup m n) (held_after held n) first later one.1 two)

-- the number of an event may be noted at any time
pub accesses-event : (setup : Setup) (log : List Note) (index : ℕ) → AreAccessesHeld setup (start_state setup) no_holdings log → AreAccessesHeld setup (start_state setup) no_holdings (log ++ note.Event index ∷ [])
accesses-event setup log index all = accesses-then setup (start_state setup) no_holdings log (note.Event index ∷ []) all (tt, tt)

-- at a note among them
pub accesses-at : (setup : Setup) (m : State) (held : Holdings) (before : List Note) (n : Note) (later : List Note) → AreAccessesHeld setup m held (before ++ n ∷ later)
    → HoldsAt setup (fold (state_after setup) m before) (fold held_after held before) n
accesses-at setup m held [] n later all = all.0
accesses-at setup m held (first ∷ before) n later all = accesses-at setup (state_after setup m first) (held_after held first) before n later all.1

-- ---- no label

pub silent-held : (setup : Setup) (m : State) (held : Holdings) (notes : List Note) → labels notes ≡ [] → AreAccessesHeld setup m held notes
silent-held setup m held [] e = tt
silent-held setup m held (note.Exec h ∷ notes) e = let never : ⊥ = cc in absurd never
silent-held setup m held (note.Drain h ∷ notes) e = let never : ⊥ = cc in absurd never
silent-held setup m held (note.Command index ∷ notes) e = let never : ⊥ = cc in absurd never
silent-held setup m held (note.Event index ∷ notes) e = (tt, silent-held setup m held notes e)
silent-held setup m held (note.Moved index outcome ∷ notes) e = (tt, silent-held setup m held notes e)
silent-held setup m held (note.Take blade page writable ∷ notes) e = (tt, silent-held setup m (held_after held (note.Take blade page writable)) notes e)
silent-held setup m held (note.Give blade page ∷ notes) e = (tt, silent-held setup m (held_after held (note.Give blade page)) notes e)
silent-held setup m held (note.Down blade page ∷ notes) e = (tt, silent-held setup m (held_after held (note.Down blade page)) notes e)
silent-held setup m held (note.Region range state ∷ notes) e = (tt, silent-held setup m held notes e)
silent-held setup m held (note.Gone range ∷ notes) e = (tt, silent-held setup m held notes e)
silent-held setup m held (note.Split range ∷ notes) e = (tt, silent-held setup m held notes e)
silent-held setup m held (note.Merge range ∷ notes) e = (tt, silent-held setup m held notes e)
