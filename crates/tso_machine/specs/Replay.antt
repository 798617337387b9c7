-- Whole runs: the labels of a log, one after another.
use Rattle.std.specs.Prelude.{ℕ, suc, List, [], ◌∷◌, Option, Some, None}
use Rattle.std.specs.List.{filter_map}
use Rattle.mind_base.specs.declared.notes.Note.{Note}
use Rattle.mind_base.specs.declared.notes.Note.TheVariants as note
use Rattle.tso_machine.specs.declared.labels.Label.{Label}
use Rattle.tso_machine.specs.declared.labels.Label.TheVariants as label
use Rattle.tso_machine.specs.State.{Setup, State}
use Rattle.tso_machine.specs.Step.{after}

-- the label that a note is, if it is one
abbrev pub label_of : Note → Option Label
label_of (note.Exec hart) = Some (label.Exec hart)
label_of (note.Drain hart) = Some (label.Drain hart)
label_of (note.Command index) = Some (label.Command index)
label_of note = None

-- the labels of a log, in order
abbrev pub labels : List Note → List Label
labels notes = filter_map label_of notes

-- where labels lead: through all of them to a state, or to the first that is not enabled, by its number from 0
pub data Replayed : Type 0 where
  Whole : (state : State) → Replayed
  Stuck : (label : ℕ) (state : State) → Replayed

abbrev pub advanced : ℕ → State → Option State → Replayed
advanced n state None = Stuck n state
advanced n state (Some next) = Whole next

-- one label more; behind a label that is not enabled nothing happens
abbrev pub advance : Setup → ℕ → Replayed → Label → Replayed
advance setup n (Whole state) label = advanced n state (after setup state label)
advance setup n (Stuck k state) label = Stuck k state

abbrev pub advance_all : Setup → ℕ → Replayed → List Label → Replayed
advance_all setup n replayed [] = replayed
advance_all setup n replayed (label ∷ labels) = advance_all setup (suc n) (advance setup n replayed label) labels

-- where labels lead from a state
abbrev pub replay : Setup → State → List Label → Replayed
replay setup state labels = advance_all setup 0 (Whole state) labels
