-- Which part of a log is that of which events, by the numbers of events that stand in it.
use Rattle.std.specs.Prelude.{◌≡◌, ℕ, zero, suc, ◌+◌, List, [], ◌∷◌, ◌++◌}
use Rattle.std.specs.List.{AllByRecursion}
use Rattle.mind_base.specs.declared.notes.Note.{Note}
use Rattle.mind_base.specs.declared.notes.Note.TheVariants as note
use Rattle.tso_machine.specs.Replay.{Whole, labels, replay}
use Rattle.tso_machine.specs.State.{Setup, State, start_state}

-- the note is no event's number
abbrev pub IsNoNumber : Note → Type 0
IsNoNumber n = (index : ℕ) → n ≡ note.Event index → ⊥

-- The notes are those of so many events that follow one another, the first of which has this number: the number of each
-- one, and behind it notes that are no numbers.
abbrev pub AreOfEvents : ℕ → ℕ → List Note → Type 0
AreOfEvents from zero notes = notes ≡ []
AreOfEvents from (suc count) notes = (noted later : List Note)
    × AllByRecursion IsNoNumber noted × AreOfEvents (suc from) count later × (notes ≡ note.Event from ∷ (noted ++ later))

-- The part of a log that is that of so many events from this one on, where so many more stand behind them, and the state
-- to which the labels before it lead.
pub record HasPart (setup : Setup) (log : List Note) (from count left : ℕ) : Type 0 where
  pub before : List Note
  pub now : List Note
  pub after : List Note
  pub split : log ≡ before ++ (now ++ after)
  pub ahead : AreOfEvents 0 from before
  pub own : AreOfEvents from count now
  pub behind : AreOfEvents (from + count) left after
  pub state : State
  pub run : replay setup (start_state setup) (labels before) ≡ Whole state
