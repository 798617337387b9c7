-- What happens at once: labels that stand in the very event that asks for them, by what the log before it tells is held.
use Rattle.std.specs.Prelude.{◌≡◌, ℕ, List, [], ◌∷◌, Some}
use Rattle.mind_base.specs.declared.events.Event.{Event}
use Rattle.mind_base.specs.declared.events.Event.TheVariants.{Step, Drain}
use Rattle.mind_base.specs.declared.notes.Note.{Note}
use Rattle.coherence.specs.Held.{Holdings, held_by}
use Rattle.tso_machine.specs.Replay.{labels}
use Rattle.tso_machine.specs.Scheduled.{step_label}
use Rattle.tso_machine.specs.State.{Setup, State}
use Rattle.tso_machine.specs.declared.labels.Label.TheVariants as label
use Rattle.rack_core.specs.AtOnce.{ExecutesAtOnce, HoldsOldest, IsAtMostOne}
use Rattle.rack_settle.specs.Numbered.{HasPart}

-- ---- the labels of one event

-- a step's label stands in it where what it needs is at hand: its execution, or the drain that must come first
pub record IsPromptStep (setup : Setup) (held : Holdings) (m : State) (h : ℕ) (noted : List Note) : Type 0 where
  pub executes : ExecutesAtOnce setup held m h → labels noted ≡ label.Exec h ∷ []
  pub drains : step_label setup m.threads h ≡ Some (label.Drain h) → HoldsOldest setup held m h → labels noted ≡ label.Drain h ∷ []
  pub one : IsAtMostOne h (labels noted)

pub record IsPromptDrain (setup : Setup) (held : Holdings) (m : State) (h : ℕ) (noted : List Note) : Type 0 where
  pub drains : HoldsOldest setup held m h → labels noted ≡ label.Drain h ∷ []
  pub one : IsAtMostOne h (labels noted)

abbrev pub IsPrompt : Setup → Holdings → State → Event → List Note → Type 0
IsPrompt setup held m (Step h) noted = IsPromptStep setup held m h noted
IsPrompt setup held m (Drain h) noted = IsPromptDrain setup held m h noted
IsPrompt setup held m event noted = Unit {0}

-- ---- in a log

-- By the state to which the labels before the event with this number lead, and by what the notes before it tell is held,
-- its labels stand in its part of the log where they can. So many events stand behind it.
pub record HappensInLog (setup : Setup) (log : List Note) (index : ℕ) (event : Event) (left : ℕ) : Type 0 where
  pub part : HasPart setup log index 1 left
  pub open part use *
  pub prompt : IsPrompt setup (held_by before) state event now
