-- The word for how a command ended.
use Rattle.std.specs.Prelude.{ℕ, codes, List}
use Rattle.mind_base.specs.declared.commands.Outcome.{Outcome}
use Rattle.mind_base.specs.declared.commands.Outcome.TheVariants as outcome

abbrev pub outcome_word : Outcome → List ℕ
outcome_word outcome.Fine = codes "ok"
outcome_word outcome.Unplaced = codes "unplaced"
outcome_word outcome.Overlap = codes "overlap"
outcome_word outcome.Unmapped = codes "unmapped"
outcome_word outcome.Slots = codes "slots"
outcome_word outcome.Same = codes "same"
outcome_word outcome.Room = codes "room"
