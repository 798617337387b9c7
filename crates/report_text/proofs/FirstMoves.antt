-- The outcome of the first move of each number, one note more at a time.
use Rattle.std.proofs.Common.{◌≡◌, ℕ, ◌+◌, ◌<◌, ◌∙◌, List, [], ◌∷◌, ◌++◌, take, ap, sym, refl, Option, Some, None}
use Rattle.std.specs.List.{slice_get}
use Rattle.std.specs.Option.{option_or}
use Rattle.mind_base.specs.declared.commands.Outcome.{Outcome}
use Rattle.mind_base.specs.declared.notes.Note.{Note}
use Rattle.tso_machine.proofs.Callers.{take-at}
use Rattle.report_text.specs.CommandLine.{moved_in, moved_at}

or-none : (o : Option Outcome) → option_or o None ≡ o
or-none None = refl
or-none (Some outcome) = refl

or-assoc : (o p q : Option Outcome) → option_or o (option_or p q) ≡ option_or (option_or o p) q
or-assoc None p q = refl
or-assoc (Some outcome) p q = refl

moved-end : (notes : List Note) (note : Note) (index : ℕ) → moved_at (notes ++ note ∷ []) index ≡ option_or (moved_at notes index) (moved_in note index)
moved-end [] note index = or-none (moved_in note index)
moved-end (n ∷ notes) note index = ap (option_or (moved_in n index)) (moved-end notes note index)
    ∙ or-assoc (moved_in n index) (moved_at notes index) (moved_in note index)

-- behind one more note
pub moved-more : (notes : List Note) (i : ℕ) (note : Note) (index : ℕ) → slice_get notes i ≡ Some note
    → moved_at (take (i + 1) notes) index ≡ option_or (moved_at (take i notes) index) (moved_in note index)
moved-more notes i note index e = ap (λ ns. moved_at ns index) (take-at notes i note e) ∙ moved-end (take i notes) note index
