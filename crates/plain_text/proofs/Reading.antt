-- Reading lines one after the other, as a loop does that cuts the first line off what is left.
use Rattle.std.proofs.Common.{◌≡◌, ℕ, ◌+◌, List, [], ◌∷◌, length, Result, Ok, Err, refl, sym, ap, ◌∙◌}
use Rattle.std.specs.Str.Lines.{lines}
use Rattle.std.proofs.lemmas.List.{nil_from_length}
use Rattle.plain_text.specs.declared.refusals.LineRefusal.{LineRefusal}
use Rattle.plain_text.specs.declared.refusals.LineRefusal.TheVariants as refusals
use Rattle.plain_text.specs.Reading.{FirstFault, Fails, lines_read}

-- what is still to be read is what was to be read at first: `total` is the answer to the whole text
pub goes_on : {A E : Type 0} (one : ℕ → A → List ℕ → Result A E) (line : ℕ) (before : A) (rest text after : List ℕ) (so_far : A) (total : Result A E)
    → lines rest ≡ text ∷ lines after → lines_read one line before (lines rest) ≡ total → one line before text ≡ Ok so_far
    → lines_read one (line + 1) so_far (lines after) ≡ total
unfolding lines_read
goes_on one line before rest text after so_far total cut all read =
    let step : lines_read one line before (text ∷ lines after) ≡ lines_read one (line + 1) so_far (lines after) = rw read refl in
    sym step ∙ ap (lines_read one line before) (sym cut) ∙ all

pub stops : {A F : Type 0} (e : LineRefusal F) (one : ℕ → A → List ℕ → Result A (FirstFault F)) (line : ℕ) (before : A) (rest text after : List ℕ) (total : Result A (FirstFault F))
    → lines rest ≡ text ∷ lines after → lines_read one line before (lines rest) ≡ total → Fails e (one line before text) → Fails e total
unfolding lines_read
stops refusals.NoMemory one line before rest text after total cut all read = tt
stops (refusals.Refused l what) one line before rest text after total cut all read =
    let step : lines_read one line before (text ∷ lines after) ≡ Err (record { line = l; what = what }) = rw read refl in
    sym all ∙ ap (lines_read one line before) cut ∙ step

pub ends : {A E : Type 0} (one : ℕ → A → List ℕ → Result A E) (line : ℕ) (before : A) (rest : List ℕ) (total : Result A E)
    → length rest ≡ 0 → lines_read one line before (lines rest) ≡ total → total ≡ Ok before
unfolding lines_read
ends one line before rest total none all =
    let no_lines : lines rest ≡ [] = ap lines (nil_from_length rest none) in
    sym all ∙ ap (lines_read one line before) no_lines
