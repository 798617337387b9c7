-- What holds of an answer that is the instruction of a word.
use Rattle.std.proofs.Common.{◌≡◌, ℕ, ◌^◌, ◌<◌, Option, Some, None, refl, ap, sym, ◌∙◌, subst}
use Rattle.std.specs.Prelude.{◌↔◌, IsNone, IfSome}
use Rattle.std.proofs.lemmas.Option.{none-some}
use Rattle.rv32_decode.specs.declared.instruction.Instr.{Instr}
use Rattle.rv32_decode.specs.Instr.{Spells, Fits, instr_of, word_of}
use Rattle.rv32_decode.proofs.Rows.{instr_of-spelled, spelled-instr_of}
use Rattle.rv32_decode.proofs.Spelled.{word_of-spelled, spelled-fits, word_of-row}

pub row_answer : (w : ℕ) (r : Option Instr) → r ≡ instr_of w → (i : Instr) → (r ≡ Some i) ↔ Spells w i
row_answer w r e i = (λ s. instr_of-spelled w i (sym e ∙ s), λ s. e ∙ spelled-instr_of w i s)

pub fits_answer : (w : ℕ) (r : Option Instr) → w < 2 ^ 32 → r ≡ instr_of w → IfSome r Fits
fits_answer w None h e = tt
fits_answer w (Some i) h e = spelled-fits w i h (instr_of-spelled w i (sym e))

pub again_answer : (w : ℕ) (r : Option Instr) → w < 2 ^ 32 → r ≡ instr_of w → IfSome r (λ i. word_of i ≡ w)
again_answer w None h e = tt
again_answer w (Some i) h e = word_of-spelled w i h (instr_of-spelled w i (sym e))

pub instr_of-word_of : (w : ℕ) (i : Instr) → Fits i → w ≡ word_of i → instr_of w ≡ Some i
instr_of-word_of w i h e = ap instr_of e ∙ spelled-instr_of (word_of i) i (word_of-row i h)

pub row-word_of : (w : ℕ) (i : Instr) → Fits i → w ≡ word_of i → Spells w i
row-word_of w i h e = subst (λ v. Spells v i) (sym e) (word_of-row i h)

pub none_answer : (w : ℕ) (r : Option Instr) → r ≡ instr_of w → IsNone r ↔ ((i : Instr) → Spells w i → ⊥)
none_answer w None e = (λ _ i s. none-some i (e ∙ spelled-instr_of w i s), λ _. refl)
none_answer w (Some j) e = (λ n. cc, λ none. absurd (none j (instr_of-spelled w j (sym e))))
