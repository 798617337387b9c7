use Rattle.std.proofs.Common.{◌≡◌, ℕ, ◌*◌, ◌<◌, ◌%◌, ◌^◌, ◌==◌, Bool, false, cond, sym, ap, ◌∙◌, arith, inl, inr}
use Rattle.std.specs.Prelude.{bit_xor}
use Rattle.std.specs.Int.{bit_at}
use Rattle.std.proofs.lemmas.Bool.{cases_lt, eq-eqb, eqb-true, false_from_ne_true}
use Rattle.std.proofs.lemmas.Nat.{one_shl}
use Rattle.std.proofs.lemmas.Nat.Bits.{bit_at_above}
use Rattle.control_plane.specs.declared.phases.Phase.{Phase}
use Rattle.control_plane.specs.declared.phases.Phase.TheVariants.{Closing, Applying}
use Rattle.control_plane.proofs.controls.closed_by.Goals as goal

below : (w b : ℕ) → w < 256 → bit_at w b ≡ 1 → b < 8
below w b lt e = elim (cases_lt b 8) [
  | inl small ↦ small
  | inr big ↦ (let none : bit_at w b ≡ 0 = bit_at_above w 8 b lt big in absurd (omega (arith, e, none)))
]

shifted : (w b : ℕ) → w < 256 → bit_at w b ≡ 1 → bit_xor w (1 * 2 ^ b % 256) ≡ bit_xor w (2 ^ b)
shifted w b lt e = ap (bit_xor w) (one_shl b 8 (below w b lt e))

pub overflow_shl-left : goal.overflow_shl-left
overflow_shl-left c = below c.args.waiting c.args.blade (omega arith) c.requires

pub returns-then-left-eq0 : goal.returns-then-left-eq0
returns-then-left-eq0 c =
    let left = bit_xor c.args.waiting (2 ^ c.args.blade) in
    let none : left ≡ 0 = sym (shifted c.args.waiting c.args.blade (omega arith) c.requires) ∙ c.if-left-eq0.true in
    sym (ap (λ (t : Bool). let p : Phase = cond t (Applying c.args.index c.args.number) (Closing c.args.index c.args.number left) in p) (eq-eqb left 0 none))

pub returns-else-left-eq0 : goal.returns-else-left-eq0
returns-else-left-eq0 c =
    let left = bit_xor c.args.waiting (2 ^ c.args.blade) in
    let same = shifted c.args.waiting c.args.blade (omega arith) c.requires in
    let some : (left == 0) ≡ false = false_from_ne_true _ (λ t. absurd (c.if-left-eq0.false (same ∙ eqb-true left 0 t))) in
    ap (λ (n : ℕ). Closing c.args.index c.args.number n) same
    ∙ sym (ap (λ (t : Bool). let p : Phase = cond t (Applying c.args.index c.args.number) (Closing c.args.index c.args.number left) in p) some)
