use Rattle.std.proofs.Common.{◌≡◌, ◌+◌, ◌-◌, ◌<◌, ◌∷◌, [], ◌++◌, set, length, refl, sym, ◌∙◌, ap, subst, arith}
use Rattle.std.proofs.lemmas.List.{get_or_default}
use Rattle.std.proofs.lemmas.Bool.{false≢true}
use Rattle.range_translate.specs.Piece.{AreLongest}
use Rattle.range_translate.specs.declared.outliers.Piece.{Piece}
use Rattle.range_translate.proofs.PieceSteps.{Adds, adds_to_last, adds_after_last, adds_first, longer, one}
use Rattle.range_translate.proofs.pieces.add_place.Goals as goal
use Rattle.range_translate.proofs.pieces.add_place.Goals.{else-count-gt0-via-then-count-gt0+else-goes_on, else-count-gt0-via-else-count-gt0}

adds-then : (c : goal.After-pieces-1) → Adds c.args.pieces.now.items (set c.args.pieces.now.items (c.len-count.result - 1) (longer c.index_mut.result.now)) c.args.memory c.args.number
adds-then c =
    let xs = c.args.pieces.now.items in
    let n = c.len-count.result - 1 in
    let len : n + 1 ≡ length xs = omega (arith, c.len-count.ensures, c.args.pieces.now.ok.0, c.if-count-gt0.true) in
    let within : n < length xs = omega arith in
    let same : c.index.result.now ≡ c.index_mut.result.now
    = c.index.ensures ∙ get_or_default xs n c.index.result.now c.index_mut.result.now within ∙ sym c.index_mut.ensures.value in
    let follows = c.if-goes_on.ensures.0 refl in
    adds_to_last xs n c.index_mut.result.now c.args.memory c.args.number c.requires.longest len c.index_mut.ensures.value
    (ap (λ (p : Piece). p.memory) (sym same) ∙ follows.0) (ap (λ (p : Piece). p.first + p.pages) (sym same) ∙ follows.1)

pub returns-then-goes_on-clause-places : goal.returns-then-goes_on-clause-places
returns-then-goes_on-clause-places c = (adds-then c).places

pub returns-then-goes_on-clause-longest : goal.returns-then-goes_on-clause-longest
returns-then-goes_on-clause-longest c = (adds-then c).longest

pub returns-clause-longest : goal.returns-clause-longest
returns-clause-longest c =
    let xs = c.args.pieces.now.items in
    let n = c.len-count.result - 1 in
    let adds : Adds xs (xs ++ one c.args.memory c.args.number ∷ []) c.args.memory c.args.number
    = elim c.else-count-gt0.branch [
      | else-count-gt0-via-then-count-gt0+else-goes_on w ↦
          adds_after_last xs n w.index.result.now c.args.memory c.args.number c.requires.longest (omega (arith, c.len-count.ensures, c.args.pieces.now.ok.0, w.if-count-gt0.true)) w.index.ensures
          (λ f. let t = w.if-goes_on.ensures.1 f in absurd (false≢true t))
      | else-count-gt0-via-else-count-gt0 w ↦ adds_first xs c.args.memory c.args.number (omega (arith, c.len-count.ensures, c.args.pieces.now.ok.0, w.if-count-gt0.false))
    ] in
    subst AreLongest (sym c.in_ok-push.ensures.items) adds.longest
