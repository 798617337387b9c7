use Rattle.std.proofs.Common.{◌≡◌, ◌⊎◌, Option, List, IsTrue, IfSome, All, sym, ap, ◌∙◌, subst}
use Rattle.std.specs.List.{find}
use Rattle.range_translate.specs.Block.{block_lies_inside, comes_before}
use Rattle.range_translate.specs.Table.{TableView}
use Rattle.range_translate.specs.declared.outliers.Outlier.{Outlier}
use Rattle.range_translate.proofs.FirstInside.{first_of}
use Rattle.range_translate.proofs.tables.Table.next_inside.Goals as goal

pub returns-clause-first : goal.returns-clause-first
returns-clause-first c =
    let r = c.args.range.now in
    let outliers : c.self.inside.outliers.items ≡ c.args.self.now.outliers = ap (λ (t : TableView). t.outliers) c.self.view_is in
    let found : c.first_inside.result ≡ find (λ (o : Outlier). block_lies_inside o.range r) c.self.inside.outliers.items
    = c.first_inside.ensures ∙ ap (find (λ (o : Outlier). block_lies_inside o.range r)) c.as_slice.ensures.value in
    subst (λ (xs : List Outlier). IfSome c.first_inside.result (λ o. All (λ p. IsTrue (block_lies_inside p.range r) → (p ≡ o) ⊎ IsTrue (comes_before o.range p.range)) xs)) outliers
    (subst (λ (s : Option Outlier). IfSome s (λ o. All (λ p. IsTrue (block_lies_inside p.range r) → (p ≡ o) ⊎ IsTrue (comes_before o.range p.range)) c.self.inside.outliers.items)) (sym found)
    (first_of r c.self.inside.outliers.items c.self.invariant.0.ordered))
