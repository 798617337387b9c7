-- Outliers in order.
use Rattle.std.specs.Prelude.{List, [], ◌∷◌, ◌++◌, filter, IsTrue}
use Rattle.std.specs.List.{AllByRecursion}
use Rattle.range_translate.specs.Block.{comes_before}
use Rattle.range_translate.specs.declared.outliers.Outlier.{Outlier}

-- each outlier comes before all that follow, by domain, first page and size
abbrev pub IsOrdered : List Outlier → Type 0
IsOrdered [] = Unit {0}
IsOrdered (o ∷ os) = AllByRecursion (λ p. IsTrue (comes_before o.range p.range)) os × IsOrdered os

-- an outlier in its place among others: those that come before it, it, and those that come after it
abbrev pub put_in_order : Outlier → List Outlier → List Outlier
put_in_order o os = filter (λ p. comes_before p.range o.range) os ++ o ∷ filter (λ p. comes_before o.range p.range) os
