-- What a map of labels has for a name.
use Rattle.std.specs.Prelude.{ℕ, List, Option}
use Rattle.std.specs.Cmp.Lexicographic.{slice_cmp}
use Rattle.std.specs.Ordering.{nat_cmp}
use Rattle.std.specs.Borrow.{Bor}
use Rattle.std.specs.BTreeMap.{BTreeMap, get_by}
use Rattle.rv32_text.specs.declared.labels.Defined.{Defined}

abbrev pub found_in : BTreeMap (Bor (List ℕ)) Defined → List ℕ → Option Defined
found_in labels name = get_by (λ k. slice_cmp nat_cmp name k.now) labels
