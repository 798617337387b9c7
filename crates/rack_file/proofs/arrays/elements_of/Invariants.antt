use Rattle.std.proofs.Common.{◌≡◌, ◌≤◌, length, [], drop}
use Rattle.toml.specs.View.{items_view}
use Rattle.rack_file.specs.Keys.{items_judged}
use Rattle.rack_file.proofs.arrays.elements_of.Given as goal

abbrev pub invariant-loop-value : goal.invariant-loop-value
invariant-loop-value g l = record {
  count : length l.elements ≤ l.value-index;
  walk : items_judged (λ done. g.R.ElementReader.judged l.reader) l.name l.elements (items_view (drop l.value-index l.values)) ≡ items_judged (λ done. g.R.ElementReader.judged l.reader) l.name [] (items_view l.values);
}
