use Rattle.std.proofs.Common.{◌≡◌, ◌≤◌, take}
use Rattle.std.specs.List.{AllByRecursion}
use Rattle.range_translate.specs.Place.{pages_of}
use Rattle.range_translate.proofs.Apart.{IsSpanView}
use Rattle.range_translate.proofs.homes.pages_of.Given as goal

abbrev pub invariant-loop-span : goal.invariant-loop-span
invariant-loop-span l = record {
  spans : AllByRecursion IsSpanView (take l.span-index l.homes);
  sum : l.pages ≡ pages_of (take l.span-index l.homes);
  few : l.pages ≤ 16777216;
}
