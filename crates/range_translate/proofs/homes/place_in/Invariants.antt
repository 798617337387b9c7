use Rattle.std.proofs.Common.{◌≡◌, take, drop}
use Rattle.std.specs.List.{AllByRecursion}
use Rattle.mind_base.specs.Home.{number_in_homes}
use Rattle.range_translate.specs.Place.{pages_of}
use Rattle.range_translate.proofs.Apart.{IsSpanView}
use Rattle.range_translate.proofs.HomeSteps.{shifted}
use Rattle.range_translate.proofs.homes.place_in.Given as goal

abbrev pub invariant-loop-span : goal.invariant-loop-span
invariant-loop-span l = record {
  spans : AllByRecursion IsSpanView (take l.span-index l.homes);
  sum : l.before ≡ pages_of (take l.span-index l.homes);
  page : l.page ≡ l.fn.page;
  rest : shifted l.before (number_in_homes (drop l.span-index l.homes) l.fn.page) ≡ number_in_homes l.homes l.fn.page;
}
