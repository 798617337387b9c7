use Rattle.std.proofs.Common.{◌≡◌, Some, map}
use Rattle.std.specs.List.{flat_map}
use Rattle.range_translate.specs.Place.{physical_place}
use Rattle.range_translate.specs.Piece.{pages_in, places_in, AreLongest}
use Rattle.range_translate.proofs.tables.Table.pieces.Given as goal

abbrev pub invariant-loop-i : goal.invariant-loop-i
invariant-loop-i l = record {
  places : map Some (flat_map places_in l.found.items) ≡ map (physical_place l.self.homes l.self.outliers) (pages_in (record { domain = l.span.domain; base = l.span.base; pages = l.i }));
  longest : AreLongest l.found.items;
}
