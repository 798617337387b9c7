use Rattle.std.proofs.Common.{◌≡◌, drop}
use Rattle.rack_file.specs.Tables.{left_after, page_count}
use Rattle.rack_file.proofs.homes.left_by.Given as goal

abbrev pub invariant-loop-span : goal.invariant-loop-span
invariant-loop-span l = left_after l.left (page_count (drop l.span-index l.spans)) ≡ left_after l.pages (page_count l.spans)
