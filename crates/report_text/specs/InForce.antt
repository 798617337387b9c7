-- The blocks that a report counts, beside the entries of a directory.
use Rattle.std.specs.Prelude.{◌≡◌, List, is_some}
use Rattle.std.specs.List.{IsDistinct}
use Rattle.mind_base.specs.Range.{RangeView, same_range}
use Rattle.coherence.specs.Held.{Entries}
use Rattle.report_text.specs.Force.{has_block}

-- the blocks are those whose entries are in force, none twice
pub record AreInForce (blocks : List RangeView) (entries : Entries) : Type 0 where
  pub same : (r : RangeView) → has_block r blocks ≡ is_some (entries r)
  pub apart : IsDistinct same_range blocks
