-- On which side of a block a page lies.
use Rattle.std.specs.Prelude.{Bool, ◌&&◌, ◌||◌, ◌==◌, nat_lt, if◌then◌else◌}
use Rattle.mind_base.specs.Page.{PageView}
use Rattle.mind_base.specs.Range.{RangeView, in_range}
use Rattle.region_directory.specs.declared.sides.Where.{Where}
use Rattle.region_directory.specs.declared.sides.Where.TheVariants.{Before, Inside, After}

-- the page comes before the first page of the block, by domain and number
abbrev pub precedes_block : PageView → RangeView → Bool
precedes_block page range = nat_lt page.domain range.domain || (page.domain == range.domain && nat_lt page.number range.base)

-- where the page lies, seen from the block
abbrev pub where_lies : RangeView → PageView → Where
where_lies range page = if in_range range page then Inside else if precedes_block page range then Before else After
