-- Notes that tell, lawfully at every point of them, how the rack changed.
use Rattle.std.specs.Prelude.{List}
use Rattle.mind_base.specs.Page.{PageView}
use Rattle.mind_base.specs.declared.notes.Note.{Note}
use Rattle.mind_base.specs.declared.plans.RackPlan.{RackPlan}
use Rattle.page_image.specs.PageImage.{PageImageView}
use Rattle.coherence.specs.Held.{held_by, in_force, no_holdings, no_entries}
use Rattle.coherence.specs.Lawful.{AreLawful, Matches, Tells}
use Rattle.rack_core.specs.Frames.{HaveFrames}
use Rattle.rack_core.specs.Rack.{RackView}
use Rattle.rack_core.specs.Seen.{seen}
use Rattle.rack_core.specs.SwitchMoves.{HasSlots}

-- The directory has the plan's slots, and no more entries; each blade has the frames that the plan gives it.
pub record HasRoom (plan : RackPlan) (rack : RackView) : Type 0 where
  pub slots : HasSlots plan rack.switch
  pub frames : HaveFrames plan rack.blades

-- Whatever matched the old rack in what is held and in force, the notes are lawful from there and lead to what matches
-- the new one, and that has room still. Newest images do not matter.
pub record NotesTell (plan : RackPlan) (old new : RackView) (noted : List Note) : Type 0 where
  pub room : HasRoom plan new
  pub told : (flat after : PageView → PageImageView) → Tells plan (seen old flat) noted (seen new after)

-- A log that is lawful at every point of it, and leads to what is held and in force in the rack.
pub record IsLogOf (plan : RackPlan) (rack : RackView) (log : List Note) : Type 0 where
  pub lawful : AreLawful plan no_holdings no_entries log
  pub matches : (flat : PageView → PageImageView) → Matches (held_by log) (in_force log) (seen rack flat)
