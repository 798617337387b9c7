-- A rack that starts.
use Rattle.std.specs.Prelude.{◌≡◌, ◌+◌, List, [], length, map, replicate}
use Rattle.std.specs.List.{range_with_len}
use Rattle.mind_base.specs.Permission.{permission_of}
use Rattle.mind_base.specs.declared.plans.MemoryPlan.{MemoryPlan}
use Rattle.mind_base.specs.declared.plans.RackPlan.{RackPlan}
use Rattle.page_image.specs.PageImage.{PageImageView, zero_image}
use Rattle.protect_table.specs.Protect.{permission_at}
use Rattle.range_translate.specs.Place.{pages_of}
use Rattle.compute_blade.specs.Start.{first_blade}
use Rattle.rack_net.specs.Net.{links_of, empty_link}
use Rattle.switch_core.specs.Switch.{SwitchView}
use Rattle.rack_core.specs.Rack.{RackView}

-- Pages lie at their homes, and the plan's maps say what domains may do with them; nobody holds a page or has
-- asked for one.
pub record IsFirstSwitch (plan : RackPlan) (switch : SwitchView) : Type 0 where
  pub of_plan : switch.plan ≡ plan
  pub table : switch.table ≡ record { homes = plan.memories; slots = plan.outliers; outliers = [] }
  pub protect : permission_at switch.protect ≡ permission_of plan.maps
  pub directory : switch.directory ≡ record { slots = plan.slots; most = plan.most; entries = [] }
  pub requests : switch.requests ≡ []
  pub last : switch.last ≡ 0

-- the images of a memory blade: of each home page and each spare page, all zero
abbrev pub first_memory : MemoryPlan → List PageImageView
first_memory memory = replicate (pages_of memory.homes + memory.spare) zero_image

-- The rack of a plan before its first event: each thread stands at the start of its image, no blade holds a
-- page, all pages are zero, and no message is under way.
pub record IsStart (plan : RackPlan) (rack : RackView) : Type 0 where
  pub of_plan : rack.plan ≡ plan
  pub blades : rack.blades ≡ map (first_blade plan) (range_with_len 0 (length plan.frames))
  pub switch : IsFirstSwitch plan rack.switch
  pub memories : rack.memories ≡ map first_memory plan.memories
  pub net : links_of rack.net ≡ (λ name. empty_link)
  pub asked : rack.asked ≡ 0
