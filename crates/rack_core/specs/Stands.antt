-- The rack stands for a state of the abstract machine: the same threads, and the newest images have the
-- machine's bytes.
use Rattle.std.specs.Prelude.{◌≡◌, ◌≤◌, ◌<◌, ℕ, ◌/◌, ◌%◌, ◌==◌, [], slice_get, slice_index, Option, Some, None, if◌then◌else◌}
use Rattle.mind_base.specs.Place.{index_in_page, page_with, Granule}
use Rattle.hart_effect.specs.Deed.{reserving}
use Rattle.hart_effect.specs.Thread.{Thread}
use Rattle.mind_base.specs.Page.{PageView, page_of, page_offset_at}
use Rattle.mind_base.specs.Permission.{permission_of}
use Rattle.mind_base.specs.declared.plans.ThreadPlan.{ThreadPlan}
use Rattle.page_image.specs.PageImage.{PageImageView, IsPageImage, tag_at}
use Rattle.protect_table.specs.Protect.{permission_at}
use Rattle.compute_blade.specs.Blade.{HartView, BladeView, hart_of}
use Rattle.compute_blade.specs.Frames.{thread_of}
use Rattle.compute_blade.specs.declared.kept.Reservation.{Reservation}
use Rattle.tso_machine.specs.Memory.{byte_of}
use Rattle.tso_machine.specs.State.{State}
use Rattle.rack_core.specs.Rack.{RackView}

-- the granule that a blade keeps reserved, where its newest tag is that which LR saw
abbrev pub reserved_in : (PageView → PageImageView) → Option Reservation → Option Granule
reserved_in flat None = None
reserved_in flat (Some kept) =
    if tag_at (flat (page_with kept.granule)) (index_in_page kept.granule) == kept.tag then Some kept.granule else None

-- a hart of a blade as a thread of the machine: as its instructions see it, but for what it keeps reserved
abbrev pub machine_thread : (PageView → PageImageView) → HartView → Thread
machine_thread flat hart = reserving (reserved_in flat hart.reserved) (thread_of [] hart)

-- hart h is at its blade, as the plan says
pub record IsHartAt (rack : RackView) (h : ℕ) (hart : HartView) : Type 0 where
  pub plan : ThreadPlan
  pub blade : BladeView
  pub thread : slice_get rack.plan.threads h ≡ Some plan
  pub there : slice_get rack.blades plan.blade ≡ Some blade
  pub own : hart_of blade h ≡ Some hart

-- no more stores of the tag's hart took effect than the tag counts: tags that come are new
abbrev pub IsPast : RackView → ℕ → Type 0
IsPast rack tag = (hart : HartView) → IsHartAt rack (tag % 64) hart → tag / 64 ≤ hart.stores

pub record RackStandsFor (rack : RackView) (flat : PageView → PageImageView) (state : State) : Type 0 where
  pub threads : (h : ℕ) (hart : HartView) → IsHartAt rack h hart → slice_get state.threads h ≡ Some (machine_thread flat hart)
  pub bytes : (domain address : ℕ) → byte_of state.writes domain address ≡ slice_index (flat (page_of domain address)).bytes (page_offset_at address)
  pub perms : permission_of state.perms ≡ permission_at rack.switch.protect
  pub images : (page : PageView) → IsPageImage (flat page)
  pub tags : (page : PageView) (granule : ℕ) → granule < 64 → IsPast rack (tag_at (flat page) granule)
  pub kept : (h : ℕ) (hart : HartView) (reservation : Reservation) → IsHartAt rack h hart → hart.reserved ≡ Some reservation → IsPast rack reservation.tag
