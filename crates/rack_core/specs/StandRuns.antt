-- The labels that an event notes lead the machine on, to a state that the rack stands for.
use Rattle.std.specs.Prelude.{◌≡◌, ◌≤◌, ℕ, List, slice_get, slice_set, Some}
use Rattle.std.specs.List.{AllByRecursion}
use Rattle.mind_base.specs.Fit.{IsFit}
use Rattle.mind_base.specs.Page.{PageView}
use Rattle.mind_base.specs.Pending.{PendingView, IsPending}
use Rattle.mind_base.specs.declared.images.Image.{Image}
use Rattle.mind_base.specs.declared.notes.Note.{Note}
use Rattle.page_cache.specs.PageCache.{frame_of}
use Rattle.page_cache.specs.declared.frames.Frame.{Frame}
use Rattle.page_image.specs.PageImage.{PageImageView}
use Rattle.protect_table.specs.Protect.{permission_at}
use Rattle.compute_blade.specs.Blade.{HartView, BladeView, last_store}
use Rattle.coherence.specs.Facts.{AreFrames, IsCoherent}
use Rattle.tso_machine.specs.Replay.{Whole, labels, replay}
use Rattle.tso_machine.specs.State.{Setup, State}
use Rattle.rack_core.specs.BladeMoves.{AreBladesSound, image_or}
use Rattle.rack_core.specs.Rack.{RackView}
use Rattle.rack_core.specs.Seen.{seen}
use Rattle.rack_core.specs.Stands.{IsHartAt, RackStandsFor}

-- stores that have 1, 2 or 4 bytes and stand at multiples of their sizes
abbrev pub ArePending : List PendingView → Type 0
ArePending stores = AllByRecursion (λ store. IsPending store.address store.size) stores

-- each hart's queue holds only such stores
abbrev pub AreQueuesPending : RackView → Type 0
AreQueuesPending rack = (h : ℕ) (hart : HartView) → IsHartAt rack h hart → ArePending hart.queue.stores

-- of each hart no more stores took effect than have tags, as the blades say of their harts
abbrev pub AreCounted : RackView → Type 0
AreCounted rack = (h : ℕ) (hart : HartView) → IsHartAt rack h hart → hart.stores ≤ last_store

-- the rack's plan is one of a rack, and each blade has it
pub record HasOnePlan (rack : RackView) : Type 0 where
  pub fit : IsFit rack.plan
  pub blades : (c : ℕ) (blade : BladeView) → slice_get rack.blades c ≡ Some blade → blade.plan ≡ rack.plan

-- A rack that is coherent, and a machine made from the same plan and images in a state that the rack stands for.
pub record GoesWith (images : List Image) (setup : Setup) (rack : RackView) (flat : PageView → PageImageView) (state : State) : Type 0 where
  pub plan : setup.plan ≡ rack.plan
  pub code : setup.images ≡ images
  pub one : HasOnePlan rack
  pub frames : AreFrames (seen rack flat)
  pub sound : AreBladesSound rack
  pub pending : AreQueuesPending rack
  pub stands : RackStandsFor rack flat state

-- blade c became this one, and the switch permits what it did
pub record BladeBecame (c : ℕ) (blade : BladeView) (old new : RackView) : Type 0 where
  pub plan : new.plan ≡ old.plan
  pub blades : new.blades ≡ slice_set old.blades c blade
  pub perms : permission_at new.switch.protect ≡ permission_at old.switch.protect

-- the newest image of each page is the one that a blade with these pages holds, or what it was
abbrev pub AreNewest : List (PageView × Frame) → (PageView → PageImageView) → (PageView → PageImageView) → Type 0
AreNewest entries flat newer = (page : PageView) → newer page ≡ image_or (flat page) (frame_of page entries)

-- the labels noted lead the machine, whole, to a state that the rack stands for; and the rack's queues hold what they
-- may, and its blades have its plan
pub record LeadsMachine (setup : Setup) (state : State) (noted : List Note) (rack : RackView) (flat : PageView → PageImageView) : Type 0 where
  pub next : State
  pub run : replay setup state (labels noted) ≡ Whole next
  pub stands : RackStandsFor rack flat next
  pub pending : AreQueuesPending rack
  pub one : HasOnePlan rack

-- The rack is coherent with some newest images after an event, and the labels noted lead the machine on.
pub record GoesOn (images : List Image) (setup : Setup) (state : State) (noted : List Note) (rack : RackView) : Type 0 where
  pub flat : PageView → PageImageView
  pub coherent : IsCoherent (seen rack flat)
  pub sound : AreBladesSound rack
  pub machine : LeadsMachine setup state noted rack flat
