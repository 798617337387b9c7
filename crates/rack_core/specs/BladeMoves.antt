-- A compute blade as the coherence of the rack sees it, and what must be true of a blade beside coherence.
use Rattle.std.specs.Prelude.{◌≡◌, ◌⊎◌, ℕ, Bool, true, false, List, [], ◌∷◌, ◌++◌, slice_get, Option, Some, None, option_and_then, option_map}
use Rattle.std.specs.List.{AllByRecursion}
use Rattle.mind_base.specs.Page.{PageView}
use Rattle.mind_base.specs.Pending.{PendingView}
use Rattle.mind_base.specs.declared.commands.Perm.{Perm}
use Rattle.mind_base.specs.declared.plans.ThreadPlan.{ThreadPlan}
use Rattle.mind_base.specs.Place.{place_of, page_at}
use Rattle.mind_base.specs.Permission.{may_write}
use Rattle.page_cache.specs.PageCache.{IsPageCache, frame_of, same_page}
use Rattle.page_cache.specs.declared.frames.Frame.{Frame}
use Rattle.page_image.specs.PageImage.{PageImageView}
use Rattle.wire_msg.specs.declared.msgs.Msg.{Msg}
use Rattle.compute_blade.specs.Blade.{HartView, BladeView, BladeEffect, request_for}
use Rattle.compute_blade.specs.declared.kept.Asked.{Asked}
use Rattle.compute_blade.specs.declared.kept.Waits.{Waits}
use Rattle.compute_blade.specs.declared.kept.Waits.TheVariants.{Step, Drain}
use Rattle.protect_table.specs.Protect.{permission_at}
use Rattle.coherence.specs.Moves.{Move}
use Rattle.coherence.specs.Runs.{Run}
use Rattle.coherence.specs.World.{World, put}
use Rattle.rack_core.specs.Rack.{RackView}
use Rattle.rack_core.specs.Seen.{frame_at}

-- ---- a blade in the world

-- whether the request for a page that is out is for writing
abbrev pub asked_in : List Asked → PageView → Option Bool
asked_in requests page = option_map (λ asked. asked.write) (request_for page requests)

-- the world when blade c is as this one, and it sent these messages, with the newest images
abbrev pub with_seen_blade : ℕ → BladeView → List Msg → (PageView → PageImageView) → World → World
with_seen_blade c blade sent flat w = record w {
  frames = put c (λ page. frame_of page blade.cache.entries) w.frames;
  asks = put c (asked_in blade.requests) w.asks;
  ups = put c (w.ups c ++ sent) w.ups;
  flat = flat;
}

-- the world has the blade as blade c
pub record HasBlade (c : ℕ) (blade : BladeView) (w : World) : Type 0 where
  pub frames : (page : PageView) → w.frames c page ≡ frame_of page blade.cache.entries
  pub asks : (page : PageView) → w.asks c page ≡ asked_in blade.requests page

-- moves lead from a world to another one in which blade c is as this one, has sent these messages, and these
-- are the newest images
pub record LeadsTo (w other : World) (c : ℕ) (blade : BladeView) (sent : List Msg) (flat : PageView → PageImageView) : Type 0 where
  pub moves : List Move
  pub run : Run w moves (with_seen_blade c blade sent flat other)

-- ---- what is true of a blade

-- hart h, if there is one
abbrev pub hart_in : List (Option HartView) → ℕ → Option HartView
hart_in harts h = option_and_then (λ hart. hart) (slice_get harts h)

-- A request for which a step waits: its hart is the blade's, and its step waits.
pub record IsStepRequest (threads : List ThreadPlan) (harts : List (Option HartView)) (asked : Asked) : Type 0 where
  pub plan : ThreadPlan
  pub hart : HartView
  pub thread : slice_get threads asked.hart ≡ Some plan
  pub own : hart_in harts asked.hart ≡ Some hart
  pub waits : hart.stepping ≡ true

-- A request for which a drain waits: it is for writing, and its hart waits with its oldest store in that page.
pub record IsDrainRequest (threads : List ThreadPlan) (harts : List (Option HartView)) (asked : Asked) : Type 0 where
  pub plan : ThreadPlan
  pub hart : HartView
  pub oldest : PendingView
  pub newer : List PendingView
  pub thread : slice_get threads asked.hart ≡ Some plan
  pub own : hart_in harts asked.hart ≡ Some hart
  pub waits : hart.draining ≡ true
  pub queue : hart.queue.stores ≡ oldest ∷ newer
  pub page : page_at (place_of plan.domain oldest.address) ≡ asked.page
  pub write : asked.write ≡ true

abbrev pub IsRequestBy : Waits → List ThreadPlan → List (Option HartView) → Asked → Type 0
IsRequestBy Step threads harts asked = IsStepRequest threads harts asked
IsRequestBy Drain threads harts asked = IsDrainRequest threads harts asked

abbrev pub IsRequest : List ThreadPlan → List (Option HartView) → Asked → Type 0
IsRequest threads harts asked = IsRequestBy asked.waits threads harts asked

-- stores of a domain that wait lie in pages that it may write
abbrev pub MayWriteAll : (PageView → Perm) → ℕ → List PendingView → Type 0
MayWriteAll perms domain stores = AllByRecursion (λ store. may_write (perms (page_at (place_of domain store.address))) ≡ true) stores

-- so do those of each hart
abbrev pub AreStoresAllowed : (PageView → Perm) → List ThreadPlan → List (Option HartView) → Type 0
AreStoresAllowed perms threads harts = (h : ℕ) (plan : ThreadPlan) (hart : HartView) → slice_get threads h ≡ Some plan → hart_in harts h ≡ Some hart
    → MayWriteAll perms plan.domain hart.queue.stores

-- no two requests are for one page
abbrev pub AreRequestsApart : List Asked → Type 0
AreRequestsApart [] = Unit {0}
AreRequestsApart (asked ∷ requests) = AllByRecursion (λ other. same_page asked.page other.page ≡ false) requests × AreRequestsApart requests

-- no two requests are waited for by one step, or by one drain, of a hart
abbrev pub AreWaitersApart : List Asked → Type 0
AreWaitersApart [] = Unit {0}
AreWaitersApart (asked ∷ requests) =
    AllByRecursion (λ other. asked.hart ≡ other.hart → asked.waits ≡ other.waits → ⊥) requests × AreWaitersApart requests

-- a request is out for which hart h's step waits, or its drain
abbrev pub IsOut : ℕ → Waits → List Asked → Type 0
IsOut h waits [] = ⊥
IsOut h waits (asked ∷ requests) = ((asked.hart ≡ h) × (asked.waits ≡ waits)) ⊎ IsOut h waits requests

-- hart h waits only where a request of it is out
pub record HasAsked (h : ℕ) (requests : List Asked) (hart : HartView) : Type 0 where
  pub step : hart.stepping ≡ true → IsOut h Step requests
  pub drain : hart.draining ≡ true → IsOut h Drain requests

abbrev pub AreWaiting : List (Option HartView) → List Asked → Type 0
AreWaiting harts requests = (h : ℕ) (hart : HartView) → hart_in harts h ≡ Some hart → HasAsked h requests hart

-- Its cache is one; its requests are for pages apart, and for each of them a step or a drain waits, which waits
-- for no other; its harts wait only for requests that are out; and their stores are allowed.
pub record IsSoundBlade (perms : PageView → Perm) (blade : BladeView) : Type 0 where
  pub cache : IsPageCache blade.cache
  pub apart : AreRequestsApart blade.requests
  pub waiters : AreWaitersApart blade.requests
  pub requests : AllByRecursion (IsRequest blade.plan.threads blade.harts) blade.requests
  pub waiting : AreWaiting blade.harts blade.requests
  pub stores : AreStoresAllowed perms blade.plan.threads blade.harts

-- What a blade does leads on by moves, and leaves it sound. The newest image changes of no page but one that
-- the blade then holds.
pub record DoesMoves (w other : World) (c : ℕ) (e : BladeEffect) : Type 0 where
  pub flat : PageView → PageImageView
  pub leads : LeadsTo w other c e.blade e.sent flat
  pub kept : (page : PageView) → frame_of page e.blade.cache.entries ≡ None → flat page ≡ w.flat page
  pub sound : IsSoundBlade w.perms e.blade

-- ---- the rack

-- messages that a link gave and its blade has not been handed yet stand before what is pending on it
abbrev pub handing : ℕ → List Msg → World → World
handing c messages w = record w { downs = put c (messages ++ w.downs c) w.downs }

-- all blades of the rack are sound
abbrev pub AreBladesSound : RackView → Type 0
AreBladesSound rack = (c : ℕ) (blade : BladeView) → slice_get rack.blades c ≡ Some blade → IsSoundBlade (permission_at rack.switch.protect) blade

-- the image of a frame, where there is one
abbrev pub image_or : PageImageView → Option Frame → PageImageView
image_or image None = image
image_or image (Some frame) = frame.image

-- moves lead from a world to one that is seen with some newest images, and the rack has sound blades then
pub record BladesLead (first : World) (last : (PageView → PageImageView) → World) (rack : RackView) : Type 0 where
  pub flat : PageView → PageImageView
  pub moves : List Move
  pub run : Run first moves (last flat)
  pub sound : AreBladesSound rack

-- The same of one thing that blade c does: the newest image of each page is then the one that the blade
-- holds, or what it was.
pub record BladeLeads (c : ℕ) (first : World) (last : (PageView → PageImageView) → World) (rack : RackView) : Type 0 where
  pub leads : BladesLead first last rack
  pub newest : (page : PageView) → leads.flat page ≡ image_or (first.flat page) (frame_at rack.blades c page)
