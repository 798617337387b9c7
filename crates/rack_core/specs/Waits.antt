-- What waits needs what it asked for.
use Rattle.std.specs.Prelude.{◌≡◌, ◌≤◌, ℕ, false, List, [], ◌∷◌, length, slice_get, Option, Some}
use Rattle.std.specs.List.{AllByRecursion}
use Rattle.mind_base.specs.Page.{PageView}
use Rattle.mind_base.specs.declared.ends.End.TheVariants.{Running}
use Rattle.mind_base.specs.declared.images.Image.{Image}
use Rattle.mind_base.specs.declared.notes.Note.TheVariants as note
use Rattle.mind_base.specs.declared.plans.ThreadPlan.{ThreadPlan}
use Rattle.hart_effect.specs.Deed.{found, drains_first}
use Rattle.page_cache.specs.PageCache.{frame_of}
use Rattle.page_cache.specs.declared.frames.Frame.{Frame}
use Rattle.store_queue.specs.StoreQueue.{QueueView}
use Rattle.compute_blade.specs.Blade.{HartView, BladeView, with_hart, requests_without}
use Rattle.compute_blade.specs.Messages.{answered_by, awake, need_asked, resumed}
use Rattle.compute_blade.specs.Steps.{need_in, serves}
use Rattle.compute_blade.specs.declared.kept.Answer.{Answer}
use Rattle.compute_blade.specs.declared.kept.Asked.{Asked}
use Rattle.compute_blade.specs.declared.kept.Waits.{Waits}
use Rattle.compute_blade.specs.declared.kept.Waits.TheVariants.{Step, Drain}
use Rattle.rack_core.specs.BladeMoves.{hart_in}
use Rattle.rack_core.specs.Rack.{RackView}

-- The hart of a request runs: its plan, its image, and the pc at which it stands.
pub record WaitingHart (images : List Image) (threads : List ThreadPlan) (harts : List (Option HartView)) (asked : Asked) : Type 0 where
  pub plan : ThreadPlan
  pub hart : HartView
  pub image : Image
  pub pc : ℕ
  pub thread : slice_get threads asked.hart ≡ Some plan
  pub own : hart_in harts asked.hart ≡ Some hart
  pub code : slice_get images plan.image ≡ Some image
  pub runs : hart.end ≡ Running pc

-- A request for which a step waits: its hart runs, the instruction there needs just what was asked for, no store must
-- drain first, and the page is not held so that it serves.
pub record IsNeededStep (images : List Image) (threads : List ThreadPlan) (harts : List (Option HartView)) (entries : List (PageView × Frame)) (asked : Asked) : Type 0 where
  pub waiting : WaitingHart images threads harts asked
  pub open waiting use *
  pub needs : need_in (found image hart.regs pc) plan.domain ≡ Some (need_asked asked)
  pub ready : drains_first (found image hart.regs pc) hart.queue.stores hart.queue.capacity ≡ false
  pub unserved : serves (found image hart.regs pc) (frame_of asked.page entries) ≡ false

abbrev pub IsNeededBy : Waits → List Image → List ThreadPlan → List (Option HartView) → List (PageView × Frame) → Asked → Type 0
IsNeededBy Step images threads harts entries asked = IsNeededStep images threads harts entries asked
IsNeededBy Drain images threads harts entries asked = Unit {0}

abbrev pub IsNeededFor : List Image → List ThreadPlan → List (Option HartView) → List (PageView × Frame) → Asked → Type 0
IsNeededFor images threads harts entries asked = IsNeededBy asked.waits images threads harts entries asked

-- a queue has as many places as its thread's plan says, and no more stores
pub record IsQueueOf (thread : ThreadPlan) (queue : QueueView) : Type 0 where
  pub places : queue.capacity ≡ thread.queue
  pub room : length queue.stores ≤ queue.capacity

abbrev pub AreQueuesOf : List ThreadPlan → List (Option HartView) → Type 0
AreQueuesOf threads harts = (h : ℕ) (thread : ThreadPlan) (hart : HartView) → slice_get threads h ≡ Some thread → hart_in harts h ≡ Some hart → IsQueueOf thread hart.queue

-- Each step of the blade that waits needs what it asked for, where the images are these.
pub record IsNeeded (images : List Image) (blade : BladeView) : Type 0 where
  pub requests : AllByRecursion (IsNeededFor images blade.plan.threads blade.harts blade.cache.entries) blade.requests
  pub queues : AreQueuesOf blade.plan.threads blade.harts

-- so does each one of the rack
abbrev pub AreNeeded : List Image → RackView → Type 0
AreNeeded images rack = (c : ℕ) (blade : BladeView) → slice_get rack.blades c ≡ Some blade → IsNeeded images blade

-- ---- what waited goes on

-- the blade when a request for which a step waited has ended, and the step waits no longer
abbrev pub woken_for : Asked → HartView → BladeView → BladeView
woken_for asked hart blade = with_hart asked.hart (awake Step hart) (record blade { requests = requests_without asked.page blade.requests })

-- The request ends, and its step is performed where the page came, or refused where it was denied.
pub record IsResumed (answer : Answer) (images : List Image) (asked : Asked) (blade : BladeView) : Type 0 where
  pub waiting : WaitingHart images blade.plan.threads blade.harts asked
  pub open waiting use *
  pub does : resumed answer images asked blade ≡ answered_by answer asked.hart plan (found image hart.regs pc) pc (woken_for asked hart blade) (awake Step hart)
  pub label : (resumed answer images asked blade).noted ≡ note.Exec asked.hart ∷ []
