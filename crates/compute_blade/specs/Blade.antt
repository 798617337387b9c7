-- What is seen of a compute blade, and what one call on it does.
use Rattle.std.specs.Prelude.{◌≡◌, ℕ, ◌-◌, ◌^◌, ◌==◌, ◌<◌, ◌≤◌, Bool, List, [], ◌∷◌, ◌++◌, length, filter, not, slice_get, slice_set, slice_index, Option, Some, None, option_and_then, is_some, IsSomeAnd}
use Rattle.std.specs.List.{find, list_any}
use Rattle.mind_base.specs.Fit.{IsFit}
use Rattle.mind_base.specs.Page.{PageView}
use Rattle.mind_base.specs.declared.ends.End.{End}
use Rattle.mind_base.specs.declared.notes.Note.{Note}
use Rattle.mind_base.specs.declared.plans.RackPlan.{RackPlan}
use Rattle.mind_base.specs.declared.plans.ThreadPlan.{ThreadPlan}
use Rattle.page_cache.specs.PageCache.{CacheView, same_page}
use Rattle.store_queue.specs.StoreQueue.{QueueView}
use Rattle.wire_msg.specs.declared.msgs.Msg.{Msg}
use Rattle.compute_blade.specs.declared.kept.Asked.{Asked}
use Rattle.compute_blade.specs.declared.kept.Reservation.{Reservation}

-- a hart: its 32 registers, where it stands, the bytes that it put out, its store queue, its reservation,
-- how many of its stores took effect, and whether its step and its drain wait for a page
pub record HartView : Type 0 where
  pub regs : List ℕ
  pub end : End
  pub output : List ℕ
  pub queue : QueueView
  pub reserved : Option Reservation
  pub stores : ℕ
  pub stepping : Bool
  pub draining : Bool

-- the plan and the blade's number, which never change; its harts by their numbers in the plan, None for
-- a hart of another blade; the pages that it holds; and its requests, the oldest first
pub record BladeView : Type 0 where
  pub plan : RackPlan
  pub number : ℕ
  pub harts : List (Option HartView)
  pub cache : CacheView
  pub requests : List Asked

-- the number of a hart's last store that has a tag: tags are 64 times a store's number and the hart's
abbrev pub last_store : ℕ
last_store = 2 ^ 58 - 1

-- hart h, if it is the blade's
abbrev pub hart_of : BladeView → ℕ → Option HartView
hart_of blade h = option_and_then (λ hart. hart) (slice_get blade.harts h)

-- A hart of a thread: its queue has as many places as the plan says, and no more of its stores took effect
-- than have tags.
pub record IsHartOf (thread : ThreadPlan) (hart : HartView) : Type 0 where
  pub queue : hart.queue.capacity ≡ thread.queue
  pub stores : hart.stores ≤ last_store

-- what no call changes of a hart: its queue's places, and that its stores have tags
pub record IsLike (old new : HartView) : Type 0 where
  pub queue : new.queue.capacity ≡ old.queue.capacity
  pub stores : new.stores ≤ last_store

-- The plan is one of a rack, and has the blade; the cache has the frames that it gives the blade; and there is
-- a place for each thread, with its hart exactly where the thread is the blade's.
pub record IsBlade (blade : BladeView) : Type 0 where
  pub fit : IsFit blade.plan
  pub number : blade.number < length blade.plan.frames
  pub frames : blade.cache.frames ≡ slice_index blade.plan.frames blade.number
  pub places : length blade.harts ≡ length blade.plan.threads
  pub own : (h : ℕ) (thread : ThreadPlan) → slice_get blade.plan.threads h ≡ Some thread → is_some (hart_of blade h) ≡ (thread.blade == blade.number)
  pub harts : (h : ℕ) (thread : ThreadPlan) (hart : HartView) → slice_get blade.plan.threads h ≡ Some thread → hart_of blade h ≡ Some hart → IsHartOf thread hart

abbrev pub with_hart : ℕ → HartView → BladeView → BladeView
with_hart h hart blade = record blade { harts = slice_set blade.harts h (Some hart) }

abbrev pub with_frames : BladeView → List (PageView × Rattle.page_cache.specs.declared.frames.Frame.Frame) → BladeView
with_frames blade entries = record blade { cache = record blade.cache { entries = entries } }

-- ---- requests

abbrev pub is_for : PageView → Asked → Bool
is_for page asked = same_page page asked.page

-- a request for the page is out
abbrev pub is_asked : PageView → List Asked → Bool
is_asked page requests = list_any (is_for page) requests

-- the request for the page
abbrev pub request_for : PageView → List Asked → Option Asked
request_for page requests = find (is_for page) requests

-- the requests without that for the page
abbrev pub requests_without : PageView → List Asked → List Asked
requests_without page requests = filter (λ asked. not (is_for page asked)) requests

-- ---- what a call does

-- the blade after a call, the messages that it sent, and the notes that it made
pub record BladeEffect : Type 0 where
  pub blade : BladeView
  pub sent : List Msg
  pub noted : List Note

-- nothing is sent, and nothing noted
abbrev pub only : BladeView → BladeEffect
only blade = record { blade = blade; sent = []; noted = [] }

-- this note alone
abbrev pub noting : Note → BladeView → BladeEffect
noting note blade = record { blade = blade; sent = []; noted = note ∷ [] }

-- one thing after another
abbrev pub and_then : BladeEffect → (BladeView → BladeEffect) → BladeEffect
and_then first next = record {
  blade = (next first.blade).blade;
  sent = first.sent ++ (next first.blade).sent;
  noted = first.noted ++ (next first.blade).noted;
}

-- a call did this: the blade is as the effect says, and what it sent and noted stands behind what was there
abbrev pub Did : BladeEffect → BladeView → List Msg → List Msg → List Note → List Note → Type 0
Did effect new out out' notes notes' = (new ≡ effect.blade) × (out' ≡ out ++ effect.sent) × (notes' ≡ notes ++ effect.noted)

-- the same, of what a call does where it does something
abbrev pub DidSome : Option BladeEffect → BladeView → List Msg → List Msg → List Note → List Note → Type 0
DidSome None new out out' notes notes' = ⊥
DidSome (Some effect) new out out' notes notes' = Did effect new out out' notes notes'

-- the same, of a call that sends nothing, and of one that notes nothing
abbrev pub OnlyNotes : BladeEffect → BladeView → List Note → List Note → Type 0
OnlyNotes effect new notes notes' = (new ≡ effect.blade) × (effect.sent ≡ []) × (notes' ≡ notes ++ effect.noted)

abbrev pub OnlySends : BladeEffect → BladeView → List Msg → List Msg → Type 0
OnlySends effect new out out' = (new ≡ effect.blade) × (out' ≡ out ++ effect.sent) × (effect.noted ≡ [])

-- a list begins with another one
pub record BeginsWith {X : Type 0} (front all : List X) : Type 0 where
  pub rest : List X
  pub split : all ≡ front ++ rest

-- as many of hart h's stores took effect as have tags
abbrev pub HasSpent : ℕ → BladeView → Type 0
HasSpent h blade = IsSomeAnd (hart_of blade h) (λ hart. hart.stores ≡ last_store)

-- what holds after each call: the blade is one still, with the plan and the number that it had
pub record StaysBlade (old new : BladeView) : Type 0 where
  pub plan : new.plan ≡ old.plan
  pub number : new.number ≡ old.number
  pub shape : IsBlade new
