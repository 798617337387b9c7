-- What a blade does, taken apart into actions: each changes the blade in one way, and sends and notes at most one thing.
use Rattle.std.specs.Prelude.{◌≡◌, ℕ, ◌<◌, true, false, List, [], ◌∷◌, ◌++◌, length, slice_get, Option, Some, IfSome, IsSomeAnd}
use Rattle.mind_base.specs.Page.{PageView}
use Rattle.mind_base.specs.Pending.{PendingView}
use Rattle.mind_base.specs.Place.{place_of, page_at}
use Rattle.mind_base.specs.declared.ends.End.TheVariants.{Running}
use Rattle.mind_base.specs.declared.notes.Note.TheVariants as note
use Rattle.mind_base.specs.declared.plans.ThreadPlan.{ThreadPlan}
use Rattle.hart_effect.specs.Deed.{Deed, carried_out, drains_first}
use Rattle.hart_effect.specs.declared.finds.Found.{Found}
use Rattle.page_cache.specs.PageCache.{frame_of, without_page, is_writable}
use Rattle.page_cache.specs.declared.frames.Frame.{Frame}
use Rattle.wire_msg.specs.declared.msgs.Msg.TheVariants.{Get, Ack}
use Rattle.compute_blade.specs.Blade.{HartView, BladeView, BladeEffect, hart_of, with_hart, with_frames, is_asked, request_for, requests_without, only, noting, and_then}
use Rattle.compute_blade.specs.Denials.{faulting}
use Rattle.compute_blade.specs.Frames.{around_held, thread_of}
use Rattle.compute_blade.specs.Messages.{FitsFill, awake}
use Rattle.compute_blade.specs.Pages.{giving_up, lowering}
use Rattle.compute_blade.specs.Steps.{need_in, serves, blade_done_by, drained, waiting}
use Rattle.compute_blade.specs.declared.kept.Asked.{Asked}
use Rattle.compute_blade.specs.declared.kept.Denial.{Denial}
use Rattle.compute_blade.specs.declared.kept.Need.{Need}
use Rattle.compute_blade.specs.declared.kept.Waits.{Waits}

-- A page is given up, may be written no longer, or is taken where there is room; hart h asks for a page, is woken
-- when its request ends, performs an instruction, is refused its access, or drains its oldest store; and the switch
-- hears that it was obeyed.
pub data Action : Type 0 where
  GivesUp : (page : PageView) (frame : Frame) → Action
  Lowers : (page : PageView) (frame : Frame) → Action
  Takes : (page : PageView) (frame : Frame) → Action
  Asks : (h : ℕ) (hart : HartView) (waits : Waits) (need : Need) → Action
  Wakes : (hart : HartView) (asked : Asked) → Action
  Performs : (h : ℕ) (hart : HartView) (plan : ThreadPlan) (found : Found) (pc : ℕ) (deed : Deed) → Action
  Refuses : (h : ℕ) (hart : HartView) (denial : Denial) (pc : ℕ) → Action
  Drains : (h : ℕ) (hart : HartView) (plan : ThreadPlan) (oldest : PendingView) (newer : List PendingView) → Action
  Acks : (number count : ℕ) → Action

abbrev pub after_action : Action → BladeView → BladeEffect
after_action (GivesUp page frame) blade = giving_up page (Some frame) blade
after_action (Lowers page frame) blade = lowering page (Some frame) blade
after_action (Takes page frame) blade =
    noting (note.Take blade.number page frame.writable) (with_frames blade ((page, frame) ∷ without_page page blade.cache.entries))
after_action (Asks h hart waits need) blade = record {
  blade = with_hart h (waiting waits hart) (record blade {
    requests = blade.requests ++ record { page = need.page; write = need.write; hart = h; waits = waits } ∷ [];
  });
  sent = Get need.page need.write ∷ [];
  noted = [];
}
after_action (Wakes hart asked) blade =
    only (with_hart asked.hart (awake asked.waits hart) (record blade { requests = requests_without asked.page blade.requests }))
after_action (Performs h hart plan found pc deed) blade = noting (note.Exec h) (blade_done_by h plan found blade hart deed)
after_action (Refuses h hart denial pc) blade = noting (note.Exec h) (with_hart h (faulting denial.kind denial.address pc hart) blade)
after_action (Drains h hart plan oldest newer) blade = drained h plan oldest newer blade hart
after_action (Acks number count) blade = record { blade = blade; sent = Ack number count ∷ []; noted = [] }

-- ---- when each may happen, by the blade alone

-- the blade's hart h runs at this pc, and its thread has this plan
pub record IsAt (blade : BladeView) (h : ℕ) (hart : HartView) (pc : ℕ) : Type 0 where
  pub own : hart_of blade h ≡ Some hart
  pub runs : hart.end ≡ Running pc

-- the page that is needed is held, in a frame that serves what was found
abbrev pub HasItsPage : Found → Option Need → BladeView → Type 0
HasItsPage found need blade = IfSome need (λ need. serves found (frame_of need.page blade.cache.entries) ≡ true)

pub record MayPerform (blade : BladeView) (h : ℕ) (hart : HartView) (plan : ThreadPlan) (found : Found) (pc : ℕ) (deed : Deed) : Type 0 where
  pub at : IsAt blade h hart pc
  pub planned : slice_get blade.plan.threads h ≡ Some plan
  pub ready : drains_first found hart.queue.stores hart.queue.capacity ≡ false
  pub served : HasItsPage found (need_in found plan.domain) blade
  pub does : carried_out found (around_held blade.cache.entries h plan.domain) pc (thread_of blade.cache.entries hart) ≡ Some deed

pub record MayDrain (blade : BladeView) (h : ℕ) (hart : HartView) (plan : ThreadPlan) (oldest : PendingView) (newer : List PendingView) : Type 0 where
  pub own : hart_of blade h ≡ Some hart
  pub planned : slice_get blade.plan.threads h ≡ Some plan
  pub queue : hart.queue.stores ≡ oldest ∷ newer
  pub held : is_writable (frame_of (page_at (place_of plan.domain oldest.address)) blade.cache.entries) ≡ true

-- A page is taken where fewer other pages are held than there are frames, clean, and as a request that is out asks
-- for it.
pub record MayTake (blade : BladeView) (page : PageView) (frame : Frame) : Type 0 where
  pub room : length (without_page page blade.cache.entries) < blade.cache.frames
  pub clean : frame.dirty ≡ false
  pub asked : IsSomeAnd (request_for page blade.requests) (FitsFill frame.writable)

abbrev pub MayAct : Action → BladeView → Type 0
MayAct (GivesUp page frame) blade = frame_of page blade.cache.entries ≡ Some frame
MayAct (Lowers page frame) blade = frame_of page blade.cache.entries ≡ Some frame
MayAct (Takes page frame) blade = MayTake blade page frame
MayAct (Asks h hart waits need) blade = (hart_of blade h ≡ Some hart) × (is_asked need.page blade.requests ≡ false)
MayAct (Wakes hart asked) blade = (hart_of blade asked.hart ≡ Some hart) × (request_for asked.page blade.requests ≡ Some asked)
MayAct (Performs h hart plan found pc deed) blade = MayPerform blade h hart plan found pc deed
MayAct (Refuses h hart denial pc) blade = IsAt blade h hart pc
MayAct (Drains h hart plan oldest newer) blade = MayDrain blade h hart plan oldest newer
MayAct (Acks number count) blade = Unit {0}

-- ---- actions in a row

abbrev pub after_actions : List Action → BladeView → BladeEffect
after_actions [] blade = only blade
after_actions (action ∷ actions) blade = and_then (after_action action blade) (after_actions actions)

abbrev pub MayActEach : List Action → BladeView → Type 0
MayActEach [] blade = Unit {0}
MayActEach (action ∷ actions) blade = MayAct action blade × MayActEach actions (after_action action blade).blade

-- what a call does is a row of actions that may happen
pub record IsActions (blade : BladeView) (effect : BladeEffect) : Type 0 where
  pub actions : List Action
  pub done : effect ≡ after_actions actions blade
  pub may : MayActEach actions blade
