-- Steps and drains of a blade's harts: performed where the pages are held, else a page is asked for.
use Rattle.std.specs.Prelude.{ℕ, ◌+◌, ◌*◌, ◌%◌, ◌==◌, Bool, true, false, ◌||◌, not, List, [], ◌∷◌, ◌++◌, slice_get, Option, Some, None, option_and_then, option_map, if◌then◌else◌}
use Rattle.mind_base.specs.Page.{PageView}
use Rattle.mind_base.specs.Pending.{PendingView}
use Rattle.mind_base.specs.declared.ends.End.{End}
use Rattle.mind_base.specs.declared.ends.End.TheVariants.{Running, Exit, Fault}
use Rattle.mind_base.specs.declared.images.Image.{Image}
use Rattle.mind_base.specs.declared.notes.Note.TheVariants as note
use Rattle.mind_base.specs.declared.plans.ThreadPlan.{ThreadPlan}
use Rattle.hart_core.specs.Memory.{load_size}
use Rattle.hart_core.specs.declared.outcome.Act.{Act}
use Rattle.hart_core.specs.declared.outcome.Act.TheVariants as act
use Rattle.hart_core.specs.declared.outcome.LockedKind.{LockedKind}
use Rattle.hart_core.specs.declared.outcome.LockedKind.TheVariants as locked
use Rattle.hart_effect.specs.Access.{Around}
use Rattle.hart_effect.specs.Deed.{Deed, Alone, Storing, found, carried_out, drains_first}
use Rattle.mind_base.specs.Place.{place_of, page_at, offset_at, granule_at}
use Rattle.mind_base.specs.Permission.{may_write}
use Rattle.hart_effect.specs.Thread.{Thread}
use Rattle.hart_effect.specs.declared.finds.Found.{Found}
use Rattle.hart_effect.specs.declared.finds.Found.TheVariants.{Outside, Unknown, Asks}
use Rattle.page_cache.specs.PageCache.{frame_of, with_first, written_frame, is_writable}
use Rattle.page_cache.specs.declared.frames.Frame.{Frame}
use Rattle.wire_msg.specs.declared.msgs.Msg.TheVariants.{Get}
use Rattle.compute_blade.specs.Blade.{HartView, BladeView, BladeEffect, hart_of, with_hart, with_frames, is_asked, only, noting}
use Rattle.compute_blade.specs.Frames.{around_held, held_tag, thread_of}
use Rattle.compute_blade.specs.declared.kept.Reservation.{Reservation}
use Rattle.compute_blade.specs.declared.kept.Need.{Need}
use Rattle.compute_blade.specs.declared.kept.Waits.{Waits}
use Rattle.compute_blade.specs.declared.kept.Waits.TheVariants.{Step, Drain}

-- ---- the page that an instruction needs

-- an access at a multiple of its size needs its page; any other is a fault that needs none
abbrev pub need_at : Bool → ℕ → ℕ → ℕ → Option Need
need_at write domain address size =
    if address % size == 0 then Some (record { page = page_at (place_of domain address); write = write }) else None

-- LR reads; SC and AMO write
abbrev pub locked_writes : LockedKind → Bool
locked_writes locked.Lr = false
locked_writes locked.Sc = true
locked_writes (locked.Amo kind) = true

abbrev pub need_of : Act → ℕ → Option Need
need_of (act.Load kind rd address) domain = need_at false domain address (load_size kind)
need_of (act.Store size address value) domain = need_at true domain address size
need_of (act.Locked kind rd address operand) domain = need_at (locked_writes kind) domain address 4
need_of asked domain = None

abbrev pub need_in : Found → ℕ → Option Need
need_in Outside domain = None
need_in (Unknown word) domain = None
need_in (Asks asked) domain = need_of asked domain

-- SC and AMO write the frame at once
abbrev pub writes_at_once : Found → Bool
writes_at_once (Asks (act.Locked kind rd address operand)) = locked_writes kind
writes_at_once found = false

-- A page that is held serves a load, an LR and a store, which waits in the queue. It serves SC and AMO
-- where its frame may be written, and where the page is only to be read, since then they fault.
abbrev pub serves : Found → Option Frame → Bool
serves found None = false
serves found (Some frame) = not (writes_at_once found) || frame.writable || not (may_write frame.perm)

-- ---- an instruction is performed

-- the tag of a hart's store that takes effect after so many others of it
abbrev pub next_tag : ℕ → ℕ → ℕ
next_tag h stores = (stores + 1) * 64 + h

-- the frames when a store of a domain has taken effect, with that tag
abbrev pub frames_with : ℕ → PendingView → ℕ → List (PageView × Frame) → List (PageView × Frame)
frames_with domain store tag entries = with_first
    (written_frame (offset_at (place_of domain store.address)) store.size store.value tag)
    (page_at (place_of domain store.address)) entries

-- the frames when the page that was needed is the most recently used
abbrev pub used_by : Option Need → List (PageView × Frame) → List (PageView × Frame)
used_by None entries = entries
used_by (Some need) entries = with_first (λ frame. frame) need.page entries

-- the frames when an access was performed: that of its page is the most recently used, unless the
-- access was denied
abbrev pub frames_after : Option Need → End → List (PageView × Frame) → List (PageView × Frame)
frames_after need (Running pc) entries = used_by need entries
frames_after need (Exit value) entries = entries
frames_after need (Fault kind value pc) entries = entries

-- LR keeps the granule with its tag, SC keeps nothing, and all else leaves the reservation
abbrev pub kept_by : LockedKind → Option ℕ → ℕ → ℕ → Option Reservation → Option Reservation
kept_by locked.Lr None domain address kept = kept
kept_by locked.Lr (Some tag) domain address kept = Some (record { granule = granule_at (place_of domain address); tag = tag })
kept_by locked.Sc tag domain address kept = None
kept_by (locked.Amo kind) tag domain address kept = kept

-- the reservation after what was found, where it was not denied
abbrev pub kept_now : Found → ℕ → List (PageView × Frame) → Option Reservation → Option Reservation
kept_now (Asks (act.Locked kind rd address operand)) domain entries kept =
    kept_by kind (held_tag entries (granule_at (place_of domain address))) domain address kept
kept_now found domain entries kept = kept

-- the reservation after an end: a denied operation leaves it
abbrev pub kept_unless_denied : End → Option Reservation → Option Reservation → Option Reservation
kept_unless_denied (Running pc) after before = after
kept_unless_denied (Exit value) after before = before
kept_unless_denied (Fault kind value pc) after before = before

abbrev pub kept_after : Found → ℕ → List (PageView × Frame) → End → Option Reservation → Option Reservation
kept_after (Asks (act.Locked kind rd address operand)) domain entries end kept =
    kept_unless_denied end (kept_by kind (held_tag entries (granule_at (place_of domain address))) domain address kept) kept
kept_after found domain entries end kept = kept

-- the hart when its thread is this one
abbrev pub hart_with : Thread → Option Reservation → HartView → HartView
hart_with thread kept hart = record hart {
  regs = thread.regs;
  end = thread.end;
  output = thread.output;
  queue = record hart.queue { stores = thread.buffer };
  reserved = kept;
}

-- one more store of the hart took effect
abbrev pub one_more_store : HartView → HartView
one_more_store hart = record hart { stores = hart.stores + 1 }

-- the hart and the frames when hart h did its deed: the frames are used or written, and a store that
-- takes effect is counted
abbrev pub hart_after : ℕ → Found → List (PageView × Frame) → HartView → Deed → HartView
hart_after domain found entries hart (Alone thread) = hart_with thread (kept_after found domain entries thread.end hart.reserved) hart
hart_after domain found entries hart (Storing thread store) =
    one_more_store (hart_with thread (kept_after found domain entries thread.end hart.reserved) hart)

abbrev pub frames_after_deed : ℕ → ℕ → Found → List (PageView × Frame) → HartView → Deed → List (PageView × Frame)
frames_after_deed h domain found entries hart (Alone thread) = frames_after (need_in found domain) thread.end entries
frames_after_deed h domain found entries hart (Storing thread store) = frames_with domain store (next_tag h hart.stores) entries

abbrev pub blade_done_by : ℕ → ThreadPlan → Found → BladeView → HartView → Deed → BladeView
blade_done_by h plan found blade hart deed = with_hart h
    (hart_after plan.domain found blade.cache.entries hart deed)
    (with_frames blade (frames_after_deed h plan.domain found blade.cache.entries hart deed))

-- nothing, where there is no deed
abbrev pub performed_by : Option Deed → ℕ → ThreadPlan → Found → BladeView → HartView → BladeEffect
performed_by None h plan found blade hart = only blade
performed_by (Some deed) h plan found blade hart = noting (note.Exec h) (blade_done_by h plan found blade hart deed)

-- an instruction is performed, with what the hart finds around it
abbrev pub performed_in : Around → ℕ → ThreadPlan → Found → ℕ → BladeView → HartView → BladeEffect
performed_in around h plan found pc blade hart =
    performed_by (carried_out found around pc (thread_of blade.cache.entries hart)) h plan found blade hart

abbrev pub performed : ℕ → ThreadPlan → Found → ℕ → BladeView → HartView → BladeEffect
performed h plan found pc blade hart =
    performed_in (around_held blade.cache.entries h plan.domain) h plan found pc blade hart

-- ---- a page is asked for

abbrev pub waiting : Waits → HartView → HartView
waiting Step hart = record hart { stepping = true }
waiting Drain hart = record hart { draining = true }

-- the switch is asked for a page, unless a request for it is out
abbrev pub asking : ℕ → Waits → Need → BladeView → HartView → BladeEffect
asking h waits need blade hart =
    if is_asked need.page blade.requests then only blade else record {
      blade = with_hart h (waiting waits hart) (record blade {
        requests = blade.requests ++ record { page = need.page; write = need.write; hart = h; waits = waits } ∷ [];
      });
      sent = Get need.page need.write ∷ [];
      noted = [];
    }

-- ---- a drain

-- the oldest store leaves the queue and takes effect
abbrev pub drained : ℕ → ThreadPlan → PendingView → List PendingView → BladeView → HartView → BladeEffect
drained h plan oldest newer blade hart = noting (note.Drain h)
    (with_hart h (one_more_store (record hart { queue = record hart.queue { stores = newer } }))
    (with_frames blade (frames_with plan.domain oldest (next_tag h hart.stores) blade.cache.entries)))

-- it takes effect where its page is held and may be written; else the page is asked for
abbrev pub draining_by : ℕ → ThreadPlan → List PendingView → BladeView → HartView → BladeEffect
draining_by h plan [] blade hart = only blade
draining_by h plan (oldest ∷ newer) blade hart =
    if is_writable (frame_of (page_at (place_of plan.domain oldest.address)) blade.cache.entries)
    then drained h plan oldest newer blade hart
    else asking h Drain (record { page = page_at (place_of plan.domain oldest.address); write = true }) blade hart

abbrev pub drain_of : ℕ → ThreadPlan → BladeView → HartView → BladeEffect
drain_of h plan blade hart = if hart.draining then only blade else draining_by h plan hart.queue.stores blade hart

-- ---- a step

abbrev pub stepping_at : Option Need → ℕ → ThreadPlan → Found → ℕ → BladeView → HartView → BladeEffect
stepping_at None h plan found pc blade hart = performed h plan found pc blade hart
stepping_at (Some need) h plan found pc blade hart =
    if serves found (frame_of need.page blade.cache.entries)
    then performed h plan found pc blade hart
    else asking h Step need blade hart

-- the oldest store must drain first, or the instruction is performed, or it waits for its page
abbrev pub stepping_by : ℕ → ThreadPlan → Found → ℕ → BladeView → HartView → BladeEffect
stepping_by h plan found pc blade hart =
    if drains_first found hart.queue.stores hart.queue.capacity
    then drain_of h plan blade hart
    else stepping_at (need_in found plan.domain) h plan found pc blade hart

abbrev pub step_at : End → ℕ → ThreadPlan → Image → BladeView → HartView → BladeEffect
step_at (Running pc) h plan image blade hart =
    if hart.stepping then only blade else stepping_by h plan (found image hart.regs pc) pc blade hart
step_at (Exit value) h plan image blade hart = only blade
step_at (Fault kind value pc) h plan image blade hart = only blade

-- ---- the calls

-- something is done by the blade's hart h, with its plan
abbrev pub for_hart : BladeView → ℕ → (ThreadPlan → HartView → Option BladeEffect) → Option BladeEffect
for_hart blade h act = option_and_then (λ plan. option_and_then (λ hart. act plan hart) (hart_of blade h)) (slice_get blade.plan.threads h)

-- what `step` of hart h does; None where the hart is not the blade's or its image is missing
abbrev pub after_step : List Image → ℕ → BladeView → Option BladeEffect
after_step images h blade = for_hart blade h (λ plan hart. option_map (λ image. step_at hart.end h plan image blade hart) (slice_get images plan.image))

-- what `drain` of hart h does
abbrev pub blade_after_drain : ℕ → BladeView → Option BladeEffect
blade_after_drain h blade = for_hart blade h (λ plan hart. Some (drain_of h plan blade hart))
