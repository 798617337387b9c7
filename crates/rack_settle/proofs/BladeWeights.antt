-- A compute blade that handles a message makes the weight of what is still to come less.
use Rattle.std.proofs.Common.{◌≡◌, ℕ, zero, suc, ◌+◌, ◌-◌, ◌*◌, ◌≤◌, Bool, true, false, ◌==◌, ◌||◌, ◌&&◌, cond, ap, sym, refl, subst, ◌∙◌, List, [], ◌∷◌, ◌++◌, length, take, drop, slice_get, slice_set, Option, Some, None, arith}
use Rattle.std.specs.Prelude.{if◌then◌else◌, IsSomeAnd, option_and_then}
use Rattle.std.specs.List.{AllByRecursion}
use Rattle.std.specs.Map.{set_value}
use Rattle.std.specs.Option.{option_map_or}
use Rattle.std.proofs.lemmas.Bool.Decides.{nat_tests}
use Rattle.std.proofs.lemmas.Option.{none-some, same_Some}
use Rattle.mind_base.specs.Page.{PageView}
use Rattle.mind_base.specs.Pending.{PendingView}
use Rattle.mind_base.specs.Place.{place_of, page_at, offset_at}
use Rattle.mind_base.specs.declared.commands.Perm.{Perm}
use Rattle.mind_base.specs.declared.ends.End.{End}
use Rattle.mind_base.specs.declared.ends.End.TheVariants.{Running, Exit, Fault}
use Rattle.mind_base.specs.declared.images.Image.{Image}
use Rattle.mind_base.specs.declared.plans.ThreadPlan.{ThreadPlan}
use Rattle.hart_effect.specs.Access.{Around}
use Rattle.hart_effect.specs.Deed.{Deed, Alone, Storing, carried_out, drains_first, found, is_store, must_wait}
use Rattle.hart_effect.specs.Thread.{Thread}
use Rattle.hart_effect.specs.declared.finds.Found.{Found}
use Rattle.hart_effect.specs.declared.finds.Found.TheVariants.{Outside, Unknown, Asks}
use Rattle.page_cache.specs.PageCache.{CacheView, same_page, frame_of, without_page, with_first, written_frame, lowered_frame, entries_after_put, put_from, is_writable}
use Rattle.page_cache.specs.declared.frames.Frame.{Frame}
use Rattle.page_cache.proofs.Callers.{same_page-refl}
use Rattle.page_image.specs.PageImage.{PageImageView}
use Rattle.wire_msg.specs.declared.msgs.Msg.{Msg}
use Rattle.wire_msg.specs.declared.msgs.Msg.TheVariants.{Get, Fill, Deny, Back, Inv, Lower, Ack}
use Rattle.compute_blade.specs.Blade.{HartView, BladeView, BladeEffect, hart_of, is_asked, with_hart, request_for, only, and_then}
use Rattle.compute_blade.specs.Denials.{denial_in, faulting, refused_by}
use Rattle.compute_blade.specs.Frames.{around_held, thread_of}
use Rattle.compute_blade.specs.Messages.{FitsFill, MayComeToBlade, awake, need_asked, answered_by, resumed_at, resumed_by, resumed, resumed_for, acknowledging, after_message}
use Rattle.compute_blade.specs.Pages.{back_of, giving_up, given_up, lowering, lowered, each_in, held_in, writable_in, spared, sent_out, taken}
use Rattle.compute_blade.specs.Steps.{need_in, frames_after, hart_after, next_tag, one_more_store, frames_with, performed_by, waiting, asking, drained, draining_by, drain_of, blade_after_drain}
use Rattle.compute_blade.specs.declared.kept.Answer.{Answer}
use Rattle.compute_blade.specs.declared.kept.Answer.TheVariants.{Filled, Denied}
use Rattle.compute_blade.specs.declared.kept.Asked.{Asked}
use Rattle.compute_blade.specs.declared.kept.Denial.{Denial}
use Rattle.compute_blade.specs.declared.kept.Need.{Need}
use Rattle.compute_blade.specs.declared.kept.Waits.{Waits}
use Rattle.compute_blade.specs.declared.kept.Waits.TheVariants.{Step, Drain}
use Rattle.coherence.specs.Counts.{bit}
use Rattle.rack_core.specs.BladeMoves.{IsRequestBy, IsRequest, hart_in}
use Rattle.rack_core.proofs.Callers.{Ends, awaking, resumed-is, of_found, Entries, bit-most, marked, marked-cons, resumes-as, buffer_of, deed_fits, hart_in-set}
use Rattle.rack_settle.proofs.ListSums.{sum-set}
use Rattle.rack_settle.proofs.SentWeights.{messages-append}
use Rattle.rack_settle.specs.Weight.{weight_of, messages_weight, left_to_drain, hart_weight, harts_weight, blade_weight, HasToDrain}

-- ---- dirty frames

abbrev dirty : Entries → ℕ
dirty entries = marked (λ held. held.1.dirty) entries

dirty-cons : (held : PageView × Frame) (entries : Entries) → dirty (held ∷ entries) ≡ bit held.1.dirty + dirty entries
dirty-cons held entries = marked-cons (λ held. held.1.dirty) held entries

-- a page that is taken out takes its own
dirty-without : (page : PageView) (entries : Entries) (frame : Frame) → frame_of page entries ≡ Some frame → dirty (without_page page entries) + bit frame.dirty ≡ dirty entries
dirty-without page [] frame e = let never : ⊥ = cc in absurd never
dirty-without page (first ∷ entries) frame e = by (dirty-without page entries frame) (same_page page first.0) e where
  by : (frame_of page entries ≡ Some frame → dirty (without_page page entries) + bit frame.dirty ≡ dirty entries) → (b : Bool) → cond b (Some first.1) (frame_of page entries) ≡ Some frame
      → dirty (cond b entries (first ∷ without_page page entries)) + bit frame.dirty ≡ dirty (first ∷ entries)
  by rest true e = let is : first.1 ≡ frame = same_Some _ _ e in omega (arith, dirty-cons first entries, ap (λ (f : Frame). bit f.dirty) is)
  by rest false e = omega (arith, dirty-cons first entries, dirty-cons first (without_page page entries), rest e)

-- a page whose frame changes in its place
dirty-set : (page : PageView) (entries : Entries) (frame new : Frame) → frame_of page entries ≡ Some frame
    → dirty (set_value (same_page page) entries new) + bit frame.dirty ≡ dirty entries + bit new.dirty
dirty-set page [] frame new e = let never : ⊥ = cc in absurd never
dirty-set page (first ∷ entries) frame new e = by (dirty-set page entries frame new) (same_page page first.0) e where
  by : (frame_of page entries ≡ Some frame → dirty (set_value (same_page page) entries new) + bit frame.dirty ≡ dirty entries + bit new.dirty)
      → (b : Bool) → cond b (Some first.1) (frame_of page entries) ≡ Some frame
      → dirty (cond b ((first.0, new) ∷ entries) (first ∷ set_value (same_page page) entries new)) + bit frame.dirty ≡ dirty (first ∷ entries) + bit new.dirty
  by rest true e =
      let is : first.1 ≡ frame = same_Some _ _ e in
      omega (arith, dirty-cons first entries, dirty-cons (first.0, new) entries, ap (λ (f : Frame). bit f.dirty) is)
  by rest false e = omega (arith, dirty-cons first entries, dirty-cons first (set_value (same_page page) entries new), rest e)

-- a page that goes first, whatever its frame becomes
dirty-first : (change : Frame → Frame) (page : PageView) (entries : Entries) → dirty (with_first change page entries) ≤ dirty entries + 1
dirty-first change page entries = by (frame_of page entries) refl where
  by : (held : Option Frame) → frame_of page entries ≡ held → dirty (option_map_or (λ frame. (page, change frame) ∷ without_page page entries) held entries) ≤ dirty entries + 1
  by None e = omega arith
  by (Some frame) e = omega (arith, dirty-cons (page, change frame) (without_page page entries), dirty-without page entries frame e, bit-most (change frame).dirty)

-- the first ones
dirty-take : (n : ℕ) (entries : Entries) → dirty (take n entries) ≤ dirty entries
dirty-take zero entries = omega arith
dirty-take (suc n) [] = omega arith
dirty-take (suc n) (first ∷ entries) = omega (arith, dirty-cons first entries, dirty-cons first (take n entries), dirty-take n entries)

-- and the one behind them
dirty-next : (n : ℕ) (entries : Entries) (next : PageView × Frame) → slice_get entries n ≡ Some next → dirty (take n entries) + bit next.1.dirty ≤ dirty entries
dirty-next n [] next e = let never : ⊥ = cc in absurd never
dirty-next zero (first ∷ entries) next e =
    let is : first ≡ next = same_Some _ _ e in
    omega (arith, dirty-cons first entries, ap (λ (h : PageView × Frame). bit h.1.dirty) is)
dirty-next (suc n) (first ∷ entries) next e = omega (arith, dirty-cons first entries, dirty-cons first (take n entries), dirty-next n entries next e)

-- ---- what is done

back-weight : (page : PageView) (frame : Frame) → messages_weight (back_of page frame) ≡ 2 * bit frame.dirty
back-weight page frame = by frame.dirty where
  by : (b : Bool) → messages_weight (if b then Back page frame.image ∷ [] else []) ≡ 2 * bit b
  by true = refl
  by false = refl

-- what is done to the blade adds at most so much
abbrev AddsAtMost : ℕ → BladeView → BladeEffect → Type 0
AddsAtMost n blade effect = blade_weight effect.blade + messages_weight effect.sent ≤ blade_weight blade + n

then-adds : (m n : ℕ) (blade : BladeView) (first : BladeEffect) (next : BladeView → BladeEffect) → AddsAtMost m blade first → AddsAtMost n first.blade (next first.blade)
    → AddsAtMost (m + n) blade (and_then first next)
then-adds m n blade first next one two = omega (arith, messages-append first.sent (next first.blade).sent)

-- ---- pages

gives-adds : (page : PageView) (blade : BladeView) → AddsAtMost 0 blade (given_up page blade)
gives-adds page blade = by (frame_of page blade.cache.entries) refl where
  by : (held : Option Frame) → frame_of page blade.cache.entries ≡ held → AddsAtMost 0 blade (giving_up page held blade)
  by None e = omega arith
  by (Some frame) e = omega (arith, dirty-without page blade.cache.entries frame e, back-weight page frame)

lowers-adds : (page : PageView) (blade : BladeView) → AddsAtMost 0 blade (lowered page blade)
lowers-adds page blade = by (frame_of page blade.cache.entries) refl where
  changed : Option Frame → Entries
  changed held = option_map_or (λ frame. set_value (same_page page) blade.cache.entries (lowered_frame frame)) held blade.cache.entries

  by : (held : Option Frame) → frame_of page blade.cache.entries ≡ held → AddsAtMost 0 blade (lowering page held blade)
  by None e = omega arith
  by (Some frame) e =
      let is : dirty (changed (frame_of page blade.cache.entries)) ≡ dirty (set_value (same_page page) blade.cache.entries (lowered_frame frame)) = ap (λ held. dirty (changed held)) e in
      omega (arith, is, dirty-set page blade.cache.entries frame (lowered_frame frame) e, back-weight page frame)

each-adds : (change : PageView → BladeView → BladeEffect) (pages : List PageView) (blade : BladeView) → ((page : PageView) (b : BladeView) → AddsAtMost 0 b (change page b))
    → AddsAtMost 0 blade (each_in change pages blade)
each-adds change [] blade all = omega arith
each-adds change (page ∷ pages) blade all = then-adds 0 0 blade (change page blade) (each_in change pages) (all page blade) (each-adds change pages (change page blade).blade all)

acks-adds : (change : PageView → BladeView → BladeEffect) (pages : List PageView) (number : ℕ) (asked : Option PageView) (blade : BladeView)
    → ((page : PageView) (b : BladeView) → AddsAtMost 0 b (change page b)) → AddsAtMost 1 blade (acknowledging change pages number asked blade)
acks-adds change pages number asked blade all =
    then-adds 0 1 blade (each_in change pages blade) (λ after. record { blade = after; sent = Ack number (spared asked pages) ∷ []; noted = [] })
    (each-adds change pages blade all) (omega arith)

takes-adds : (page : PageView) (perm : Perm) (writable : Bool) (image : PageImageView) (blade : BladeView) → AddsAtMost 0 blade (taken page perm writable image blade)
takes-adds page perm writable image blade = by (frame_of page blade.cache.entries) (slice_get blade.cache.entries (blade.cache.frames - 1)) refl refl where
  new : Frame
  new = record { image = image; writable = writable; dirty = false; perm = perm }

  by : (held : Option Frame) (last : Option (PageView × Frame)) → frame_of page blade.cache.entries ≡ held → slice_get blade.cache.entries (blade.cache.frames - 1) ≡ last
      → 3 * dirty (option_map_or (λ old. (page, new) ∷ without_page page blade.cache.entries) held ((page, new) ∷ take (blade.cache.frames - 1) blade.cache.entries)) + harts_weight blade.harts
      + messages_weight (sent_out (put_from held last)) ≤ 3 * dirty blade.cache.entries + harts_weight blade.harts + 0
  by (Some old) last e f = omega (arith, dirty-cons (page, new) (without_page page blade.cache.entries), dirty-without page blade.cache.entries old e)
  by None None e f = omega (arith, dirty-cons (page, new) (take (blade.cache.frames - 1) blade.cache.entries), dirty-take (blade.cache.frames - 1) blade.cache.entries)
  by None (Some last) e f =
      omega (arith, dirty-cons (page, new) (take (blade.cache.frames - 1) blade.cache.entries), dirty-next (blade.cache.frames - 1) blade.cache.entries last f, back-weight last.0 last.1)

-- ---- harts

-- a hart changes, and with it the harts' weight
harts-set : (harts : List (Option HartView)) (h : ℕ) (old new : HartView) → hart_in harts h ≡ Some old → harts_weight (slice_set harts h (Some new)) + hart_weight old ≡ harts_weight harts + hart_weight new
harts-set harts h old new own = sum-set (λ hart. option_map_or hart_weight hart 0) harts h (Some old) (Some new) (there (slice_get harts h) own) where
  there : (o : Option (Option HartView)) → option_and_then (λ hart. hart) o ≡ Some old → o ≡ Some (Some old)
  there None e = absurd (none-some old e)
  there (Some hart) e = ap Some e

waits-once : (b : Bool) → b ≡ true → (let n : ℕ = if b then 1 else 0 in n) ≡ 1
waits-once b e = ap (λ t. let n : ℕ = if t then 1 else 0 in n) e

-- one that goes on with a store more, or with none more
buffer-adds : (draining : Bool) (old new : List PendingView) → length new ≤ length old + 1
    → length (if draining then drop 1 new else new) ≤ length (if draining then drop 1 old else old) + 1
buffer-adds false old new le = le
buffer-adds true [] [] le = omega arith
buffer-adds true [] (n ∷ new) le = omega (arith, le)
buffer-adds true (o ∷ old) [] le = omega arith
buffer-adds true (o ∷ old) (n ∷ new) le = omega (arith, le)

-- one whose step no longer waits, and one whose drain no longer does
awake-step : (hart : HartView) → hart.stepping ≡ true → hart_weight (awake Step hart) + 15 ≡ hart_weight hart
awake-step hart e = omega (arith, waits-once hart.stepping e)

awake-drain : (hart : HartView) (oldest : PendingView) (newer : List PendingView) → hart.draining ≡ true → hart.queue.stores ≡ oldest ∷ newer → hart_weight (awake Drain hart) ≡ hart_weight hart + 15
awake-drain hart oldest newer e queue =
    let before : length (left_to_drain hart) ≡ length newer = (λ i. length (if e i then drop 1 (queue i) else queue i)) in
    let after : length hart.queue.stores ≡ length newer + 1 = ap length queue ∙ (let more : length (oldest ∷ newer) ≡ length newer + 1 = omega arith in more) in
    omega (arith, before, after)

-- ---- what is drained

-- what is done to the blade takes at least so much away
abbrev TakesAtLeast : ℕ → BladeView → BladeEffect → Type 0
TakesAtLeast n blade effect = blade_weight effect.blade + messages_weight effect.sent + n ≤ blade_weight blade

stored-dirty : (domain : ℕ) (store : PendingView) (tag : ℕ) (entries : Entries) → dirty (frames_with domain store tag entries) ≤ dirty entries + 1
stored-dirty domain store tag entries =
    dirty-first (written_frame (offset_at (place_of domain store.address)) store.size store.value tag) (page_at (place_of domain store.address)) entries

-- the oldest store takes effect
drained-takes : (h : ℕ) (plan : ThreadPlan) (oldest : PendingView) (newer : List PendingView) (blade : BladeView) (hart : HartView) → hart_in blade.harts h ≡ Some hart → hart.draining ≡ false
    → hart.queue.stores ≡ oldest ∷ newer → TakesAtLeast 12 blade (drained h plan oldest newer blade hart)
drained-takes h plan oldest newer blade hart own idle queue =
    let new : HartView = one_more_store (record hart { queue = record hart.queue { stores = newer } }) in
    let before : length (left_to_drain hart) ≡ length newer + 1 = (λ i. length (if idle i then drop 1 (queue i) else queue i)) ∙ (let more : length (oldest ∷ newer) ≡ length newer + 1 = omega arith in more) in
    let after : length (left_to_drain new) ≡ length newer = ap (λ b. length (if b then drop 1 newer else newer)) idle in
    omega (arith, stored-dirty plan.domain oldest (next_tag h hart.stores) blade.cache.entries, harts-set blade.harts h hart new own, before, after)

-- or its page is asked for
asked-takes : (h : ℕ) (need : Need) (oldest : PendingView) (newer : List PendingView) (blade : BladeView) (hart : HartView) → hart_in blade.harts h ≡ Some hart → hart.draining ≡ false
    → hart.queue.stores ≡ oldest ∷ newer → is_asked need.page blade.requests ≡ false → TakesAtLeast 1 blade (asking h Drain need blade hart)
asked-takes h need oldest newer blade hart own idle queue unasked = subst (λ b. TakesAtLeast 1 blade (if b then only blade else asks)) (sym unasked) takes where
  new : HartView
  new = record hart { draining = true }

  asks : BladeEffect
  asks = record {
    blade = with_hart h (waiting Drain hart) (record blade { requests = blade.requests ++ record { page = need.page; write = need.write; hart = h; waits = Drain } ∷ [] });
    sent = Get need.page need.write ∷ [];
    noted = [];
  }

  takes : TakesAtLeast 1 blade (record {
    blade = with_hart h (waiting Drain hart) (record blade { requests = blade.requests ++ record { page = need.page; write = need.write; hart = h; waits = Drain } ∷ [] });
    sent = Get need.page need.write ∷ [];
    noted = [];
  })
  takes =
      let before : length (left_to_drain hart) ≡ length newer + 1 = (λ i. length (if idle i then drop 1 (queue i) else queue i)) ∙ (let more : length (oldest ∷ newer) ≡ length newer + 1 = omega arith in more) in
      let after : length (drop 1 hart.queue.stores) ≡ length newer = ap (λ q. length (drop 1 q)) queue in
      omega (arith, harts-set blade.harts h hart (record hart { draining = true }) own, before, after)

pub drain_lightens : (h : ℕ) (blade : BladeView) (effect : BladeEffect) → HasToDrain h blade → blade_after_drain h blade ≡ Some effect
    → blade_weight effect.blade + messages_weight effect.sent + 1 ≤ blade_weight blade
drain_lightens h blade effect has given = subst (TakesAtLeast 1 blade) does (subst (TakesAtLeast 1 blade) (sym drains) falls) where
  need : Need
  need = record { page = page_at (place_of has.plan.domain has.oldest.address); write = true }

  does : drain_of h has.plan blade has.hart ≡ effect
  does = same_Some _ _ (sym (ap (option_and_then (λ plan. option_and_then (λ hart. Some (drain_of h plan blade hart)) (hart_of blade h))) has.thread
      ∙ ap (option_and_then (λ hart. Some (drain_of h has.plan blade hart))) has.own) ∙ given)

  drains : drain_of h has.plan blade has.hart ≡ draining_by h has.plan (has.oldest ∷ has.newer) blade has.hart
  drains = (λ i. if has.idle i then only blade else draining_by h has.plan (has.queue i) blade has.hart)

  by : (b : Bool) → TakesAtLeast 1 blade (if b then drained h has.plan has.oldest has.newer blade has.hart
      else asking h Drain (record { page = page_at (place_of has.plan.domain has.oldest.address); write = true }) blade has.hart)
  by true = omega (arith, drained-takes h has.plan has.oldest has.newer blade has.hart has.own has.idle has.queue)
  by false = asked-takes h (record { page = page_at (place_of has.plan.domain has.oldest.address); write = true }) has.oldest has.newer blade has.hart has.own has.idle has.queue has.unasked

  falls : TakesAtLeast 1 blade (draining_by h has.plan (has.oldest ∷ has.newer) blade has.hart)
  falls = by (is_writable (frame_of (page_at (place_of has.plan.domain has.oldest.address)) blade.cache.entries))

-- ---- what waited goes on

used-dirty : (need : Option Need) (end : End) (entries : Entries) → dirty (frames_after need end entries) ≤ dirty entries + 1
used-dirty None (Running pc) entries = omega arith
used-dirty (Some need) (Running pc) entries = dirty-first (λ frame. frame) need.page entries
used-dirty need (Exit value) entries = omega arith
used-dirty need (Fault kind value pc) entries = omega arith

-- a deed leaves one store more at most, and writes one page at most
deed-adds : (deed : Option Deed) (h : ℕ) (plan : ThreadPlan) (found : Found) (blade : BladeView) (hart : HartView) → hart_in blade.harts h ≡ Some hart
    → ((d : Deed) → deed ≡ Some d → length (buffer_of d) ≤ length hart.queue.stores + 1) → AddsAtMost 18 blade (performed_by deed h plan found blade hart)
unfolding buffer_of
deed-adds None h plan found blade hart own grows = omega arith
deed-adds (Some (Alone thread)) h plan found blade hart own grows =
    let new : HartView = hart_after plan.domain found blade.cache.entries hart (Alone thread) in
    omega (
      arith,
      used-dirty (need_in found plan.domain) thread.end blade.cache.entries,
      harts-set blade.harts h hart new own,
      buffer-adds hart.draining hart.queue.stores thread.buffer (grows (Alone thread) refl),
    )
deed-adds (Some (Storing thread store)) h plan found blade hart own grows =
    let new : HartView = hart_after plan.domain found blade.cache.entries hart (Storing thread store) in
    omega (
      arith,
      stored-dirty plan.domain store (next_tag h hart.stores) blade.cache.entries,
      harts-set blade.harts h hart new own,
      buffer-adds hart.draining hart.queue.stores thread.buffer (grows (Storing thread store) refl),
    )

denial-adds : (denial : Option Denial) (h pc : ℕ) (blade : BladeView) (hart : HartView) → hart_in blade.harts h ≡ Some hart → AddsAtMost 0 blade (refused_by denial h pc blade hart)
denial-adds None h pc blade hart own = omega arith
denial-adds (Some denial) h pc blade hart own = omega (arith, harts-set blade.harts h hart (faulting denial.kind denial.address pc hart) own)

-- what waited for a page may write one, and what was denied writes none
abbrev most : Answer → ℕ
most Filled = 3
most Denied = 0

-- where no store must drain first, there is room for one more
one-more : (found : Found) (around : Around) (pc capacity : ℕ) (thread : Thread) (deed : Deed) → drains_first found thread.buffer capacity ≡ false → carried_out found around pc thread ≡ Some deed
    → length (buffer_of deed) ≤ length thread.buffer + 1
one-more found around pc capacity thread deed ready e = deed_fits found around pc (length thread.buffer + 1) thread deed (omega arith) (by found ready) e where
  less : (wait store : Bool) (n capacity : ℕ) → (wait || store && n == capacity) ≡ false → (wait || store && n == n + 1) ≡ false
  less true store n capacity e = e
  less false true n capacity e = grind (arith, nat_tests)
  less false false n capacity e = refl

  by : (found : Found) → drains_first found thread.buffer capacity ≡ false → drains_first found thread.buffer (length thread.buffer + 1) ≡ false
  by Outside e = refl
  by (Unknown word) e = refl
  by (Asks asked) e = less (must_wait asked thread.buffer) (is_store asked) (length thread.buffer) capacity e

answer-adds : (answer : Answer) (h : ℕ) (plan : ThreadPlan) (found : Found) (pc : ℕ) (blade : BladeView) (hart : HartView) → hart_in blade.harts h ≡ Some hart
    → drains_first found hart.queue.stores hart.queue.capacity ≡ false → AddsAtMost (most answer + 15) blade (answered_by answer h plan found pc blade hart)
answer-adds Filled h plan found pc blade hart own ready =
    deed-adds (carried_out found (around_held blade.cache.entries h plan.domain) pc (thread_of blade.cache.entries hart)) h plan found blade hart own
    (λ deed e. one-more found (around_held blade.cache.entries h plan.domain) pc hart.queue.capacity (thread_of blade.cache.entries hart) deed ready e)
answer-adds Denied h plan found pc blade hart own ready = let adds = denial-adds (denial_in found) h pc blade hart own in omega (arith, adds)

step-adds : (answer : Answer) (asked : Need) (images : List Image) (h : ℕ) (plan : ThreadPlan) (blade : BladeView) (hart : HartView) → hart_in blade.harts h ≡ Some hart
    → AddsAtMost (most answer + 15) blade (resumed_at hart.end answer asked images h plan blade hart)
step-adds answer asked images h plan blade hart own =
    resumes-as (AddsAtMost (most answer + 15) blade) answer asked images h plan blade hart (omega arith) (λ image pc code runs just ready. answer-adds answer h plan (found image hart.regs pc) pc blade hart own ready)

-- a drain whose page is held to be written
drain-takes : (h : ℕ) (plan : ThreadPlan) (oldest : PendingView) (newer : List PendingView) (blade : BladeView) (hart : HartView) → hart_in blade.harts h ≡ Some hart → hart.draining ≡ false
    → hart.queue.stores ≡ oldest ∷ newer → is_writable (frame_of (page_at (place_of plan.domain oldest.address)) blade.cache.entries) ≡ true
    → TakesAtLeast 12 blade (draining_by h plan (oldest ∷ newer) blade hart)
drain-takes h plan oldest newer blade hart own idle queue held =
    subst (λ b. TakesAtLeast 12 blade (if b then drained h plan oldest newer blade hart
    else asking h Drain (record { page = page_at (place_of plan.domain oldest.address); write = true }) blade hart)) (sym held)
    (drained-takes h plan oldest newer blade hart own idle queue)

-- A page that was asked for to be written is held so, and only a step is denied: no drain asks again.
abbrev MayGoOn : Answer → Waits → Asked → Entries → Type 0
MayGoOn Filled waits asked entries = asked.write ≡ true → is_writable (frame_of asked.page entries) ≡ true
MayGoOn Denied waits asked entries = waits ≡ Step

resumed-adds : (answer : Answer) (images : List Image) (asked : Asked) (blade : BladeView) → IsRequest blade.plan.threads blade.harts asked → MayGoOn answer asked.waits asked blade.cache.entries
    → AddsAtMost (most answer) blade (resumed answer images asked blade)
unfolding awaking
resumed-adds answer images asked blade request may = by asked.waits refl answer request may where
  goes : (answer : Answer) (plan : ThreadPlan) (hart : HartView) → Ends blade asked plan hart → (waits : Waits) → asked.waits ≡ waits
      → AddsAtMost (most answer) blade (resumed_by waits answer (need_asked asked) images asked.hart plan (awaking asked hart blade) (awake waits hart))
      → AddsAtMost (most answer) blade (resumed answer images asked blade)
  goes answer plan hart ends waits is adds = subst (AddsAtMost (most answer) blade) (sym (resumed-is answer images asked blade plan hart ends
      ∙ ap (λ (w : Waits). resumed_by w answer (need_asked asked) images asked.hart plan (awaking asked hart blade) (awake w hart)) is)) adds

  by : (waits : Waits) → asked.waits ≡ waits → (answer : Answer) → IsRequestBy waits blade.plan.threads blade.harts asked → MayGoOn answer waits asked blade.cache.entries
      → AddsAtMost (most answer) blade (resumed answer images asked blade)
  by Step is answer r may =
      let now = subst (λ w. harts_weight (awaking asked r.hart blade).harts + hart_weight r.hart ≡ harts_weight blade.harts + hart_weight (awake w r.hart)) is
      (harts-set blade.harts asked.hart r.hart (awake asked.waits r.hart) r.own) in
      let own : hart_in (awaking asked r.hart blade).harts asked.hart ≡ Some (awake Step r.hart) =
      hart_in-set blade.harts asked.hart r.hart (awake asked.waits r.hart) r.own ∙ ap (λ (w : Waits). Some (awake w r.hart)) is in
      let adds = step-adds answer (need_asked asked) images asked.hart r.plan (awaking asked r.hart blade) (awake Step r.hart) own in
      goes answer r.plan r.hart (record { thread = r.thread; own = r.own; request = request }) Step is (omega (arith, adds, now, awake-step r.hart r.waits))
  by Drain is Filled r may =
      let now = subst (λ w. harts_weight (awaking asked r.hart blade).harts + hart_weight r.hart ≡ harts_weight blade.harts + hart_weight (awake w r.hart)) is
      (harts-set blade.harts asked.hart r.hart (awake asked.waits r.hart) r.own) in
      let own : hart_in (awaking asked r.hart blade).harts asked.hart ≡ Some (awake Drain r.hart) =
      hart_in-set blade.harts asked.hart r.hart (awake asked.waits r.hart) r.own ∙ ap (λ (w : Waits). Some (awake w r.hart)) is in
      let takes = drain-takes asked.hart r.plan r.oldest r.newer (awaking asked r.hart blade) (awake Drain r.hart) own refl r.queue
      (ap (λ p. is_writable (frame_of p blade.cache.entries)) r.page ∙ may r.write) in
      goes Filled r.plan r.hart (record { thread = r.thread; own = r.own; request = request }) Drain is
      (subst (λ stores. AddsAtMost 3 blade (draining_by asked.hart r.plan stores (awaking asked r.hart blade) (awake Drain r.hart))) (sym r.queue)
      (omega (arith, takes, now, awake-drain r.hart r.oldest r.newer r.waits r.queue)))
  by Drain is Denied r may = let never : ⊥ = cc in absurd never

-- ---- messages

-- the page that came is held as it came
put-held : (cache : CacheView) (page : PageView) (frame : Frame) → frame_of page (entries_after_put cache page frame) ≡ Some frame
put-held cache page frame = by (frame_of page cache.entries) where
  first : (rest : Entries) → frame_of page ((page, frame) ∷ rest) ≡ Some frame
  first rest = ap (λ b. cond b (Some frame) (frame_of page rest)) (same_page-refl page)

  by : (held : Option Frame) → frame_of page (option_map_or (λ old. (page, frame) ∷ without_page page cache.entries) held ((page, frame) ∷ take (cache.frames - 1) cache.entries)) ≡ Some frame
  by None = first (take (cache.frames - 1) cache.entries)
  by (Some old) = first (without_page page cache.entries)

fill-adds : (images : List Image) (page : PageView) (perm : Perm) (writable : Bool) (image : PageImageView) (blade : BladeView)
    → AllByRecursion (IsRequest blade.plan.threads blade.harts) blade.requests → IsSomeAnd (request_for page blade.requests) (FitsFill writable)
    → AddsAtMost 3 (taken page perm writable image blade).blade (resumed_for Filled images (request_for page blade.requests) (taken page perm writable image blade).blade)
fill-adds images page perm writable image blade requests may = by (request_for page blade.requests) refl may where
  after : BladeView
  after = (taken page perm writable image blade).blade

  by : (request : Option Asked) → request_for page blade.requests ≡ request → IsSomeAnd request (FitsFill writable) → AddsAtMost 3 after (resumed_for Filled images request after)
  by None e fits = absurd fits
  by (Some asked) e fits =
      let its = of_found (IsRequest blade.plan.threads blade.harts) page blade.requests asked requests e in
      let held : frame_of asked.page after.cache.entries ≡ Some (record { image = image; writable = writable; dirty = false; perm = perm }) =
      subst (λ p. frame_of p after.cache.entries ≡ Some (record { image = image; writable = writable; dirty = false; perm = perm })) (sym its.1)
      (put-held blade.cache page (record { image = image; writable = writable; dirty = false; perm = perm })) in
      resumed-adds Filled images asked after its.0 (λ write. ap is_writable held ∙ fits write)

deny-adds : (images : List Image) (page : PageView) (blade : BladeView)
    → AllByRecursion (IsRequest blade.plan.threads blade.harts) blade.requests → IsSomeAnd (request_for page blade.requests) (λ asked. asked.waits ≡ Step)
    → AddsAtMost 0 blade (resumed_for Denied images (request_for page blade.requests) blade)
deny-adds images page blade requests may = by (request_for page blade.requests) refl may where
  by : (request : Option Asked) → request_for page blade.requests ≡ request → IsSomeAnd request (λ asked. asked.waits ≡ Step) → AddsAtMost 0 blade (resumed_for Denied images request blade)
  by None e step = absurd step
  by (Some asked) e step = resumed-adds Denied images asked blade (of_found (IsRequest blade.plan.threads blade.harts) page blade.requests asked requests e).0 step

pub blade_lightens : (images : List Image) (message : Msg) (blade : BladeView)
    → AllByRecursion (IsRequest blade.plan.threads blade.harts) blade.requests → MayComeToBlade blade message
    → blade_weight (after_message images message blade).blade + messages_weight (after_message images message blade).sent + 1 ≤ blade_weight blade + weight_of message
blade_lightens images (Fill page perm writable image) blade requests may =
    let adds = then-adds 0 3 blade (taken page perm writable image blade) (λ after. resumed_for Filled images (request_for page after.requests) after)
    (takes-adds page perm writable image blade) (fill-adds images page perm writable image blade requests may) in
    omega (arith, adds)
blade_lightens images (Deny page) blade requests may = omega (arith, deny-adds images page blade requests may)
blade_lightens images (Inv number range asked) blade requests may = omega (arith, acks-adds given_up (held_in range blade) number asked blade gives-adds)
blade_lightens images (Lower number range asked) blade requests may = omega (arith, acks-adds lowered (writable_in range blade) number (Some asked) blade lowers-adds)
blade_lightens images message blade requests may = absurd may
