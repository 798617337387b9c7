-- What each call of a blade does is actions in a row, each of which may happen.
use Rattle.std.proofs.Common.{◌≡◌, ℕ, ◌+◌, ◌-◌, ◌<◌, ◌≤◌, Bool, true, false, cond, not, ◌&&◌, ◌||◌, List, [], ◌∷◌, ◌++◌, length, take, length-take, slice_get, Option, Some, None, IfSome, option_and_then, option_map, unwrap_or, refl, sym, ap, subst, ◌∙◌, append_assoc, append-nil, arith}
use Rattle.std.specs.Prelude.{◌%◌, ◌==◌, if◌then◌else◌, IsSomeAnd}
use Rattle.std.specs.Bool.{beq}
use Rattle.std.specs.List.{AllByRecursion, IsDistinct}
use Rattle.std.specs.Map.{keys_of}
use Rattle.std.specs.Option.{option_map_or}
use Rattle.std.proofs.lemmas.Bool.{and_parts}
use Rattle.hart_core.specs.declared.outcome.Act.TheVariants as act
use Rattle.hart_effect.specs.Deed.{Deed, carried_out, drains_first, found}
use Rattle.hart_effect.specs.declared.finds.Found.{Found}
use Rattle.hart_effect.specs.declared.finds.Found.TheVariants.{Outside, Unknown, Asks as AsksFor}
use Rattle.mind_base.specs.Page.{PageView}
use Rattle.mind_base.specs.Pending.{PendingView}
use Rattle.mind_base.specs.Place.{place_of, page_at}
use Rattle.mind_base.specs.declared.commands.Perm.{Perm}
use Rattle.mind_base.specs.declared.ends.End.{End}
use Rattle.mind_base.specs.declared.ends.End.TheVariants.{Running, Exit, Fault}
use Rattle.mind_base.specs.declared.images.Image.{Image}
use Rattle.mind_base.specs.declared.notes.Note.TheVariants as note
use Rattle.mind_base.specs.declared.plans.ThreadPlan.{ThreadPlan}
use Rattle.mind_base.specs.Permission.{may_write}
use Rattle.page_cache.proofs.Callers.{length-held, put_of-Fresh, put_of-Replaced, put_of-Pushed, same_page-true, same_page-refl, without_absent}
use Rattle.page_cache.specs.PageCache.{CacheView, IsPageCache, frame_of, without_page, same_page, entries_after_put, put_of, is_writable}
use Rattle.page_cache.specs.declared.frames.Frame.{Frame}
use Rattle.page_cache.specs.declared.frames.Put.{Put}
use Rattle.page_cache.specs.declared.frames.Put.TheVariants.{Fresh, Replaced, Pushed}
use Rattle.page_image.specs.PageImage.{PageImageView}
use Rattle.wire_msg.specs.declared.msgs.Msg.{Msg}
use Rattle.compute_blade.specs.Actions.{Action, GivesUp, Lowers, Takes, Asks, Wakes, Performs, Refuses, Drains, Acks, IsActions, HasItsPage, MayAct, MayActEach, after_action, after_actions}
use Rattle.compute_blade.specs.Blade.{HartView, BladeView, BladeEffect, hart_of, with_frames, is_for, is_asked, request_for, only, and_then}
use Rattle.compute_blade.specs.Denials.{denial_in, refused_by}
use Rattle.compute_blade.specs.Frames.{around_held, thread_of}
use Rattle.compute_blade.specs.Messages.{FitsFill, MayComeToBlade, acknowledging, after_message, answered_by, awake, need_asked, needs_just, resumed, resumed_at, resumed_by, resumed_for, resumed_with}
use Rattle.compute_blade.specs.Pages.{back_of, each_in, given_up, giving_up, held_in, lowered, lowering, noted_out, sent_out, spared, taken, writable_in}
use Rattle.compute_blade.specs.Steps.{blade_after_drain, after_step, asking, drain_of, draining_by, for_hart, need_in, performed, performed_by, serves, step_at, stepping_at, stepping_by, locked_writes, writes_at_once}
use Rattle.compute_blade.specs.declared.kept.Answer.{Answer}
use Rattle.compute_blade.specs.declared.kept.Answer.TheVariants.{Filled, Denied}
use Rattle.compute_blade.specs.declared.kept.Asked.{Asked}
use Rattle.compute_blade.specs.declared.kept.Denial.{Denial}
use Rattle.compute_blade.specs.declared.kept.Need.{Need}
use Rattle.compute_blade.specs.declared.kept.Waits.{Waits}
use Rattle.compute_blade.specs.declared.kept.Waits.TheVariants.{Step, Drain}
use Rattle.compute_blade.proofs.Resuming.{woken, woken_hart}
use Rattle.compute_blade.proofs.Coming.{each_coming}

-- ---- actions in a row

none : (blade : BladeView) → IsActions blade (only blade)
none blade = record { actions = []; done = refl; may = tt }

alone : (effect : BladeEffect) → and_then effect only ≡ effect
alone effect = λ i. record { blade = effect.blade; sent = append-nil effect.sent i; noted = append-nil effect.noted i }

one : (action : Action) (blade : BladeView) → MayAct action blade → IsActions blade (after_action action blade)
one action blade may = record { actions = action ∷ []; done = sym (alone (after_action action blade)); may = (may, tt) }

after-append : (xs ys : List Action) (blade : BladeView) → after_actions (xs ++ ys) blade ≡ and_then (after_actions xs blade) (after_actions ys)
after-append [] ys blade = refl
after-append (x ∷ xs) ys blade =
    let first : BladeEffect = after_action x blade in
    let mid : BladeEffect = after_actions xs first.blade in
    let last : BladeEffect = after_actions ys mid.blade in
    let rest : after_actions (xs ++ ys) first.blade ≡ and_then mid (after_actions ys) = after-append xs ys first.blade in
    let sent : first.sent ++ (after_actions (xs ++ ys) first.blade).sent ≡ (first.sent ++ mid.sent) ++ last.sent =
    ap (λ (e : BladeEffect). first.sent ++ e.sent) rest ∙ sym (append_assoc first.sent mid.sent last.sent) in
    let noted : first.noted ++ (after_actions (xs ++ ys) first.blade).noted ≡ (first.noted ++ mid.noted) ++ last.noted =
    ap (λ (e : BladeEffect). first.noted ++ e.noted) rest ∙ sym (append_assoc first.noted mid.noted last.noted) in
    λ i. record { blade = (rest i).blade; sent = sent i; noted = noted i }

may-append : (xs ys : List Action) (blade : BladeView) → MayActEach xs blade → MayActEach ys (after_actions xs blade).blade → MayActEach (xs ++ ys) blade
may-append [] ys blade m n = n
may-append (x ∷ xs) ys blade m n = (m.0, may-append xs ys (after_action x blade).blade m.1 n)

-- one thing and then another
abbrev joined : BladeEffect → BladeEffect → BladeEffect
joined first second = record { blade = second.blade; sent = first.sent ++ second.sent; noted = first.noted ++ second.noted }

both : (blade : BladeView) (first : BladeEffect) (next : BladeView → BladeEffect) → IsActions blade first → IsActions first.blade (next first.blade) → IsActions blade (and_then first next)
both blade first next a b = record {
  actions = a.actions ++ b.actions;
  done = ap (joined first) b.done ∙ (ap (λ (e : BladeEffect). and_then e (after_actions b.actions)) a.done ∙ sym (after-append a.actions b.actions blade));
  may = may-append a.actions b.actions blade a.may (subst (λ (e : BladeEffect). MayActEach b.actions e.blade) a.done b.may);
}

either : (blade : BladeView) (b : Bool) (x y : BladeEffect) → (b ≡ true → IsActions blade x) → (b ≡ false → IsActions blade y) → IsActions blade (cond b x y)
either blade true x y p q = p refl
either blade false x y p q = q refl

-- ---- steps and drains

asks : (h : ℕ) (waits : Waits) (need : Need) (blade : BladeView) (hart : HartView) → hart_of blade h ≡ Some hart → IsActions blade (asking h waits need blade hart)
asks h waits need blade hart own =
    either blade (is_asked need.page blade.requests) (only blade) (after_action (Asks h hart waits need) blade) (λ e. none blade) (λ e. one (Asks h hart waits need) blade (own, e))

drains_by : (h : ℕ) (plan : ThreadPlan) (stores : List PendingView) (blade : BladeView) (hart : HartView) → hart_of blade h ≡ Some hart → slice_get blade.plan.threads h ≡ Some plan
    → hart.queue.stores ≡ stores → IsActions blade (draining_by h plan stores blade hart)
drains_by h plan [] blade hart own planned queue = none blade
drains_by h plan (oldest ∷ newer) blade hart own planned queue =
    either blade (is_writable (frame_of (page_at (place_of plan.domain oldest.address)) blade.cache.entries)) (after_action (Drains h hart plan oldest newer) blade)
    (asking h Drain (record { page = page_at (place_of plan.domain oldest.address); write = true }) blade hart)
    (λ e. one (Drains h hart plan oldest newer) blade (record { own = own; planned = planned; queue = queue; held = e }))
    (λ e. asks h Drain (record { page = page_at (place_of plan.domain oldest.address); write = true }) blade hart own)

drains : (h : ℕ) (plan : ThreadPlan) (blade : BladeView) (hart : HartView) → hart_of blade h ≡ Some hart → slice_get blade.plan.threads h ≡ Some plan → IsActions blade (drain_of h plan blade hart)
drains h plan blade hart own planned =
    either blade hart.draining (only blade) (draining_by h plan hart.queue.stores blade hart) (λ e. none blade) (λ e. drains_by h plan hart.queue.stores blade hart own planned refl)

-- the hart stands at a pc, and the instruction there may be performed once it is served
record IsReady (h : ℕ) (plan : ThreadPlan) (found : Found) (pc : ℕ) (blade : BladeView) (hart : HartView) : Type 0 where
  own : hart_of blade h ≡ Some hart
  planned : slice_get blade.plan.threads h ≡ Some plan
  runs : hart.end ≡ Running pc
  ready : drains_first found hart.queue.stores hart.queue.capacity ≡ false

performs : (h : ℕ) (plan : ThreadPlan) (found : Found) (pc : ℕ) (blade : BladeView) (hart : HartView) → IsReady h plan found pc blade hart → HasItsPage found (need_in found plan.domain) blade
    → IsActions blade (performed h plan found pc blade hart)
performs h plan found pc blade hart is served = by (carried_out found (around_held blade.cache.entries h plan.domain) pc (thread_of blade.cache.entries hart)) refl where
  by : (o : Option Deed) → carried_out found (around_held blade.cache.entries h plan.domain) pc (thread_of blade.cache.entries hart) ≡ o → IsActions blade (performed_by o h plan found blade hart)
  by None e = none blade
  by (Some deed) e = one (Performs h hart plan found pc deed) blade (record { at = record { own = is.own; runs = is.runs }; planned = is.planned; ready = is.ready; served = served; does = e })

steps_at : (need : Option Need) (h : ℕ) (plan : ThreadPlan) (found : Found) (pc : ℕ) (blade : BladeView) (hart : HartView) → need_in found plan.domain ≡ need → IsReady h plan found pc blade hart
    → IsActions blade (stepping_at need h plan found pc blade hart)
steps_at None h plan found pc blade hart e is = performs h plan found pc blade hart is (subst (λ n. HasItsPage found n blade) (sym e) tt)
steps_at (Some need) h plan found pc blade hart e is =
    either blade (serves found (frame_of need.page blade.cache.entries)) (performed h plan found pc blade hart) (asking h Step need blade hart)
    (λ s. performs h plan found pc blade hart is (subst (λ n. HasItsPage found n blade) (sym e) s)) (λ s. asks h Step need blade hart is.own)

steps_by : (h : ℕ) (plan : ThreadPlan) (found : Found) (pc : ℕ) (blade : BladeView) (hart : HartView) → hart_of blade h ≡ Some hart → slice_get blade.plan.threads h ≡ Some plan
    → hart.end ≡ Running pc → IsActions blade (stepping_by h plan found pc blade hart)
steps_by h plan found pc blade hart own planned runs =
    either blade (drains_first found hart.queue.stores hart.queue.capacity) (drain_of h plan blade hart) (stepping_at (need_in found plan.domain) h plan found pc blade hart)
    (λ e. drains h plan blade hart own planned)
    (λ e. steps_at (need_in found plan.domain) h plan found pc blade hart refl (record { own = own; planned = planned; runs = runs; ready = e }))

steps : (end : End) (h : ℕ) (plan : ThreadPlan) (image : Image) (blade : BladeView) (hart : HartView) → hart.end ≡ end → hart_of blade h ≡ Some hart → slice_get blade.plan.threads h ≡ Some plan
    → IsActions blade (step_at end h plan image blade hart)
steps (Running pc) h plan image blade hart e own planned =
    either blade hart.stepping (only blade) (stepping_by h plan (found image hart.regs pc) pc blade hart) (λ w. none blade) (λ w. steps_by h plan (found image hart.regs pc) pc blade hart own planned e)
steps (Exit value) h plan image blade hart e own planned = none blade
steps (Fault kind value pc) h plan image blade hart e own planned = none blade

-- what is so of each hart with its plan is so of what comes about
for_each : (blade : BladeView) (h : ℕ) (act : ThreadPlan → HartView → Option BladeEffect)
    → ((plan : ThreadPlan) (hart : HartView) → slice_get blade.plan.threads h ≡ Some plan → hart_of blade h ≡ Some hart → IfSome (act plan hart) (IsActions blade)) → IfSome (for_hart blade h act) (IsActions blade)
for_each blade h act each = by (slice_get blade.plan.threads h) (hart_of blade h) refl refl where
  by : (p : Option ThreadPlan) (o : Option HartView) → slice_get blade.plan.threads h ≡ p → hart_of blade h ≡ o
      → IfSome (option_and_then (λ plan. option_and_then (λ hart. act plan hart) o) p) (IsActions blade)
  by None o e f = tt
  by (Some plan) None e f = tt
  by (Some plan) (Some hart) e f = each plan hart e f

each_image : (blade : BladeView) (o : Option Image) (act : Image → BladeEffect) → ((image : Image) → IsActions blade (act image)) → IfSome (option_map act o) (IsActions blade)
each_image blade None act each = tt
each_image blade (Some image) act each = each image

pub step_acts : (images : List Image) (h : ℕ) (blade : BladeView) → IfSome (after_step images h blade) (IsActions blade)
step_acts images h blade = for_each blade h (λ plan hart. option_map (λ image. step_at hart.end h plan image blade hart) (slice_get images plan.image))
    (λ plan hart planned own. each_image blade (slice_get images plan.image) (λ image. step_at hart.end h plan image blade hart) (λ image. steps hart.end h plan image blade hart refl own planned))

pub drain_acts : (h : ℕ) (blade : BladeView) → IfSome (blade_after_drain h blade) (IsActions blade)
drain_acts h blade = for_each blade h (λ plan hart. Some (drain_of h plan blade hart)) (λ plan hart planned own. drains h plan blade hart own planned)

-- ---- pages

pub gives : (page : PageView) (blade : BladeView) → IsActions blade (given_up page blade)
gives page blade = by (frame_of page blade.cache.entries) refl where
  by : (o : Option Frame) → frame_of page blade.cache.entries ≡ o → IsActions blade (giving_up page o blade)
  by None e = none blade
  by (Some frame) e = one (GivesUp page frame) blade e

lowers : (page : PageView) (blade : BladeView) → IsActions blade (lowered page blade)
lowers page blade = by (frame_of page blade.cache.entries) refl where
  by : (o : Option Frame) → frame_of page blade.cache.entries ≡ o → IsActions blade (lowering page o blade)
  by None e = none blade
  by (Some frame) e = one (Lowers page frame) blade e

each : (change : PageView → BladeView → BladeEffect) → ((page : PageView) (blade : BladeView) → IsActions blade (change page blade)) → (pages : List PageView) (blade : BladeView)
    → IsActions blade (each_in change pages blade)
each change acts [] blade = none blade
each change acts (page ∷ pages) blade = both blade (change page blade) (each_in change pages) (acts page blade) (each change acts pages (change page blade).blade)

obeys : (change : PageView → BladeView → BladeEffect) → ((page : PageView) (blade : BladeView) → IsActions blade (change page blade)) → (pages : List PageView) (number : ℕ) (asked : Option PageView) (blade : BladeView)
    → IsActions blade (acknowledging change pages number asked blade)
obeys change acts pages number asked blade =
    both blade (each_in change pages blade) (after_action (Acks number (spared asked pages))) (each change acts pages blade) (one (Acks number (spared asked pages)) (each_in change pages blade).blade tt)

-- ---- a page that comes

abbrev came : Perm → Bool → PageImageView → Frame
came perm writable image = record { image = image; writable = writable; dirty = false; perm = perm }

-- the last of pages that are apart is found, and taken out alone
apart_last : (others : List (PageView × Frame)) (out : PageView) (old : Frame) (page : PageView) → AllByRecursion (λ y. same_page page y ≡ false) (keys_of (others ++ (out, old) ∷ [])) → same_page page out ≡ false
apart_last [] out old page h = h.0
apart_last (entry ∷ others) out old page h = apart_last others out old page h.1

flip : (a b : PageView) → same_page a b ≡ false → same_page b a ≡ false
flip a b h = by (same_page b a) refl where
  by : (t : Bool) → same_page b a ≡ t → t ≡ false
  by false e = refl
  by true e =
      let same : b ≡ a = same_page-true b a e in
      let yes : same_page a b ≡ true = subst (λ x. same_page a x ≡ true) (sym same) (same_page-refl a) in
      let never : ⊥ = cc in absurd never

without_last : (others : List (PageView × Frame)) (out : PageView) (old : Frame) → IsDistinct same_page (keys_of (others ++ (out, old) ∷ [])) → without_page out (others ++ (out, old) ∷ []) ≡ others
unfolding IsDistinct
without_last [] out old h = ap (λ b. cond b [] ((out, old) ∷ [])) (same_page-refl out)
without_last (entry ∷ others) out old h =
    ap (λ b. cond b (others ++ (out, old) ∷ []) (entry ∷ without_page out (others ++ (out, old) ∷ []))) (flip entry.0 out (apart_last others out old entry.0 h.0))
    ∙ ap (λ es. entry ∷ es) (without_last others out old h.1)

found_last : (others : List (PageView × Frame)) (out : PageView) (old : Frame) → IsDistinct same_page (keys_of (others ++ (out, old) ∷ [])) → frame_of out (others ++ (out, old) ∷ []) ≡ Some old
unfolding IsDistinct
found_last [] out old h = ap (λ b. cond b (Some old) None) (same_page-refl out)
found_last (entry ∷ others) out old h =
    ap (λ b. cond b (Some entry.1) (frame_of out (others ++ (out, old) ∷ []))) (flip entry.0 out (apart_last others out old entry.0 h.0)) ∙ found_last others out old h.1

absent_first : (others : List (PageView × Frame)) (out : PageView) (old : Frame) (page : PageView) → frame_of page (others ++ (out, old) ∷ []) ≡ None → frame_of page others ≡ None
absent_first [] out old page h = refl
absent_first (entry ∷ others) out old page h = by (absent_first others out old page) (same_page page entry.0) h where
  by : (frame_of page (others ++ (out, old) ∷ []) ≡ None → frame_of page others ≡ None) → (b : Bool) → cond b (Some entry.1) (frame_of page (others ++ (out, old) ∷ [])) ≡ None
      → cond b (Some entry.1) (frame_of page others) ≡ None
  by rest true e = let never : ⊥ = cc in absurd never
  by rest false e = rest e

length-last : (others : List (PageView × Frame)) (entry : PageView × Frame) → length (others ++ entry ∷ []) ≡ length others + 1
length-last [] entry = refl
length-last (other ∷ others) entry = omega (arith, length-last others entry)

came-held : (cache : CacheView) (page : PageView) (frame : Frame) → frame_of page (entries_after_put cache page frame) ≡ Some frame
came-held cache page frame = by (frame_of page cache.entries) where
  by : (o : Option Frame) → frame_of page (option_map_or (λ old. (page, frame) ∷ without_page page cache.entries) o ((page, frame) ∷ take (cache.frames - 1) cache.entries)) ≡ Some frame
  by None = ap (λ b. cond b (Some frame) (frame_of page (take (cache.frames - 1) cache.entries))) (same_page-refl page)
  by (Some old) = ap (λ b. cond b (Some frame) (frame_of page (without_page page cache.entries))) (same_page-refl page)

-- where no page is pushed out the page is taken; else another one is given up first
takes : (page : PageView) (perm : Perm) (writable : Bool) (image : PageImageView) (blade : BladeView) → IsPageCache blade.cache → IsSomeAnd (request_for page blade.requests) (FitsFill writable)
    → (put : Put) → put_of blade.cache page ≡ put → IsActions blade (taken page perm writable image blade)
takes page perm writable image blade is asked Fresh e =
    let frame : Frame = came perm writable image in
    let p = put_of-Fresh blade.cache page frame e in
    let same : without_page page blade.cache.entries ≡ blade.cache.entries = without_absent page blade.cache.entries p.0 in
    let after : entries_after_put blade.cache page frame ≡ (page, frame) ∷ without_page page blade.cache.entries = p.1 ∙ ap (λ es. (page, frame) ∷ es) (sym same) in
    let all : (page, frame) ∷ take (blade.cache.frames - 1) blade.cache.entries ≡ (page, frame) ∷ blade.cache.entries =
    sym (ap (λ f. option_map_or (λ old. (page, frame) ∷ without_page page blade.cache.entries) f ((page, frame) ∷ take (blade.cache.frames - 1) blade.cache.entries)) p.0) ∙ p.1 in
    let some : 0 < blade.cache.frames = is.some in
    let room : length (without_page page blade.cache.entries) < blade.cache.frames = omega (arith, ap length all, ap length same, length-take (blade.cache.frames - 1) blade.cache.entries) in
    let path : taken page perm writable image blade ≡ after_action (Takes page frame) blade =
    λ i. record { blade = with_frames blade (after i); sent = sent_out (e i); noted = noted_out blade.number (e i) ++ note.Take blade.number page writable ∷ [] } in
    subst (IsActions blade) (sym path) (one (Takes page frame) blade (record { room = room; clean = refl; asked = asked }))
takes page perm writable image blade is asked (Replaced old) e =
    let frame : Frame = came perm writable image in
    let p = put_of-Replaced blade.cache page frame old e in
    let fits : length blade.cache.entries ≤ blade.cache.frames = is.fits in
    let room : length (without_page page blade.cache.entries) < blade.cache.frames = omega (arith, length-held page old blade.cache.entries p.0) in
    let path : taken page perm writable image blade ≡ after_action (Takes page frame) blade =
    λ i. record { blade = with_frames blade (p.1 i); sent = sent_out (e i); noted = noted_out blade.number (e i) ++ note.Take blade.number page writable ∷ [] } in
    subst (IsActions blade) (sym path) (one (Takes page frame) blade (record { room = room; clean = refl; asked = asked }))
takes page perm writable image blade is asked (Pushed out old) e =
    let frame : Frame = came perm writable image in
    let p = put_of-Pushed blade.cache page frame out old is e in
    let distinct : IsDistinct same_page (keys_of (p.others ++ (out, old) ∷ [])) = subst (λ es. IsDistinct same_page (keys_of es)) p.before is.distinct in
    let gone : without_page out blade.cache.entries ≡ p.others = ap (without_page out) p.before ∙ without_last p.others out old distinct in
    let absent : frame_of page p.others ≡ None = absent_first p.others out old page (ap (frame_of page) (sym p.before) ∙ p.absent) in
    let left : without_page page (without_page out blade.cache.entries) ≡ p.others = ap (without_page page) gone ∙ without_absent page p.others absent in
    let after : entries_after_put blade.cache page frame ≡ (page, frame) ∷ without_page page (without_page out blade.cache.entries) = p.after ∙ ap (λ es. (page, frame) ∷ es) (sym left) in
    let sent : sent_out (put_of blade.cache page) ≡ back_of out old ++ [] = ap sent_out e ∙ sym (append-nil (back_of out old)) in
    let fits : length blade.cache.entries ≤ blade.cache.frames = is.fits in
    let room : length (without_page page (without_page out blade.cache.entries)) < blade.cache.frames =
    omega (arith, ap length left, ap length p.before, length-last p.others (out, old)) in
    let held : frame_of out blade.cache.entries ≡ Some old = ap (frame_of out) p.before ∙ found_last p.others out old distinct in
    let first : BladeEffect = giving_up out (Some old) blade in
    let path : taken page perm writable image blade ≡ and_then first (after_action (Takes page frame)) =
    λ i. record { blade = with_frames blade (after i); sent = sent i; noted = noted_out blade.number (e i) ++ note.Take blade.number page writable ∷ [] } in
    subst (IsActions blade) (sym path) (both blade first (after_action (Takes page frame)) (one (GivesUp out old) blade held)
    (one (Takes page frame) first.blade (record { room = room; clean = refl; asked = asked })))

-- ---- the answer to a request

-- a page that came is held, to be written where it was asked for to be written
abbrev Brought : Answer → Need → BladeView → Type 0
Brought Filled asked blade = (frame : Frame) × (frame_of asked.page blade.cache.entries ≡ Some frame) × (asked.write ≡ true → frame.writable ≡ true)
Brought Denied asked blade = Unit {0}

-- a hart that wakes changes no frame
brought_woken : (answer : Answer) (need : Need) (blade : BladeView) (asked : Asked) (hart : HartView) → Brought answer need blade → Brought answer need (woken blade asked hart)
brought_woken Filled need blade asked hart came = came
brought_woken Denied need blade asked hart came = came

same_truth : (a b : Bool) → beq a b ≡ true → a ≡ b
same_truth true true e = refl
same_truth true false e = let never : ⊥ = cc in absurd never
same_truth false true e = let never : ⊥ = cc in absurd never
same_truth false false e = refl

not_true : (b : Bool) → not b ≡ true → b ≡ false
not_true true e = let never : ⊥ = cc in absurd never
not_true false e = refl

some_need : (b : Bool) (n need : Need) → (if b then Some n else None) ≡ Some need → n.write ≡ true → need.write ≡ true
some_need true n need h w = ap (λ o. unwrap_or (option_map (λ (x : Need). x.write) o) true) (sym h) ∙ w
some_need false n need h w = let never : ⊥ = cc in absurd never

-- what writes its page at once needs it to write
writes_need : (found : Found) (domain : ℕ) (need : Need) → need_in found domain ≡ Some need → writes_at_once found ≡ true → need.write ≡ true
writes_need Outside domain need e w = let never : ⊥ = cc in absurd never
writes_need (Unknown word) domain need e w = let never : ⊥ = cc in absurd never
writes_need (AsksFor (act.Next rd value pc)) domain need e w = let never : ⊥ = cc in absurd never
writes_need (AsksFor (act.Load kind rd address)) domain need e w = let never : ⊥ = cc in absurd never
writes_need (AsksFor (act.Store size address value)) domain need e w = let never : ⊥ = cc in absurd never
writes_need (AsksFor (act.Locked kind rd address operand)) domain need e w =
    some_need (address % 4 == 0) (record { page = page_at (place_of domain address); write = locked_writes kind }) need e w
writes_need (AsksFor (act.Fence drains)) domain need e w = let never : ⊥ = cc in absurd never
writes_need (AsksFor act.Call) domain need e w = let never : ⊥ = cc in absurd never
writes_need (AsksFor (act.Jumped target)) domain need e w = let never : ⊥ = cc in absurd never
writes_need (AsksFor act.Broke) domain need e w = let never : ⊥ = cc in absurd never

serves_frame : (found : Found) (frame : Frame) → (writes_at_once found ≡ true → frame.writable ≡ true) → serves found (Some frame) ≡ true
serves_frame found frame writable = by (writes_at_once found) refl where
  by : (b : Bool) → writes_at_once found ≡ b → ((not b || frame.writable) || not (may_write frame.perm)) ≡ true
  by true e = ap (λ w. w || not (may_write frame.perm)) (writable e)
  by false e = refl

served : (asked : Need) (found : Found) (domain : ℕ) (blade : BladeView) (o : Option Need) → need_in found domain ≡ o → needs_just asked o ≡ true → Brought Filled asked blade → HasItsPage found o blade
served asked found domain blade None e just came = let never : ⊥ = cc in absurd never
served asked found domain blade (Some need) e just came =
    let parts = and_parts (same_page asked.page need.page) (beq asked.write need.write) just in
    let page : asked.page ≡ need.page = same_page-true asked.page need.page parts.0 in
    let write : asked.write ≡ need.write = same_truth asked.write need.write parts.1 in
    ap (λ q. serves found (frame_of q blade.cache.entries)) (sym page)
    ∙ (ap (serves found) came.1
    ∙ serves_frame found came.0 (λ w. came.2 (write ∙ writes_need found domain need e w)))

answers : (answer : Answer) (asked : Need) (h : ℕ) (plan : ThreadPlan) (found : Found) (pc : ℕ) (blade : BladeView) (hart : HartView) → IsReady h plan found pc blade hart
    → needs_just asked (need_in found plan.domain) ≡ true → Brought answer asked blade → IsActions blade (answered_by answer h plan found pc blade hart)
answers Filled asked h plan found pc blade hart is just came = performs h plan found pc blade hart is (served asked found plan.domain blade (need_in found plan.domain) refl just came)
answers Denied asked h plan found pc blade hart is just came = by (denial_in found) where
  by : (o : Option Denial) → IsActions blade (refused_by o h pc blade hart)
  by None = none blade
  by (Some denial) = one (Refuses h hart denial pc) blade (record { own = is.own; runs = is.runs })

resumes_with : (answer : Answer) (asked : Need) (h : ℕ) (plan : ThreadPlan) (found : Found) (pc : ℕ) (blade : BladeView) (hart : HartView) → hart_of blade h ≡ Some hart
    → slice_get blade.plan.threads h ≡ Some plan → hart.end ≡ Running pc → Brought answer asked blade → IsActions blade (resumed_with answer asked h plan found pc blade hart)
resumes_with answer asked h plan found pc blade hart own planned runs came =
    either blade (needs_just asked (need_in found plan.domain) && not (drains_first found hart.queue.stores hart.queue.capacity)) (answered_by answer h plan found pc blade hart) (only blade)
    (λ e. let parts = and_parts (needs_just asked (need_in found plan.domain)) (not (drains_first found hart.queue.stores hart.queue.capacity)) e in
    answers answer asked h plan found pc blade hart
    (record { own = own; planned = planned; runs = runs; ready = not_true (drains_first found hart.queue.stores hart.queue.capacity) parts.1 }) parts.0 came)
    (λ e. none blade)

resumes_at : (end : End) (answer : Answer) (asked : Need) (images : List Image) (h : ℕ) (plan : ThreadPlan) (blade : BladeView) (hart : HartView) → hart.end ≡ end → hart_of blade h ≡ Some hart
    → slice_get blade.plan.threads h ≡ Some plan → Brought answer asked blade → IsActions blade (resumed_at end answer asked images h plan blade hart)
resumes_at (Running pc) answer asked images h plan blade hart runs own planned came = by (slice_get images plan.image) where
  by : (o : Option Image) → IsActions blade (unwrap_or (option_map (λ image. resumed_with answer asked h plan (found image hart.regs pc) pc blade hart) o) (only blade))
  by None = none blade
  by (Some image) = resumes_with answer asked h plan (found image hart.regs pc) pc blade hart own planned runs came
resumes_at (Exit value) answer asked images h plan blade hart runs own planned came = none blade
resumes_at (Fault kind value pc) answer asked images h plan blade hart runs own planned came = none blade

resumes_by : (waits : Waits) (answer : Answer) (asked : Need) (images : List Image) (h : ℕ) (plan : ThreadPlan) (blade : BladeView) (hart : HartView) → hart_of blade h ≡ Some hart
    → slice_get blade.plan.threads h ≡ Some plan → Brought answer asked blade → IsActions blade (resumed_by waits answer asked images h plan blade hart)
resumes_by Step answer asked images h plan blade hart own planned came = resumes_at hart.end answer asked images h plan blade hart refl own planned came
resumes_by Drain answer asked images h plan blade hart own planned came = drains_by h plan hart.queue.stores blade hart own planned refl

resumes : (answer : Answer) (images : List Image) (asked : Asked) (blade : BladeView) → request_for asked.page blade.requests ≡ Some asked → Brought answer (need_asked asked) blade
    → IsActions blade (resumed answer images asked blade)
resumes answer images asked blade out came = by (slice_get blade.plan.threads asked.hart) (hart_of blade asked.hart) refl refl where
  by : (p : Option ThreadPlan) (o : Option HartView) → slice_get blade.plan.threads asked.hart ≡ p → hart_of blade asked.hart ≡ o
      → IsActions blade (unwrap_or (option_and_then (λ plan. option_and_then (λ hart. Some
      (resumed_by asked.waits answer (need_asked asked) images asked.hart plan (woken blade asked hart) (awake asked.waits hart))) o) p) (only blade))
  by None o e f = none blade
  by (Some plan) None e f = none blade
  by (Some plan) (Some hart) e f =
      both blade (after_action (Wakes hart asked) blade) (λ b. resumed_by asked.waits answer (need_asked asked) images asked.hart plan b (awake asked.waits hart))
      (one (Wakes hart asked) blade (f, out))
      (resumes_by asked.waits answer (need_asked asked) images asked.hart plan (woken blade asked hart) (awake asked.waits hart) (woken_hart blade asked hart f) e
      (brought_woken answer (need_asked asked) blade asked hart came))

-- a request that is found is for the page
is_found : (page : PageView) (requests : List Asked) (asked : Asked) → request_for page requests ≡ Some asked → same_page page asked.page ≡ true
is_found page [] asked h = let never : ⊥ = cc in absurd never
is_found page (other ∷ requests) asked h = by (is_found page requests asked) (is_for page other) refl h where
  by : (request_for page requests ≡ Some asked → same_page page asked.page ≡ true) → (b : Bool) → is_for page other ≡ b → cond b (Some other) (request_for page requests) ≡ Some asked
      → same_page page asked.page ≡ true
  by rest true t e = let same : other ≡ asked = cc in subst (λ (a : Asked). same_page page a.page ≡ true) same t
  by rest false t e = rest e

resumes_for : (answer : Answer) (images : List Image) (page : PageView) (blade : BladeView) → ((asked : Asked) → request_for page blade.requests ≡ Some asked → asked.page ≡ page → Brought answer (need_asked asked) blade)
    → IsActions blade (resumed_for answer images (request_for page blade.requests) blade)
resumes_for answer images page blade came = by (request_for page blade.requests) refl where
  by : (o : Option Asked) → request_for page blade.requests ≡ o → IsActions blade (resumed_for answer images o blade)
  by None e = none blade
  by (Some asked) e =
      let same : page ≡ asked.page = same_page-true page asked.page (is_found page blade.requests asked e) in
      resumes answer images asked blade (ap (λ q. request_for q blade.requests) (sym same) ∙ e) (came asked e (sym same))

-- ---- messages

pub message_acts : (images : List Image) (message : Msg) (blade : BladeView) → IsPageCache blade.cache → MayComeToBlade blade message → IsActions blade (after_message images message blade)
message_acts images message blade is may = each_coming blade (λ m. IsActions blade (after_message images m blade))
    (λ page perm writable image may.
    let frame : Frame = came perm writable image in
    let after : BladeView = (taken page perm writable image blade).blade in
    both blade (taken page perm writable image blade) (λ b. resumed_for Filled images (request_for page b.requests) b)
    (takes page perm writable image blade is may (put_of blade.cache page) refl)
    (resumes_for Filled images page after (λ asked out same. (
      frame,
      ap (λ q. frame_of q after.cache.entries) same ∙ came-held blade.cache page frame,
      subst (λ o. IsSomeAnd o (FitsFill writable)) out may,
    ))))
    (λ page may. resumes_for Denied images page blade (λ asked out same. tt))
    (λ number range asked. obeys given_up gives (held_in range blade) number asked blade)
    (λ number range asked. obeys lowered lowers (writable_in range blade) number (Some asked) blade)
    message may
