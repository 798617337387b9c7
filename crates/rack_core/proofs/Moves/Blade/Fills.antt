-- A page that comes, or is denied, is moves, with what waited for it.
use Rattle.std.proofs.Common.{◌≡◌, ℕ, ◌+◌, Bool, true, false, ap, sym, refl, subst, List, [], ◌∷◌, slice_get, Option, Some, None, is_some, option_map, ◌∙◌, arith, append-nil}
use Rattle.std.specs.Prelude.{if◌then◌else◌, option_and_then, unwrap_or}
use Rattle.std.specs.Bool.{beq}
use Rattle.std.proofs.lemmas.Bool.{and_parts}
use Rattle.std.proofs.lemmas.Option.{same_Some}
use Rattle.mind_base.specs.Page.{PageView}
use Rattle.mind_base.specs.declared.commands.Perm.{Perm}
use Rattle.mind_base.specs.declared.images.Image.{Image}
use Rattle.mind_base.specs.declared.plans.ThreadPlan.{ThreadPlan}
use Rattle.hart_effect.specs.Deed.{found}
use Rattle.hart_effect.specs.declared.finds.Found.{Found}
use Rattle.mind_base.specs.Place.{place_of, page_at}
use Rattle.page_cache.specs.PageCache.{IsPageCache, same_page, frame_of, without_page, entries_after_put, put_of}
use Rattle.page_cache.specs.declared.frames.Frame.{Frame}
use Rattle.page_cache.specs.declared.frames.Put.{Put}
use Rattle.page_cache.specs.declared.frames.Put.TheVariants.{Fresh, Replaced, Pushed}
use Rattle.page_cache.proofs.Callers.{same_page-refl, same_page-true}
use Rattle.page_image.specs.PageImage.{PageImageView}
use Rattle.wire_msg.specs.declared.msgs.Msg.{Msg}
use Rattle.wire_msg.specs.declared.msgs.Msg.TheVariants.{Fill, Deny}
use Rattle.compute_blade.specs.Blade.{HartView, BladeView, BladeEffect, hart_of, with_hart, with_frames, request_for, requests_without, only, and_then}
use Rattle.compute_blade.specs.Frames.{around_held, thread_of}
use Rattle.compute_blade.specs.Denials.{denial_in, faulting, refused_by}
use Rattle.compute_blade.specs.Messages.{after_message, awake, needs_just, need_asked, answered_by, resumed, resumed_for, resumed_by}
use Rattle.compute_blade.specs.Pages.{sent_out, back_of}
use Rattle.compute_blade.specs.Steps.{need_in, for_hart}
use Rattle.compute_blade.specs.declared.kept.Denial.{Denial}
use Rattle.compute_blade.specs.declared.kept.Need.{Need}
use Rattle.compute_blade.specs.declared.kept.Answer.{Answer}
use Rattle.compute_blade.specs.declared.kept.Answer.TheVariants.{Filled, Denied}
use Rattle.compute_blade.specs.declared.kept.Asked.{Asked}
use Rattle.compute_blade.specs.declared.kept.Waits.{Waits}
use Rattle.compute_blade.specs.declared.kept.Waits.TheVariants.{Step, Drain}
use Rattle.coherence.specs.Counts.{bit, total, is_deny}
use Rattle.coherence.specs.Facts.{IsCoherent, AreDowns}
use Rattle.coherence.specs.Moves.{took}
use Rattle.coherence.specs.World.{World}
use Rattle.coherence.proofs.Callers.{run_keeps, downs-cons, total-cons}
use Rattle.rack_core.specs.BladeMoves.{asked_in, with_seen_blade, HasBlade, LeadsTo, IsRequestBy, IsRequest, IsSoundBlade, DoesMoves, MayWriteAll}
use Rattle.rack_core.proofs.Moves.Blade.Worlds.{has_blade, stays, leads_on, leads_taking}
use Rattle.rack_core.proofs.Moves.Blade.Acts.{gives, takes, denied}
use Rattle.rack_core.proofs.Moves.Blade.Deeds.{storing}
use Rattle.rack_core.proofs.Moves.Blade.Sound.{hart_in-set, of_found, awakes, allowed-hart}
use Rattle.rack_core.proofs.Moves.Blade.Waits.{IsAwake, apart-answered, waiters-answered, waiting-answered}
use Rattle.rack_core.proofs.Moves.Blade.Steps.{HoldsToWrite, FindsAllowed, finds_allowed, of_harts, idle, sound-hart, performs, drains}
use Rattle.rack_core.proofs.Lists.Lookups.{Entries, found-without, found-put_fresh, found-put_replaced, found-put_pushed, cache-put}
use Rattle.rack_core.proofs.Moves.Blade.Resuming.{resumes-as}

-- ---- what waited is performed

-- the request that ends, and the hart that waited for it
pub record Ends (blade : BladeView) (asked : Asked) (plan : ThreadPlan) (hart : HartView) : Type 0 where
  pub thread : slice_get blade.plan.threads asked.hart ≡ Some plan
  pub own : hart_of blade asked.hart ≡ Some hart
  pub request : IsRequest blade.plan.threads blade.harts asked

pub ends-by : (blade : BladeView) (asked : Asked) (waits : Waits) → IsRequestBy waits blade.plan.threads blade.harts asked
    → (plan : ThreadPlan) × (hart : HartView) × (slice_get blade.plan.threads asked.hart ≡ Some plan) × (hart_of blade asked.hart ≡ Some hart)
ends-by blade asked Step r = (r.plan, r.hart, r.thread, r.own)
ends-by blade asked Drain r = (r.plan, r.hart, r.thread, r.own)

-- the blade when the request for its page has ended
unfoldable pub awaking : Asked → HartView → BladeView → BladeView
awaking asked hart blade = with_hart asked.hart (awake asked.waits hart) (record blade { requests = requests_without asked.page blade.requests })

for_hart-is : (blade : BladeView) (h : ℕ) (act : ThreadPlan → HartView → Option BladeEffect) (plan : ThreadPlan) (hart : HartView)
    → slice_get blade.plan.threads h ≡ Some plan → hart_of blade h ≡ Some hart → for_hart blade h act ≡ act plan hart
for_hart-is blade h act plan hart thread own =
    ap (option_and_then (λ plan. option_and_then (λ hart. act plan hart) (hart_of blade h))) thread
    ∙ ap (option_and_then (λ hart. act plan hart)) own

pub resumed-is : (answer : Answer) (images : List Image) (asked : Asked) (blade : BladeView) (plan : ThreadPlan) (hart : HartView) → Ends blade asked plan hart
    → resumed answer images asked blade ≡ resumed_by asked.waits answer (need_asked asked) images asked.hart plan (awaking asked hart blade) (awake asked.waits hart)
unfolding awaking
resumed-is answer images asked blade plan hart ends = ap (λ e. unwrap_or e (only blade)) (for_hart-is blade asked.hart
    (λ plan hart. Some (resumed_by asked.waits answer (need_asked asked) images asked.hart plan
    (with_hart asked.hart (awake asked.waits hart) (record blade { requests = requests_without asked.page blade.requests })) (awake asked.waits hart)))
    plan hart ends.thread ends.own)

-- a page that came is held to be written where it was asked for to be written
HoldsAsked : Answer → Need → Entries → Type 0
HoldsAsked Filled asked entries = asked.write ≡ true → HoldsToWrite entries asked.page
HoldsAsked Denied asked entries = Unit {0}

-- what harts find allowed is allowed
FindsOnly : Entries → (PageView → Perm) → Type 0
FindsOnly entries perms = (h domain : ℕ) → FindsAllowed (around_held entries h domain) perms

-- an instruction that needs just what was asked for needs that page, and to write only where that was asked for
pub just-page : (asked : Need) (found : Option Need) (need : Need) → found ≡ Some need → needs_just asked found ≡ true → (asked.page ≡ need.page) × (asked.write ≡ need.write)
just-page asked found need is just =
    let parts = and_parts (same_page asked.page need.page) (beq asked.write need.write) (ap (needs_just asked) (sym is) ∙ just) in
    (same_page-true asked.page need.page parts.0, same asked.write need.write parts.1)
  where
    same : (a b : Bool) → beq a b ≡ true → a ≡ b
    same true true e = refl
    same false false e = refl
    same true false e = let never : ⊥ = cc in absurd never
    same false true e = let never : ⊥ = cc in absurd never

-- a fault ends a hart whose step does not wait
refuses : (v : World) (c : ℕ) (blade : BladeView) (h pc : ℕ) (hart : HartView) → HasBlade c blade v → IsSoundBlade v.perms blade → hart_of blade h ≡ Some hart → hart.stepping ≡ false
    → (denial : Option Denial) → DoesMoves v v c (refused_by denial h pc blade hart)
refuses v c blade h pc hart has sound own awake None = idle v c blade has sound
refuses v c blade h pc hart has sound own awake (Some denial) =
    let new = faulting denial.kind denial.address pc hart in
    record {
      flat = v.flat;
      leads = of_harts v v c blade [] v.flat h new (stays c blade v has);
      kept = λ page e. refl;
      sound = sound-hart v.perms blade h hart new blade.cache.entries sound own (record { steps = λ s. s; drains = λ d. (d, λ oldest q. q) }) refl refl (λ plan thread all. all) sound.cache;
    }

-- the answer lets the step do what it waited for
answers-step : (answer : Answer) (v : World) (c : ℕ) (blade : BladeView) (h : ℕ) (plan : ThreadPlan) (asked : Need) (found : Found) (pc : ℕ) (hart : HartView)
    → HasBlade c blade v → IsSoundBlade v.perms blade → slice_get blade.plan.threads h ≡ Some plan → hart_of blade h ≡ Some hart → hart.stepping ≡ false
    → HoldsAsked answer asked blade.cache.entries → FindsOnly blade.cache.entries v.perms → needs_just asked (need_in found plan.domain) ≡ true
    → DoesMoves v v c (answered_by answer h plan found pc blade hart)
unfolding HoldsAsked FindsOnly
answers-step Filled v c blade h plan asked found pc hart has sound thread own awake holds finds just =
    performs v c blade (around_held blade.cache.entries h plan.domain) h plan found pc hart has sound thread own awake refl (finds h plan.domain)
    (λ new store e.
    let s = storing found (around_held blade.cache.entries h plan.domain) pc (thread_of blade.cache.entries hart) new store e in
    let is = just-page asked (need_in found plan.domain) (record { page = page_at (place_of plan.domain store.address); write = true }) s.needs just in
    subst (HoldsToWrite blade.cache.entries) is.0 (holds is.1))
answers-step Denied v c blade h plan asked found pc hart has sound thread own awake holds finds just = refuses v c blade h pc hart has sound own awake (denial_in found)

resumes : (answer : Answer) (images : List Image) (v : World) (c : ℕ) (blade : BladeView) (h : ℕ) (plan : ThreadPlan) (asked : Need) (waits : Waits) (hart : HartView)
    → HasBlade c blade v → IsSoundBlade v.perms blade → slice_get blade.plan.threads h ≡ Some plan → hart_of blade h ≡ Some hart → IsAwake waits hart
    → HoldsAsked answer asked blade.cache.entries → FindsOnly blade.cache.entries v.perms
    → DoesMoves v v c (resumed_by waits answer asked images h plan blade hart)
resumes answer images v c blade h plan asked Drain hart has sound thread own awake holds finds =
    drains v c blade h plan hart.queue.stores hart has sound thread own awake refl
resumes answer images v c blade h plan asked Step hart has sound thread own awake holds finds =
    resumes-as (DoesMoves v v c) answer asked images h plan blade hart (idle v c blade has sound)
    (λ image pc code runs just ready. answers-step answer v c blade h plan asked (found image hart.regs pc) pc hart has sound thread own awake holds finds just)

-- ---- the answer to a request

pub awake-awake : (waits : Waits) (hart : HartView) → IsAwake waits (awake waits hart)
awake-awake Step hart = refl
awake-awake Drain hart = refl

pub awake-queue : (waits : Waits) (hart : HartView) → (awake waits hart).queue ≡ hart.queue
awake-queue Step hart = refl
awake-queue Drain hart = refl

-- the blade when a request of it has ended is sound
pub awaking-sound : (perms : PageView → Perm) (blade : BladeView) (asked : Asked) (hart : HartView) → IsSoundBlade perms blade → hart_of blade asked.hart ≡ Some hart
    → request_for asked.page blade.requests ≡ Some asked → IsSoundBlade perms (awaking asked hart blade)
unfolding awaking
awaking-sound perms blade asked hart sound own is = record {
  cache = sound.cache;
  apart = apart-answered asked.page blade.requests sound.apart;
  waiters = waiters-answered asked.page blade.requests sound.waiters;
  waiting = waiting-answered blade.harts hart asked blade.requests own sound.apart is sound.waiting;
  stores = allowed-hart perms blade.plan.threads blade.harts asked.hart hart (awake asked.waits hart) own sound.stores
      (λ plan thread all. subst (λ queue. MayWriteAll perms plan.domain queue.stores) (sym (awake-queue asked.waits hart)) all);
  requests = awakes blade.plan.threads blade.harts asked hart own blade.requests sound.waiters is sound.requests;
}

-- the request for a page ends, and what waited for it goes on
answers : (answer : Answer) (images : List Image) (w other : World) (c : ℕ) (blade : BladeView) (page : PageView) (asked : Asked) (sent : List Msg)
    → IsSoundBlade w.perms blade → request_for page blade.requests ≡ Some asked → HoldsAsked answer (need_asked asked) blade.cache.entries → FindsOnly blade.cache.entries w.perms
    → other.perms ≡ w.perms
    → LeadsTo w other c (record blade { requests = requests_without page blade.requests }) sent w.flat
    → (noted : List Rattle.mind_base.specs.declared.notes.Note.Note)
    → DoesMoves w other c (and_then (record { blade = blade; sent = sent; noted = noted }) (λ after. resumed_for answer images (request_for page after.requests) after))
unfolding awaking FindsOnly
answers answer images w other c blade page asked sent sound is holds finds same_perms first noted =
    let found_it = of_found (IsRequest blade.plan.threads blade.harts) page blade.requests asked sound.requests is in
    let ends = ends-by blade asked asked.waits found_it.0 in
    let plan = ends.0 in
    let hart = ends.1 in
    let e : Ends blade asked plan hart = record { thread = ends.2; own = ends.3; request = found_it.0 } in
    let new = awaking asked hart blade in
    let mid_blade : BladeView = record blade { requests = requests_without page blade.requests } in
    let mid = with_seen_blade c mid_blade sent w.flat other in
    let mid_has = has_blade c mid_blade sent w.flat other in
    let same_requests : requests_without asked.page blade.requests ≡ requests_without page blade.requests = ap (λ q. requests_without q blade.requests) found_it.1 in
    let has : HasBlade c new mid = record { frames = mid_has.frames; asks = λ q. mid_has.asks q ∙ sym (ap (λ rs. asked_in rs q) same_requests) } in
    let does = resumes answer images mid c new asked.hart plan (need_asked asked) asked.waits (awake asked.waits hart) has
    (subst (λ p. IsSoundBlade p new) (sym same_perms) (awaking-sound w.perms blade asked hart sound ends.3 (ap (λ q. request_for q blade.requests) found_it.1 ∙ is)))
    ends.2 (hart_in-set blade.harts asked.hart hart (awake asked.waits hart) ends.3) (awake-awake asked.waits hart) holds
    (subst (FindsOnly blade.cache.entries) (sym same_perms) finds) in
    let goes : DoesMoves mid mid c (resumed_for answer images (request_for page blade.requests) blade) =
    subst (DoesMoves mid mid c) (sym (resumed-is answer images asked blade plan hart e) ∙ ap (λ a. resumed_for answer images a blade) (sym is)) does in
    record {
      flat = goes.flat;
      kept = goes.kept;
      leads = leads_on w other c mid_blade (resumed_for answer images (request_for page blade.requests) blade).blade sent
          (resumed_for answer images (request_for page blade.requests) blade).sent w.flat goes.flat first goes.leads;
      sound = subst (λ p. IsSoundBlade p (resumed_for answer images (request_for page blade.requests) blade).blade) same_perms goes.sound;
    }

-- a request that the world has is found
pub asked_for : (requests : List Asked) (page : PageView) (write : Bool) → asked_in requests page ≡ Some write → (asked : Asked) × (request_for page requests ≡ Some asked) × (asked.write ≡ write)
asked_for requests page write e = by (request_for page requests) refl e where
  by : (r : Option Asked) → request_for page requests ≡ r → option_map (λ asked. asked.write) r ≡ Some write → (asked : Asked) × (request_for page requests ≡ Some asked) × (asked.write ≡ write)
  by None f e = let never : ⊥ = cc in absurd never
  by (Some asked) f e = (asked, f, same_Some _ _ e)

-- ---- a page that comes

unfoldable pub came : PageView → Perm → Bool → PageImageView → Frame
came page perm writable image = record { image = image; writable = writable; dirty = false; perm = perm }

pub fills : (w : World) (c : ℕ) (blade : BladeView) (page : PageView) (perm : Perm) (writable : Bool) (image : PageImageView) (behind : List Msg)
    → HasBlade c blade w → IsPageCache blade.cache → w.downs c ≡ Fill page perm writable image ∷ behind
    → (put : Put) → put_of blade.cache page ≡ put
    → LeadsTo w (took c behind w) c (record (with_frames blade (entries_after_put blade.cache page (came page perm writable image))) { requests = requests_without page blade.requests }) (sent_out put) w.flat
unfolding came
fills w c blade page perm writable image behind has is head Fresh e =
    takes c blade w page perm writable image behind (entries_after_put blade.cache page (came page perm writable image)) has head
    (found-put_fresh blade.cache page (came page perm writable image) e)
fills w c blade page perm writable image behind has is head (Replaced old) e =
    takes c blade w page perm writable image behind (entries_after_put blade.cache page (came page perm writable image)) has head
    (found-put_replaced blade.cache page (came page perm writable image) old is e)
fills w c blade page perm writable image behind has is head (Pushed out old) e =
    let pushed = found-put_pushed blade.cache page (came page perm writable image) out old is e in
    let left = without_page out blade.cache.entries in
    let mid_blade = with_frames blade left in
    let first = gives c blade w out old has is pushed.held in
    let entries = entries_after_put blade.cache page (came page perm writable image) in
    let second = takes c mid_blade (with_seen_blade c mid_blade (back_of out old) w.flat w) page perm writable image behind entries
    (has_blade c mid_blade (back_of out old) w.flat w) head
    (λ other. pushed.found other ∙ ap (λ f. if same_page other page then Some (came page perm writable image) else f) (sym (found-without out blade.cache.entries is.distinct other))) in
    subst (λ sent. LeadsTo w (took c behind w) c (record (with_frames blade entries) { requests = requests_without page blade.requests }) sent w.flat) (append-nil (back_of out old))
    (leads_taking w c behind mid_blade (record (with_frames blade entries) { requests = requests_without page blade.requests }) (back_of out old) [] w.flat w.flat first second)

-- the page that came is held as it came
pub came-held : (blade : BladeView) (page : PageView) (frame : Frame) → IsPageCache blade.cache → (put : Put) → put_of blade.cache page ≡ put
    → frame_of page (entries_after_put blade.cache page frame) ≡ Some frame
came-held blade page frame is Fresh e = found-put_fresh blade.cache page frame e page ∙ ap (λ b. if b then Some frame else frame_of page blade.cache.entries) (same_page-refl page)
came-held blade page frame is (Replaced old) e = found-put_replaced blade.cache page frame old is e page ∙ ap (λ b. if b then Some frame else frame_of page blade.cache.entries) (same_page-refl page)
came-held blade page frame is (Pushed out old) e = (found-put_pushed blade.cache page frame out old is e).found page
    ∙ ap (λ b. if b then Some frame else (if same_page page out then None else frame_of page blade.cache.entries)) (same_page-refl page)

pub fill : (images : List Image) (w : World) (c : ℕ) (blade : BladeView) (page : PageView) (perm : Perm) (writable : Bool) (image : PageImageView) (behind : List Msg)
    → IsCoherent w → HasBlade c blade w → IsSoundBlade w.perms blade → w.downs c ≡ Fill page perm writable image ∷ behind
    → DoesMoves w (took c behind w) c (after_message images (Fill page perm writable image) blade)
unfolding came HoldsAsked FindsOnly HoldsToWrite
fill images w c blade page perm writable image behind coherent has sound head =
    let downs = downs-cons w c (Fill page perm writable image) behind (subst (AreDowns w c) head (coherent.downs c)) in
    let out : w.asks c page ≡ Some writable = downs.0.asked in
    let asked = asked_for blade.requests page writable (sym (has.asks page) ∙ out) in
    let frame = came page perm writable image in
    let entries = entries_after_put blade.cache page frame in
    let after = with_frames blade entries in
    let held = came-held blade page frame sound.cache (put_of blade.cache page) refl in
    let own_page = (of_found (IsRequest blade.plan.threads blade.harts) page blade.requests asked.0 sound.requests asked.1).1 in
    let after_sound : IsSoundBlade w.perms after = record { cache = cache-put blade.cache page frame sound.cache; apart = sound.apart; waiters = sound.waiters; requests = sound.requests; waiting = sound.waiting; stores = sound.stores } in
    let sent = sent_out (put_of blade.cache page) in
    let left : BladeView = record after { requests = requests_without page blade.requests } in
    let first = fills w c blade page perm writable image behind has sound.cache head (put_of blade.cache page) refl in
    let mid = with_seen_blade c left sent w.flat (took c behind w) in
    let mid_coherent : IsCoherent mid = run_keeps w mid first.moves coherent first.run in
    answers Filled images w (took c behind w) c after page asked.0 sent after_sound asked.1
    (λ write. (frame, ap (λ q. frame_of q entries) own_page ∙ held, sym asked.2 ∙ write))
    (λ h domain. finds_allowed mid c left h domain mid_coherent (has_blade c left sent w.flat (took c behind w))) refl
    first _

-- ---- a page that is denied

-- a request is out for a page that is denied
pub denied-asked : (w : World) (c : ℕ) (page : PageView) (behind : List Msg) → IsCoherent w → w.downs c ≡ Deny page ∷ behind → (write : Bool) × (w.asks c page ≡ Some write)
denied-asked w c page behind coherent head = by (w.asks c page) refl where
  by : (out : Option Bool) → w.asks c page ≡ out → (write : Bool) × (w.asks c page ≡ Some write)
  by None out =
      let counts = coherent.answered c page in
      let one : total (is_deny page) (w.downs c) ≡ bit (same_page page page) + total (is_deny page) behind = ap (total (is_deny page)) head ∙ total-cons (is_deny page) (Deny page) behind in
      let here : bit (same_page page page) ≡ 1 = ap bit (same_page-refl page) in
      let none : bit (is_some (w.asks c page)) ≡ 0 = ap (λ o. bit (is_some o)) out in
      absurd (omega (arith, counts, one, here, none))
  by (Some write) out = (write, out)

pub deny : (images : List Image) (w : World) (c : ℕ) (blade : BladeView) (page : PageView) (behind : List Msg)
    → IsCoherent w → HasBlade c blade w → IsSoundBlade w.perms blade → w.downs c ≡ Deny page ∷ behind
    → DoesMoves w (took c behind w) c (after_message images (Deny page) blade)
unfolding HoldsAsked FindsOnly
deny images w c blade page behind coherent has sound head =
    let out = denied-asked w c page behind coherent head in
    let asked = asked_for blade.requests page out.0 (sym (has.asks page) ∙ out.1) in
    let does = answers Denied images w (took c behind w) c blade page asked.0 [] sound asked.1 tt
    (λ h domain. finds_allowed w c blade h domain coherent has) refl
    (denied c blade w page behind has head) [] in
    record { flat = does.flat; leads = does.leads; kept = does.kept; sound = does.sound }
