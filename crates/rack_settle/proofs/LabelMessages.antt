-- A message that comes to a blade performs what waited for it, with its label, and nothing else.
use Rattle.std.proofs.Common.{◌≡◌, ℕ, Bool, true, false, cond, not, ap, sym, refl, subst, List, [], ◌∷◌, ◌++◌, map, Option, Some, None, ◌∙◌}
use Rattle.std.specs.Prelude.{if◌then◌else◌, IsSomeAnd}
use Rattle.std.specs.List.{AllByRecursion}
use Rattle.std.specs.List.Sorted.{IsPermutation}
use Rattle.std.proofs.lemmas.List.Elements.{filter_map-append}
use Rattle.std.proofs.lemmas.List.Sorted.{IsPermutation-cons, IsPermutation-middle, IsPermutation-refl, IsPermutation-trans}
use Rattle.std.proofs.lemmas.Option.{same_Some}
use Rattle.mind_base.specs.Page.{PageView}
use Rattle.mind_base.specs.Pending.{PendingView}
use Rattle.mind_base.specs.Place.{place_of, page_at}
use Rattle.mind_base.specs.declared.commands.Perm.{Perm}
use Rattle.mind_base.specs.declared.images.Image.{Image}
use Rattle.mind_base.specs.declared.notes.Note.{Note}
use Rattle.mind_base.specs.declared.notes.Note.TheVariants as note
use Rattle.mind_base.specs.declared.plans.ThreadPlan.{ThreadPlan}
use Rattle.hart_effect.specs.Deed.{Deed, found, carried_out}
use Rattle.hart_effect.specs.declared.finds.Found.{Found}
use Rattle.page_cache.specs.PageCache.{CacheView, IsPageCache, same_page, frame_of, entries_after_put, put_of, is_writable}
use Rattle.page_cache.specs.declared.frames.Frame.{Frame}
use Rattle.page_cache.specs.declared.frames.Put.{Put}
use Rattle.page_cache.specs.declared.frames.Put.TheVariants.{Fresh, Replaced, Pushed}
use Rattle.page_cache.proofs.Callers.{same_page-refl, same_page-true}
use Rattle.wire_msg.specs.declared.msgs.Msg.{Msg}
use Rattle.wire_msg.specs.declared.msgs.Msg.TheVariants.{Fill, Deny, Inv, Lower}
use Rattle.compute_blade.specs.Blade.{HartView, BladeView, BladeEffect, with_frames, request_for, requests_without}
use Rattle.compute_blade.specs.Denials.{denial_in, refused_by}
use Rattle.compute_blade.specs.Frames.{around_held, thread_of}
use Rattle.compute_blade.specs.Messages.{FitsFill, MayComeToBlade, after_message, answered_by, awake, need_asked, resumed, resumed_by, resumed_for}
use Rattle.compute_blade.specs.Pages.{given_up, giving_up, lowered, lowering, each_in, held_in, writable_in, noted_out}
use Rattle.compute_blade.specs.Steps.{asking, drained, draining_by, performed, performed_by}
use Rattle.compute_blade.specs.declared.kept.Answer.{Answer}
use Rattle.compute_blade.specs.declared.kept.Answer.TheVariants.{Filled, Denied}
use Rattle.compute_blade.specs.declared.kept.Asked.{Asked}
use Rattle.compute_blade.specs.declared.kept.Denial.{Denial}
use Rattle.compute_blade.specs.declared.kept.Waits.{Waits}
use Rattle.compute_blade.specs.declared.kept.Waits.TheVariants.{Step, Drain}
use Rattle.tso_machine.specs.Replay.{label_of, labels}
use Rattle.tso_machine.specs.declared.labels.Label.{Label}
use Rattle.tso_machine.specs.declared.labels.Label.TheVariants as label
use Rattle.rack_core.specs.BladeMoves.{AreRequestsApart, IsDrainRequest, IsRequest, IsRequestBy, IsSoundBlade}
use Rattle.rack_core.specs.Waits.{IsNeeded, woken_for}
use Rattle.rack_core.proofs.Callers.{Ends, awaking, resumed-is, of_found, Entries, found-put_fresh, found-put_replaced, found-put_pushed, resumes, out_for, taken-silent}
use Rattle.rack_settle.specs.Labels.{owed_by, owed_for, waiting_label}

-- ---- what a blade owes

-- a blade that owed nothing owes nothing still, and its harts are as they were
pub record IsLeft (old new : BladeView) : Type 0 where
  pub plan : new.plan ≡ old.plan
  pub harts : new.harts ≡ old.harts
  pub free : new.requests ≡ []

-- what the blade notes and what it owes then is what it owed
pub record Pays (blade : BladeView) (e : BladeEffect) : Type 0 where
  pub same : IsPermutation (labels e.noted ++ owed_by e.blade) (owed_by blade)
  pub rests : blade.requests ≡ [] → IsLeft blade e.blade

-- nothing is performed: no label is noted, and the harts and what waits stay
pub record IsSilent (blade : BladeView) (e : BladeEffect) : Type 0 where
  pub silent : labels e.noted ≡ []
  pub requests : e.blade.requests ≡ blade.requests
  pub harts : e.blade.harts ≡ blade.harts
  pub plan : e.blade.plan ≡ blade.plan

pub silent-pays : (blade : BladeView) (e : BladeEffect) → IsSilent blade e → Pays blade e
silent-pays blade e is = record {
  same = subst (λ l. IsPermutation l (owed_by blade)) (λ i. sym is.silent i ++ map owed_for (sym is.requests i)) (IsPermutation-refl (owed_by blade));
  rests = λ free. record { plan = is.plan; harts = is.harts; free = is.requests ∙ free };
}

-- ---- pages are given up

pub gives-silent : (page : PageView) (blade : BladeView) → IsSilent blade (given_up page blade)
gives-silent page blade = by (frame_of page blade.cache.entries) where
  by : (o : Option Frame) → IsSilent blade (giving_up page o blade)
  by None = record { silent = refl; requests = refl; harts = refl; plan = refl }
  by (Some frame) = record { silent = refl; requests = refl; harts = refl; plan = refl }

lowers-silent : (page : PageView) (blade : BladeView) → IsSilent blade (lowered page blade)
lowers-silent page blade = by (frame_of page blade.cache.entries) where
  by : (o : Option Frame) → IsSilent blade (lowering page o blade)
  by None = record { silent = refl; requests = refl; harts = refl; plan = refl }
  by (Some frame) = record { silent = refl; requests = refl; harts = refl; plan = refl }

each-silent : (change : PageView → BladeView → BladeEffect) → ((page : PageView) (blade : BladeView) → IsSilent blade (change page blade)) → (pages : List PageView) (blade : BladeView)
    → IsSilent blade (each_in change pages blade)
each-silent change one [] blade = record { silent = refl; requests = refl; harts = refl; plan = refl }
each-silent change one (page ∷ pages) blade =
    let first = one page blade in
    let rest = each-silent change one pages (change page blade).blade in
    record {
      silent = filter_map-append label_of (change page blade).noted (each_in change pages (change page blade).blade).noted ∙ (λ i. first.silent i ++ rest.silent i);
      requests = rest.requests ∙ first.requests;
      harts = rest.harts ∙ first.harts;
      plan = rest.plan ∙ first.plan;
    }

-- the acknowledgement is no label
then-silent : (blade : BladeView) (e : BladeEffect) (last : List Note) → IsSilent blade e → labels last ≡ [] → labels (e.noted ++ last) ≡ []
then-silent blade e last is quiet = filter_map-append label_of e.noted last ∙ (λ i. is.silent i ++ quiet i)

-- ---- a request ends

none-for : (page : PageView) (requests : List Asked) → AllByRecursion (λ other. same_page page other.page ≡ false) requests → requests_without page requests ≡ requests
none-for page [] all = refl
none-for page (first ∷ requests) all =
    ap (λ b. cond (not b) (first ∷ requests_without page requests) (requests_without page requests)) all.0 ∙ ap (λ rest. first ∷ rest) (none-for page requests all.1)

-- the one that ends and those that are left are all that there were
ends-one : (page : PageView) (requests : List Asked) (asked : Asked) → AreRequestsApart requests → request_for page requests ≡ Some asked
    → IsPermutation (owed_for asked ∷ map owed_for (requests_without page requests)) (map owed_for requests)
ends-one page [] asked apart e = let never : ⊥ = cc in absurd never
ends-one page (first ∷ requests) asked apart e = by (ends-one page requests asked apart.1) (same_page page first.page) refl e where
  swapped : (a b : Label) (ls : List Label) → IsPermutation (a ∷ b ∷ ls) (b ∷ a ∷ ls)
  swapped a b ls = IsPermutation-middle (a ∷ []) b ls

  by : (request_for page requests ≡ Some asked → IsPermutation (owed_for asked ∷ map owed_for (requests_without page requests)) (map owed_for requests))
      → (b : Bool) → same_page page first.page ≡ b → cond b (Some first) (request_for page requests) ≡ Some asked
      → IsPermutation (owed_for asked ∷ map owed_for (cond (not b) (first ∷ requests_without page requests) (requests_without page requests))) (owed_for first ∷ map owed_for requests)
  by rest true s e =
      let none = none-for page requests (subst (λ p. AllByRecursion (λ other. same_page p other.page ≡ false) requests) (sym (same_page-true page first.page s)) apart.0) in
      subst (λ l. IsPermutation l (owed_for first ∷ map owed_for requests)) (λ i. owed_for (same_Some _ _ e i) ∷ map owed_for (sym none i)) (IsPermutation-refl (owed_for first ∷ map owed_for requests))
  by rest false s e =
      IsPermutation-trans _ _ _ (swapped (owed_for asked) (owed_for first) (map owed_for (requests_without page requests))) (IsPermutation-cons (owed_for first) _ _ (rest e))

-- what waited for a request is performed, and the request is out no longer
record Ended (asked : Asked) (blade : BladeView) (e : BladeEffect) : Type 0 where
  label : labels e.noted ≡ owed_for asked ∷ []
  left : e.blade.requests ≡ requests_without asked.page blade.requests

ended-pays : (page : PageView) (asked : Asked) (blade : BladeView) (e : BladeEffect) → AreRequestsApart blade.requests → request_for page blade.requests ≡ Some asked → Ended asked blade e → Pays blade e
ended-pays page asked blade e apart out ended = record {
  same = subst (λ l. IsPermutation l (owed_by blade)) (λ i. sym ended.label i ++ map owed_for (sym left i)) (ends-one page blade.requests asked apart out);
  rests = λ free. let none : None ≡ Some asked = sym (ap (request_for page) free) ∙ out in let never : ⊥ = cc in absurd never;
} where
  all-units : (requests : List Asked) → AllByRecursion (λ other. Unit {0}) requests
  all-units [] = tt
  all-units (first ∷ requests) = (tt, all-units requests)

  left : e.blade.requests ≡ requests_without page blade.requests
  left = ended.left ∙ ap (λ q. requests_without q blade.requests) (of_found (λ other. Unit {0}) page blade.requests asked (all-units blade.requests) out).1

-- ---- a step goes on

pub performed-left : (h : ℕ) (plan : ThreadPlan) (found : Found) (pc : ℕ) (blade : BladeView) (hart : HartView) → (performed h plan found pc blade hart).blade.requests ≡ blade.requests
performed-left h plan found pc blade hart = by (carried_out found (around_held blade.cache.entries h plan.domain) pc (thread_of blade.cache.entries hart)) where
  by : (o : Option Deed) → (performed_by o h plan found blade hart).blade.requests ≡ blade.requests
  by None = refl
  by (Some deed) = refl

answered-left : (answer : Answer) (h : ℕ) (plan : ThreadPlan) (found : Found) (pc : ℕ) (blade : BladeView) (hart : HartView) → (answered_by answer h plan found pc blade hart).blade.requests ≡ blade.requests
answered-left Filled h plan found pc blade hart = performed-left h plan found pc blade hart
answered-left Denied h plan found pc blade hart = by (denial_in found) where
  by : (o : Option Denial) → (refused_by o h pc blade hart).blade.requests ≡ blade.requests
  by None = refl
  by (Some denial) = refl

steps-on : (answer : Answer) (images : List Image) (perms : PageView → Perm) (blade : BladeView) (page : PageView) (asked : Asked) (entries : Entries) → IsSoundBlade perms blade → IsNeeded images blade
    → request_for page blade.requests ≡ Some asked → asked.waits ≡ Step → Ended asked blade (resumed answer images asked (with_frames blade entries))
steps-on answer images perms blade page asked entries sound is out step =
    let goes = resumes answer images perms blade page asked entries sound is out step in
    record {
      label = ap labels goes.label ∙ ap (λ w. waiting_label w asked.hart ∷ []) (sym step);
      left = ap (λ (e : BladeEffect). e.blade.requests) goes.does
          ∙ answered-left answer asked.hart goes.plan (found goes.image goes.hart.regs goes.pc) goes.pc (woken_for asked goes.hart (with_frames blade entries)) (awake Step goes.hart);
    }

-- ---- a drain goes on

-- the oldest store's page is held to write
drains-on : (h : ℕ) (plan : ThreadPlan) (oldest : PendingView) (newer : List PendingView) (blade : BladeView) (hart : HartView)
    → is_writable (frame_of (page_at (place_of plan.domain oldest.address)) blade.cache.entries) ≡ true
    → (labels (draining_by h plan (oldest ∷ newer) blade hart).noted ≡ label.Drain h ∷ []) × ((draining_by h plan (oldest ∷ newer) blade hart).blade.requests ≡ blade.requests)
drains-on h plan oldest newer blade hart held =
    let effect : Bool → BladeEffect = λ b. if b then drained h plan oldest newer blade hart else asking h Drain (record { page = page_at (place_of plan.domain oldest.address); write = true }) blade hart in
    (ap (λ b. labels (effect b).noted) held, ap (λ b. (effect b).blade.requests) held)

-- a page that came is held as it came
held-put : (cache : CacheView) (page : PageView) (frame : Frame) → IsPageCache cache → frame_of page (entries_after_put cache page frame) ≡ Some frame
held-put cache page frame is = by (put_of cache page) refl where
  by : (put : Put) → put_of cache page ≡ put → frame_of page (entries_after_put cache page frame) ≡ Some frame
  by Fresh p = found-put_fresh cache page frame p page ∙ ap (λ b. if b then Some frame else frame_of page cache.entries) (same_page-refl page)
  by (Replaced old) p = found-put_replaced cache page frame old is p page ∙ ap (λ b. if b then Some frame else frame_of page cache.entries) (same_page-refl page)
  by (Pushed out old) p = (found-put_pushed cache page frame out old is p).found page
      ∙ ap (λ b. if b then Some frame else (if same_page page out then None else frame_of page cache.entries)) (same_page-refl page)

filled-drains : (images : List Image) (perms : PageView → Perm) (blade : BladeView) (page : PageView) (asked : Asked) (frame : Frame) → IsSoundBlade perms blade
    → request_for page blade.requests ≡ Some asked → (asked.write ≡ true → frame.writable ≡ true) → asked.waits ≡ Drain
    → Ended asked blade (resumed Filled images asked (with_frames blade (entries_after_put blade.cache page frame)))
unfolding awaking
filled-drains images perms blade page asked frame sound out fits drain = record {
  label = ap (λ (e : BladeEffect). labels e.noted) does ∙ goes.0 ∙ ap (λ w. waiting_label w asked.hart ∷ []) (sym drain);
  left = ap (λ (e : BladeEffect). e.blade.requests) does ∙ goes.1;
} where
  mid : BladeView
  mid = with_frames blade (entries_after_put blade.cache page frame)

  its : IsRequest blade.plan.threads blade.harts asked × (asked.page ≡ page)
  its = of_found (IsRequest blade.plan.threads blade.harts) page blade.requests asked sound.requests out

  r : IsDrainRequest blade.plan.threads blade.harts asked
  r = subst (λ w. IsRequestBy w blade.plan.threads blade.harts asked) drain its.0

  ends : Ends mid asked r.plan r.hart
  ends = record { thread = r.thread; own = r.own; request = its.0 }

  held : is_writable (frame_of (page_at (place_of r.plan.domain r.oldest.address)) (entries_after_put blade.cache page frame)) ≡ true
  held = ap (λ q. is_writable (frame_of q (entries_after_put blade.cache page frame))) (r.page ∙ its.1) ∙ ap is_writable (held-put blade.cache page frame sound.cache) ∙ fits r.write

  goes : (labels (draining_by asked.hart r.plan (r.oldest ∷ r.newer) (awaking asked r.hart mid) (awake Drain r.hart)).noted ≡ label.Drain asked.hart ∷ [])
      × ((draining_by asked.hart r.plan (r.oldest ∷ r.newer) (awaking asked r.hart mid) (awake Drain r.hart)).blade.requests ≡ requests_without asked.page blade.requests)
  goes = drains-on asked.hart r.plan r.oldest r.newer (awaking asked r.hart mid) (awake Drain r.hart) held

  does : resumed Filled images asked mid ≡ draining_by asked.hart r.plan (r.oldest ∷ r.newer) (awaking asked r.hart mid) (awake Drain r.hart)
  does = resumed-is Filled images asked mid r.plan r.hart ends
      ∙ ap (λ w. resumed_by w Filled (need_asked asked) images asked.hart r.plan (awaking asked r.hart mid) (awake w r.hart)) drain
      ∙ ap (λ stores. draining_by asked.hart r.plan stores (awaking asked r.hart mid) (awake Drain r.hart)) r.queue

-- ---- messages

pub message-pays : (images : List Image) (perms : PageView → Perm) (blade : BladeView) (message : Msg) → IsSoundBlade perms blade → IsNeeded images blade → MayComeToBlade blade message
    → Pays blade (after_message images message blade)
message-pays images perms blade (Fill page perm writable image) sound is may =
    ended-pays page asked blade (after_message images (Fill page perm writable image) blade) sound.apart out (record {
      label = filter_map-append label_of first (resumed_for Filled images (request_for page blade.requests) mid).noted
          ∙ (λ i. taken-silent blade.number page writable (put_of blade.cache page) i ++ labels (resumed_for Filled images (out i) mid).noted)
          ∙ (ended asked.waits refl).label;
      left = ap (λ o. (resumed_for Filled images o mid).blade.requests) out ∙ (ended asked.waits refl).left;
    })
  where
    frame : Frame
    frame = record { image = image; writable = writable; dirty = false; perm = perm }

    mid : BladeView
    mid = with_frames blade (entries_after_put blade.cache page frame)

    first : List Note
    first = noted_out blade.number (put_of blade.cache page) ++ note.Take blade.number page writable ∷ []

    asked : Asked
    asked = (out_for _ (request_for page blade.requests) may).0

    out : request_for page blade.requests ≡ Some asked
    out = (out_for _ (request_for page blade.requests) may).1

    fits : asked.write ≡ true → writable ≡ true
    fits = subst (λ o. IsSomeAnd o (FitsFill writable)) out may

    ended : (waits : Waits) → asked.waits ≡ waits → Ended asked blade (resumed Filled images asked mid)
    ended Step waits = steps-on Filled images perms blade page asked (entries_after_put blade.cache page frame) sound is out waits
    ended Drain waits = filled-drains images perms blade page asked frame sound out fits waits
message-pays images perms blade (Deny page) sound is may =
    let asked = (out_for _ (request_for page blade.requests) may).0 in
    let out : request_for page blade.requests ≡ Some asked = (out_for _ (request_for page blade.requests) may).1 in
    let step : asked.waits ≡ Step = subst (λ o. IsSomeAnd o (λ asked. asked.waits ≡ Step)) out may in
    subst (λ o. Pays blade (resumed_for Denied images o blade)) (sym out)
    (ended-pays page asked blade (resumed Denied images asked blade) sound.apart out (steps-on Denied images perms blade page asked blade.cache.entries sound is out step))
message-pays images perms blade (Inv number range asked) sound is may =
    let each = each-silent given_up gives-silent (held_in range blade) blade in
    silent-pays blade (after_message images (Inv number range asked) blade)
    (record { silent = then-silent blade (each_in given_up (held_in range blade) blade) [] each refl; requests = each.requests; harts = each.harts; plan = each.plan })
message-pays images perms blade (Lower number range asked) sound is may =
    let each = each-silent lowered lowers-silent (writable_in range blade) blade in
    silent-pays blade (after_message images (Lower number range asked) blade)
    (record { silent = then-silent blade (each_in lowered (writable_in range blade) blade) [] each refl; requests = each.requests; harts = each.harts; plan = each.plan })
message-pays images perms blade message sound is may = absurd may
