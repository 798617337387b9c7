-- What is needed stays so when a hart goes on, and when requests come and go.
use Rattle.std.proofs.Common.{◌≡◌, ◌≤◌, ℕ, ◌==◌, Bool, true, false, ◌&&◌, ◌||◌, ap, sym, refl, subst, List, [], ◌∷◌, length, slice_get, slice_set, Some, ◌∙◌, arith}
use Rattle.std.specs.List.{AllByRecursion}
use Rattle.std.proofs.lemmas.Bool.{eqb-true}
use Rattle.std.proofs.lemmas.Option.{same_Some}
use Rattle.mind_base.specs.Pending.{PendingView}
use Rattle.mind_base.specs.declared.ends.End.TheVariants.{Running}
use Rattle.mind_base.specs.declared.images.Image.{Image}
use Rattle.mind_base.specs.declared.plans.ThreadPlan.{ThreadPlan}
use Rattle.hart_core.specs.declared.outcome.Act.{Act}
use Rattle.hart_effect.specs.Deed.{found, drains_first, wants_empty, holds_stores, is_store}
use Rattle.hart_effect.specs.declared.finds.Found.{Found}
use Rattle.hart_effect.specs.declared.finds.Found.TheVariants.{Outside, Unknown, Asks}
use Rattle.page_cache.specs.PageCache.{frame_of}
use Rattle.compute_blade.specs.Blade.{HartView}
use Rattle.compute_blade.specs.Messages.{need_asked}
use Rattle.compute_blade.specs.Steps.{need_in, serves}
use Rattle.compute_blade.specs.declared.kept.Asked.{Asked}
use Rattle.compute_blade.specs.declared.kept.Waits.{Waits}
use Rattle.compute_blade.specs.declared.kept.Waits.TheVariants.{Step, Drain}
use Rattle.rack_core.specs.BladeMoves.{hart_in, IsStepRequest, IsRequest, IsRequestBy}
use Rattle.rack_core.specs.Waits.{WaitingHart, IsNeededStep, IsNeededBy, IsNeededFor, IsQueueOf, AreQueuesOf}
use Rattle.rack_core.proofs.Moves.Blade.Sound.{Harts, hart_in-set, hart_in-other}
use Rattle.rack_core.proofs.Lists.Lookups.{Entries}
use Rattle.rack_core.proofs.Waits.Frames.{ServesLess}

-- ---- one hart

-- the hart stands where it stood, and no store must drain first where none had to
pub record Stays (old new : HartView) : Type 0 where
  pub regs : new.regs ≡ old.regs
  pub end : new.end ≡ old.end
  pub ready : (found : Found) → drains_first found old.queue.stores old.queue.capacity ≡ false → drains_first found new.queue.stores new.queue.capacity ≡ false

-- with one store less no store must drain first where none had to
ready-popped : (asked : Act) (oldest : PendingView) (newer : List PendingView) (capacity : ℕ) → length (oldest ∷ newer) ≤ capacity
    → drains_first (Asks asked) (oldest ∷ newer) capacity ≡ false → drains_first (Asks asked) newer capacity ≡ false
ready-popped asked oldest newer capacity room e = by (wants_empty asked) (holds_stores newer) (is_store asked) (length (oldest ∷ newer) == capacity) (length newer == capacity) refl e where
  by : (wants holds stores full fuller : Bool) → (length newer == capacity) ≡ fuller → ((wants && true) || (stores && full)) ≡ false → ((wants && holds) || (stores && fuller)) ≡ false
  by true holds stores full fuller f e = let never : ⊥ = cc in absurd never
  by false holds false full fuller f e = refl
  by false holds true full false f e = refl
  by false holds true full true f e = absurd (omega (arith, eqb-true (length newer) capacity f))

pub popped : (found : Found) (oldest : PendingView) (newer : List PendingView) (capacity : ℕ) → length (oldest ∷ newer) ≤ capacity
    → drains_first found (oldest ∷ newer) capacity ≡ false → drains_first found newer capacity ≡ false
popped Outside oldest newer capacity room e = refl
popped (Unknown word) oldest newer capacity room e = refl
popped (Asks asked) oldest newer capacity room e = ready-popped asked oldest newer capacity room e

-- ---- requests, where one hart and the pages change

-- the hart of a request is this one, which stands at the same pc
abbrev standing : {images : List Image} {threads : List ThreadPlan} {harts : Harts} {asked : Asked} → (others : Harts) (new : HartView) (n : WaitingHart images threads harts asked)
    → hart_in others asked.hart ≡ Some new → new.end ≡ Running n.pc → WaitingHart images threads others asked
standing others new n own runs = record { plan = n.plan; hart = new; image = n.image; pc = n.pc; thread = n.thread; own = own; code = n.code; runs = runs }

-- a request for which a step waits, where its hart is the same
needed-as : (images : List Image) (threads : List ThreadPlan) (harts others : Harts) (before after : Entries) (asked : Asked) → hart_in others asked.hart ≡ hart_in harts asked.hart
    → ServesLess asked.page before after → IsNeededStep images threads harts before asked → IsNeededStep images threads others after asked
needed-as images threads harts others before after asked same less n = record {
  waiting = standing others n.hart n.waiting (same ∙ n.own) n.runs;
  needs = n.needs;
  ready = n.ready;
  unserved = less _ n.unserved;
}

-- of the hart itself, which stands where it stood
needed-same : (images : List Image) (threads : List ThreadPlan) (harts : Harts) (old new : HartView) (before after : Entries) (asked : Asked) → hart_in harts asked.hart ≡ Some old → Stays old new
    → ServesLess asked.page before after → IsNeededStep images threads harts before asked → IsNeededStep images threads (slice_set harts asked.hart (Some new)) after asked
needed-same images threads harts old new before after asked own stays less n = by n.hart (same_Some _ _ (sym n.own ∙ own)) n.runs n.needs n.ready n.unserved where
  finds : List ℕ → Found
  finds regs = found n.image regs n.pc

  by : (hart : HartView) → hart ≡ old → hart.end ≡ Running n.pc
      → need_in (found n.image hart.regs n.pc) n.plan.domain ≡ Some (need_asked asked)
      → drains_first (found n.image hart.regs n.pc) hart.queue.stores hart.queue.capacity ≡ false
      → serves (found n.image hart.regs n.pc) (frame_of asked.page before) ≡ false
      → IsNeededStep images threads (slice_set harts asked.hart (Some new)) after asked
  by hart is runs needs ready unserved =
      let regs : hart.regs ≡ new.regs = ap (λ (x : HartView). x.regs) is ∙ sym stays.regs in
      let same : finds hart.regs ≡ finds new.regs = ap finds regs in
      record {
        waiting = standing (slice_set harts asked.hart (Some new)) new n.waiting (hart_in-set harts asked.hart old new own) (stays.end ∙ ap (λ (x : HartView). x.end) (sym is) ∙ runs);
        needs = ap (λ f. need_in f n.plan.domain) (sym same) ∙ needs;
        ready = stays.ready (finds new.regs) (ap (λ (x : HartView). drains_first (finds new.regs) x.queue.stores x.queue.capacity) (sym is)
            ∙ ap (λ f. drains_first f hart.queue.stores hart.queue.capacity) (sym same) ∙ ready);
        unserved = less (finds new.regs) (ap (λ f. serves f (frame_of asked.page before)) (sym same) ∙ unserved);
      }

-- Hart h becomes another one, and the pages change. A step of it that waits finds it where it stood.
pub goes_on : (images : List Image) (threads : List ThreadPlan) (harts : Harts) (h : ℕ) (old new : HartView) (before after : Entries) → hart_in harts h ≡ Some old
    → (old.stepping ≡ true → Stays old new) → (requests : List Asked) → AllByRecursion (λ asked. ServesLess asked.page before after) requests
    → AllByRecursion (IsRequest threads harts) requests
    → AllByRecursion (IsNeededFor images threads harts before) requests → AllByRecursion (IsNeededFor images threads (slice_set harts h (Some new)) after) requests
goes_on images threads harts h old new before after own stays [] less all needed = tt
goes_on images threads harts h old new before after own stays (asked ∷ requests) less all needed =
    (one asked.waits all.0 needed.0, goes_on images threads harts h old new before after own stays requests less.1 all.1 needed.1)
  where
    step : IsStepRequest threads harts asked → IsNeededStep images threads harts before asked → IsNeededStep images threads (slice_set harts h (Some new)) after asked
    step r n = by (asked.hart == h) refl where
      by : (b : Bool) → (asked.hart == h) ≡ b → IsNeededStep images threads (slice_set harts h (Some new)) after asked
      by true e =
          let is = eqb-true asked.hart h e in
          let here : hart_in harts asked.hart ≡ Some old = ap (hart_in harts) is ∙ own in
          let same : r.hart ≡ old = same_Some _ _ (sym r.own ∙ here) in
          subst (λ k. IsNeededStep images threads (slice_set harts k (Some new)) after asked) is
          (needed-same images threads harts old new before after asked here (stays (ap (λ (x : HartView). x.stepping) (sym same) ∙ r.waits)) less.0 n)
      by false e = needed-as images threads harts (slice_set harts h (Some new)) before after asked (hart_in-other harts h new asked.hart e) less.0 n

    one : (waits : Waits) → IsRequestBy waits threads harts asked → IsNeededBy waits images threads harts before asked
        → IsNeededBy waits images threads (slice_set harts h (Some new)) after asked
    one Step r n = step r n
    one Drain r n = tt

-- ---- requests, where the pages alone change

pub pages_change : (images : List Image) (threads : List ThreadPlan) (harts : Harts) (before after : Entries) (requests : List Asked) → AllByRecursion (λ asked. ServesLess asked.page before after) requests
    → AllByRecursion (IsNeededFor images threads harts before) requests → AllByRecursion (IsNeededFor images threads harts after) requests
pages_change images threads harts before after [] less needed = tt
pages_change images threads harts before after (asked ∷ requests) less needed = (one asked.waits needed.0, pages_change images threads harts before after requests less.1 needed.1) where
  one : (waits : Waits) → IsNeededBy waits images threads harts before asked → IsNeededBy waits images threads harts after asked
  one Step n = needed-as images threads harts harts before after asked refl less.0 n
  one Drain n = tt

pub for_all : (P : Asked → Type 0) → ((asked : Asked) → P asked) → (requests : List Asked) → AllByRecursion P requests
for_all P each [] = tt
for_all P each (asked ∷ requests) = (each asked, for_all P each requests)

-- ---- queues

pub queues_set : (threads : List ThreadPlan) (harts : Harts) (h : ℕ) (old new : HartView) → hart_in harts h ≡ Some old
    → ((thread : ThreadPlan) → IsQueueOf thread old.queue → IsQueueOf thread new.queue) → AreQueuesOf threads harts → AreQueuesOf threads (slice_set harts h (Some new))
queues_set threads harts h old new own keeps all n thread hart planned now = by (n == h) refl where
  by : (b : Bool) → (n == h) ≡ b → IsQueueOf thread hart.queue
  by true e =
      let is = eqb-true n h e in
      let same : hart ≡ new = same_Some _ _ (sym now ∙ ap (hart_in (slice_set harts h (Some new))) is ∙ hart_in-set harts h old new own) in
      subst (λ (x : HartView). IsQueueOf thread x.queue) (sym same) (keeps thread (all h thread old (ap (slice_get threads) (sym is) ∙ planned) own))
  by false e = all n thread hart planned (sym (hart_in-other harts h new n e) ∙ now)

-- a queue that is as it was
pub queue_kept : (old new : HartView) → new.queue ≡ old.queue → (thread : ThreadPlan) → IsQueueOf thread old.queue → IsQueueOf thread new.queue
queue_kept old new same thread is = subst (IsQueueOf thread) (sym same) is
