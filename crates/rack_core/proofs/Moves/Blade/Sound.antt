-- A blade stays sound when a hart goes on, when a request is added, and when one ends.
use Rattle.std.proofs.Common.{◌≡◌, ℕ, ◌==◌, Bool, true, false, cond, not, ap, sym, refl, subst, List, [], ◌∷◌, ◌++◌, slice_get, slice_set, Option, Some, None, ◌∙◌}
use Rattle.std.specs.Prelude.{option_and_then}
use Rattle.std.specs.List.{AllByRecursion}
use Rattle.std.proofs.lemmas.Bool.{eqb-true, false≢true}
use Rattle.std.proofs.lemmas.Option.{same_Some}
use Rattle.mind_base.specs.Page.{PageView}
use Rattle.mind_base.specs.Pending.{PendingView}
use Rattle.mind_base.specs.declared.commands.Perm.{Perm}
use Rattle.mind_base.specs.declared.plans.ThreadPlan.{ThreadPlan}
use Rattle.page_cache.specs.PageCache.{same_page}
use Rattle.page_cache.proofs.Callers.{same_page-true}
use Rattle.compute_blade.specs.Blade.{HartView, request_for, requests_without}
use Rattle.compute_blade.specs.Messages.{awake}
use Rattle.compute_blade.specs.declared.kept.Asked.{Asked}
use Rattle.compute_blade.specs.declared.kept.Waits.{Waits}
use Rattle.compute_blade.specs.declared.kept.Waits.TheVariants.{Step, Drain}
use Rattle.rack_core.specs.BladeMoves.{hart_in, IsStepRequest, IsDrainRequest, IsRequestBy, IsRequest, AreWaitersApart, MayWriteAll, AreStoresAllowed}
use Rattle.rack_core.proofs.Lists.Lookups.{slice_get-set, slice_get-set_other}
use Rattle.rack_core.proofs.Lists.Parts.{all-same}

abbrev pub Harts : Type 0
Harts = List (Option HartView)

-- ---- harts

in_place : (found : Option (Option HartView)) (hart : HartView) → option_and_then (λ hart. hart) found ≡ Some hart → found ≡ Some (Some hart)
in_place None hart h = let never : ⊥ = cc in absurd never
in_place (Some None) hart h = let never : ⊥ = cc in absurd never
in_place (Some (Some other)) hart h = let same : other ≡ hart = cc in ap (λ x. Some (Some x)) same

pub hart_in-set : (harts : Harts) (h : ℕ) (hart new : HartView) → hart_in harts h ≡ Some hart → hart_in (slice_set harts h (Some new)) h ≡ Some new
hart_in-set harts h hart new e = ap (option_and_then (λ hart. hart)) (slice_get-set harts h (Some hart) (Some new) (in_place (slice_get harts h) hart e))

pub hart_in-other : (harts : Harts) (h : ℕ) (new : HartView) (other : ℕ) → (other == h) ≡ false → hart_in (slice_set harts h (Some new)) other ≡ hart_in harts other
hart_in-other harts h new other e = ap (option_and_then (λ hart. hart)) (slice_get-set_other harts h (Some new) other e)

-- ---- a hart goes on

-- the oldest store of a queue
abbrev pub HasOldest : PendingView → List PendingView → Type 0
HasOldest oldest stores = (newer : List PendingView) × (stores ≡ oldest ∷ newer)

-- a hart whose step waits waits still, and so does one whose drain waits, which has the same oldest store
pub record Continues (old new : HartView) : Type 0 where
  pub steps : old.stepping ≡ true → new.stepping ≡ true
  pub drains : old.draining ≡ true → (new.draining ≡ true) × ((oldest : PendingView) → HasOldest oldest old.queue.stores → HasOldest oldest new.queue.stores)

-- a request whose hart is another one
request-other : (threads : List ThreadPlan) (harts : Harts) (h : ℕ) (new : HartView) (asked : Asked) → (asked.hart == h) ≡ false
    → (waits : Waits) → IsRequestBy waits threads harts asked → IsRequestBy waits threads (slice_set harts h (Some new)) asked
request-other threads harts h new asked away Step r = record {
  plan = r.plan;
  hart = r.hart;
  thread = r.thread;
  own = hart_in-other harts h new asked.hart away ∙ r.own;
  waits = r.waits;
}
request-other threads harts h new asked away Drain r = record {
  plan = r.plan;
  hart = r.hart;
  oldest = r.oldest;
  newer = r.newer;
  thread = r.thread;
  own = hart_in-other harts h new asked.hart away ∙ r.own;
  waits = r.waits;
  queue = r.queue;
  page = r.page;
  write = r.write;
}

-- a request of the hart itself
step-same : (threads : List ThreadPlan) (harts : Harts) (old new : HartView) (asked : Asked) → hart_in harts asked.hart ≡ Some old
    → (old.stepping ≡ true → new.stepping ≡ true)
    → IsStepRequest threads harts asked → IsStepRequest threads (slice_set harts asked.hart (Some new)) asked
step-same threads harts old new asked own steps r =
    let is : r.hart ≡ old = same_Some _ _ (sym r.own ∙ own) in
    record {
      plan = r.plan;
      hart = new;
      thread = r.thread;
      own = hart_in-set harts asked.hart old new own;
      waits = steps (ap (λ hart. hart.stepping) (sym is) ∙ r.waits);
    }

drain-same : (threads : List ThreadPlan) (harts : Harts) (old new : HartView) (asked : Asked) → hart_in harts asked.hart ≡ Some old
    → (old.draining ≡ true → (new.draining ≡ true) × ((oldest : PendingView) → HasOldest oldest old.queue.stores → HasOldest oldest new.queue.stores))
    → IsDrainRequest threads harts asked → IsDrainRequest threads (slice_set harts asked.hart (Some new)) asked
drain-same threads harts old new asked own drains r =
    let is : r.hart ≡ old = same_Some _ _ (sym r.own ∙ own) in
    let now = drains (ap (λ hart. hart.draining) (sym is) ∙ r.waits) in
    let oldest = now.1 r.oldest (r.newer, ap (λ hart. hart.queue.stores) (sym is) ∙ r.queue) in
    record {
      plan = r.plan;
      hart = new;
      oldest = r.oldest;
      newer = oldest.0;
      thread = r.thread;
      own = hart_in-set harts asked.hart old new own;
      waits = now.0;
      queue = oldest.1;
      page = r.page;
      write = r.write;
    }

request-same : (threads : List ThreadPlan) (harts : Harts) (old new : HartView) (asked : Asked) → hart_in harts asked.hart ≡ Some old → Continues old new
    → (waits : Waits) → IsRequestBy waits threads harts asked → IsRequestBy waits threads (slice_set harts asked.hart (Some new)) asked
request-same threads harts old new asked own goes Step r = step-same threads harts old new asked own goes.steps r
request-same threads harts old new asked own goes Drain r = drain-same threads harts old new asked own goes.drains r

-- by whether a request is of the hart
of_hart : (threads : List ThreadPlan) (harts : Harts) (h : ℕ) (new : HartView) (asked : Asked)
    → (asked.hart ≡ h → IsRequest threads (slice_set harts asked.hart (Some new)) asked)
    → IsRequest threads harts asked → IsRequest threads (slice_set harts h (Some new)) asked
of_hart threads harts h new asked here r = by (asked.hart == h) refl where
  by : (b : Bool) → (asked.hart == h) ≡ b → IsRequest threads (slice_set harts h (Some new)) asked
  by true e = let is = eqb-true asked.hart h e in subst (λ n. IsRequest threads (slice_set harts n (Some new)) asked) is (here is)
  by false e = request-other threads harts h new asked e asked.waits r

pub goes_on : (threads : List ThreadPlan) (harts : Harts) (h : ℕ) (old new : HartView) → hart_in harts h ≡ Some old → Continues old new
    → (requests : List Asked) → AllByRecursion (IsRequest threads harts) requests → AllByRecursion (IsRequest threads (slice_set harts h (Some new))) requests
goes_on threads harts h old new own goes [] all = tt
goes_on threads harts h old new own goes (asked ∷ requests) all = (
  of_hart threads harts h new asked
      (λ is. request-same threads harts old new asked (ap (hart_in harts) is ∙ own) goes asked.waits all.0) all.0,
  goes_on threads harts h old new own goes requests all.1,
)

-- ---- a request is added

-- ---- a request ends

-- what is true of each request is true of the one that is found
pub of_found : (P : Asked → Type 0) (page : PageView) (requests : List Asked) (asked : Asked) → AllByRecursion P requests → request_for page requests ≡ Some asked
    → P asked × (asked.page ≡ page)
of_found P page [] asked all e = let never : ⊥ = cc in absurd never
of_found P page (first ∷ requests) asked all e = by (of_found P page requests asked all.1) (same_page page first.page) refl e where
  by : (request_for page requests ≡ Some asked → P asked × (asked.page ≡ page)) → (b : Bool) → same_page page first.page ≡ b
      → cond b (Some first) (request_for page requests) ≡ Some asked → P asked × (asked.page ≡ page)
  by rest true s e = let is : first ≡ asked = same_Some _ _ e in
      (subst P is all.0, ap (λ a. a.page) (sym is) ∙ sym (same_page-true page first.page s))
  by rest false s e = rest e

-- what is true of each request of another page is true of those that are left
pub of_others : (P Q : Asked → Type 0) (page : PageView) → ((asked : Asked) → same_page page asked.page ≡ false → P asked → Q asked)
    → (requests : List Asked) → AllByRecursion P requests → AllByRecursion Q (requests_without page requests)
of_others P Q page step [] all = tt
of_others P Q page step (asked ∷ requests) all = by (of_others P Q page step requests all.1) (same_page page asked.page) refl where
  by : AllByRecursion Q (requests_without page requests) → (b : Bool) → same_page page asked.page ≡ b → AllByRecursion Q (cond (not b) (asked ∷ requests_without page requests) (requests_without page requests))
  by rest true e = rest
  by rest false e = (step asked e all.0, rest)

-- what two facts say of each request
all-both : (P Q : Asked → Type 0) (requests : List Asked) → AllByRecursion P requests → AllByRecursion Q requests → AllByRecursion (λ asked. P asked × Q asked) requests
all-both P Q [] all more = tt
all-both P Q (asked ∷ requests) all more = ((all.0, more.0), all-both P Q requests all.1 more.1)

-- another request is waited for by something else
abbrev pub WaitsElse : Asked → Asked → Type 0
WaitsElse asked other = asked.hart ≡ other.hart → asked.waits ≡ other.waits → ⊥

-- what waits for a request waits for no other one
waiters-of : (page : PageView) (asked : Asked) (requests : List Asked) → AreWaitersApart requests → request_for page requests ≡ Some asked
    → AllByRecursion (λ other. same_page page other.page ≡ false → WaitsElse asked other) requests
waiters-of page asked [] apart e = tt
waiters-of page asked (first ∷ requests) apart e = by (λ e. waiters-of page asked requests apart.1 e) (same_page page first.page) refl e where
  by : (request_for page requests ≡ Some asked → AllByRecursion (λ other. same_page page other.page ≡ false → WaitsElse asked other) requests)
      → (b : Bool) → same_page page first.page ≡ b → cond b (Some first) (request_for page requests) ≡ Some asked
      → AllByRecursion (λ other. same_page page other.page ≡ false → WaitsElse asked other) (first ∷ requests)
  by rest true s e =
      let is : first ≡ asked = same_Some _ _ e in (
        λ other. let never : false ≡ true = sym other ∙ s in absurd (false≢true never),
        all-same (WaitsElse first) (λ other. same_page page other.page ≡ false → WaitsElse asked other)
            (λ other else away. subst (λ a. WaitsElse a other) is else) requests apart.0,
      )
  by rest false s e =
      let here : WaitsElse first asked = (of_found (WaitsElse first) page requests asked apart.0 e).0 in
      (λ away hart waits. here (sym hart) (sym waits), rest e)

-- the hart of a request that ends is awake, and what it waits for besides is still out
still : (threads : List ThreadPlan) (harts : Harts) (asked : Asked) (hart : HartView) → hart_in harts asked.hart ≡ Some hart
    → (waits : Waits) → (other : Asked) → other.hart ≡ asked.hart
    → (kind : Waits) → (waits ≡ kind → ⊥) → IsRequestBy kind threads harts other
    → IsRequestBy kind threads (slice_set harts other.hart (Some (awake waits hart))) other
still threads harts asked hart own Step other same Step else s = absurd (else refl)
still threads harts asked hart own Step other same Drain else s =
    drain-same threads harts hart (awake Step hart) other (ap (hart_in harts) same ∙ own) (λ e. (e, λ oldest q. q)) s
still threads harts asked hart own Drain other same Step else s =
    step-same threads harts hart (awake Drain hart) other (ap (hart_in harts) same ∙ own) (λ e. e) s
still threads harts asked hart own Drain other same Drain else s = absurd (else refl)

pub awakes : (threads : List ThreadPlan) (harts : Harts) (asked : Asked) (hart : HartView) → hart_in harts asked.hart ≡ Some hart
    → (requests : List Asked) → AreWaitersApart requests → request_for asked.page requests ≡ Some asked → AllByRecursion (IsRequest threads harts) requests
    → AllByRecursion (IsRequest threads (slice_set harts asked.hart (Some (awake asked.waits hart)))) (requests_without asked.page requests)
awakes threads harts asked hart own requests apart is all =
    of_others (λ other. IsRequest threads harts other × (same_page asked.page other.page ≡ false → WaitsElse asked other))
    (IsRequest threads (slice_set harts asked.hart (Some (awake asked.waits hart)))) asked.page
    (λ other away s. of_hart threads harts asked.hart (awake asked.waits hart) other
    (λ same. still threads harts asked hart own asked.waits other same other.waits (s.1 away (sym same)) s.0) s.0) requests
    (all-both (IsRequest threads harts) (λ other. same_page asked.page other.page ≡ false → WaitsElse asked other) requests all
    (waiters-of asked.page asked requests apart is))

-- ---- stores that wait

-- the stores of a hart that goes on are allowed, where they are
pub allowed-hart : (perms : PageView → Perm) (threads : List ThreadPlan) (harts : Harts) (h : ℕ) (old new : HartView) → hart_in harts h ≡ Some old → AreStoresAllowed perms threads harts
    → ((plan : ThreadPlan) → slice_get threads h ≡ Some plan → MayWriteAll perms plan.domain old.queue.stores → MayWriteAll perms plan.domain new.queue.stores)
    → AreStoresAllowed perms threads (slice_set harts h (Some new))
allowed-hart perms threads harts h old new own all step n plan hart thread now = by (n == h) refl where
  by : (b : Bool) → (n == h) ≡ b → MayWriteAll perms plan.domain hart.queue.stores
  by true e =
      let is = eqb-true n h e in
      let its : hart ≡ new = same_Some _ _ (sym now ∙ ap (hart_in (slice_set harts h (Some new))) is ∙ hart_in-set harts h old new own) in
      let here : slice_get threads h ≡ Some plan = sym (ap (slice_get threads) is) ∙ thread in
      subst (λ x. MayWriteAll perms plan.domain x.queue.stores) (sym its) (step plan here (all h plan old here own))
  by false e = all n plan hart thread (sym (hart_in-other harts h new n e) ∙ now)

pub allowed-more : (perms : PageView → Perm) (domain : ℕ) (stores more : List PendingView) → MayWriteAll perms domain stores → MayWriteAll perms domain more → MayWriteAll perms domain (stores ++ more)
allowed-more perms domain [] more all rest = rest
allowed-more perms domain (store ∷ stores) more all rest = (all.0, allowed-more perms domain stores more all.1 rest)
