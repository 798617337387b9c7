-- Requests stay apart, and a hart waits only for one that is out.
use Rattle.std.proofs.Common.{◌≡◌, inl, inr, ℕ, ◌==◌, Bool, true, false, cond, not, ap, sym, refl, subst, List, [], ◌∷◌, ◌++◌, slice_set, Some, None, ◌∙◌}
use Rattle.std.specs.List.{AllByRecursion}
use Rattle.std.proofs.lemmas.Bool.{eqb-true, eq-eqb, false≢true}
use Rattle.std.proofs.lemmas.Option.{same_Some}
use Rattle.mind_base.specs.Page.{PageView}
use Rattle.page_cache.specs.PageCache.{same_page}
use Rattle.page_cache.proofs.Callers.{same_page-is_equivalence, same_page-true}
use Rattle.compute_blade.specs.Blade.{HartView, request_for, requests_without}
use Rattle.compute_blade.specs.Messages.{awake}
use Rattle.compute_blade.specs.Steps.{waiting}
use Rattle.compute_blade.specs.declared.kept.Asked.{Asked}
use Rattle.compute_blade.specs.declared.kept.Waits.{Waits}
use Rattle.compute_blade.specs.declared.kept.Waits.TheVariants.{Step, Drain}
use Rattle.mind_base.specs.declared.plans.ThreadPlan.{ThreadPlan}
use Rattle.rack_core.specs.BladeMoves.{hart_in, IsRequestBy, IsRequest, AreRequestsApart, AreWaitersApart, IsOut, HasAsked, AreWaiting}
use Rattle.rack_core.proofs.Moves.Blade.Sound.{Harts, hart_in-set, hart_in-other, of_others, WaitsElse}
use Rattle.rack_core.proofs.Lists.Parts.{all-last, all-same}

-- ---- requests stay apart

-- a page for which no request is out
unfound : (page : PageView) (requests : List Asked) → request_for page requests ≡ None → AllByRecursion (λ other. same_page page other.page ≡ false) requests
unfound page [] e = tt
unfound page (first ∷ requests) e = by (unfound page requests) (same_page page first.page) refl e where
  by : (request_for page requests ≡ None → AllByRecursion (λ other. same_page page other.page ≡ false) requests) → (b : Bool) → same_page page first.page ≡ b
      → cond b (Some first) (request_for page requests) ≡ None → AllByRecursion (λ other. same_page page other.page ≡ false) (first ∷ requests)
  by rest true s e = let never : ⊥ = cc in absurd never
  by rest false s e = (s, rest e)

apart-joined : (requests : List Asked) (asked : Asked) → AreRequestsApart requests → AllByRecursion (λ other. same_page asked.page other.page ≡ false) requests → AreRequestsApart (requests ++ asked ∷ [])
apart-joined [] asked apart all = (tt, tt)
apart-joined (first ∷ requests) asked apart all = (
  all-last (λ other. same_page first.page other.page ≡ false) requests asked apart.0 (same_page-is_equivalence.symm first.page asked.page ∙ all.0),
  apart-joined requests asked apart.1 all.1,
)

pub apart-more : (requests : List Asked) (asked : Asked) → AreRequestsApart requests → request_for asked.page requests ≡ None → AreRequestsApart (requests ++ asked ∷ [])
apart-more requests asked apart e = apart-joined requests asked apart (unfound asked.page requests e)

pub apart-answered : (page : PageView) (requests : List Asked) → AreRequestsApart requests → AreRequestsApart (requests_without page requests)
apart-answered page [] apart = tt
apart-answered page (first ∷ requests) apart = by (apart-answered page requests apart.1) (same_page page first.page) where
  by : AreRequestsApart (requests_without page requests) → (b : Bool) → AreRequestsApart (cond (not b) (first ∷ requests_without page requests) (requests_without page requests))
  by rest true = rest
  by rest false = (of_others (λ other. same_page first.page other.page ≡ false) (λ other. same_page first.page other.page ≡ false) page (λ other away h. h) requests apart.0, rest)

-- ---- what waits for requests

waiters-joined : (requests : List Asked) (asked : Asked) → AreWaitersApart requests → AllByRecursion (λ other. WaitsElse other asked) requests → AreWaitersApart (requests ++ asked ∷ [])
waiters-joined [] asked apart all = (tt, tt)
waiters-joined (first ∷ requests) asked apart all = (all-last (WaitsElse first) requests asked apart.0 all.0, waiters-joined requests asked apart.1 all.1)

-- the hart's step, or its drain, does not wait
abbrev pub IsAwake : Waits → HartView → Type 0
IsAwake Step hart = hart.stepping ≡ false
IsAwake Drain hart = hart.draining ≡ false

-- what does not wait is not what a request is out for
not-waited : (threads : List ThreadPlan) (harts : Harts) (asked : Asked) (hart : HartView) → hart_in harts asked.hart ≡ Some hart → IsAwake asked.waits hart
    → (other : Asked) → IsRequest threads harts other → WaitsElse other asked
not-waited threads harts asked hart own awake other r same waits = by asked.waits awake other.waits waits r where
  its : (found : HartView) → hart_in harts other.hart ≡ Some found → found ≡ hart
  its found at = same_Some _ _ (sym at ∙ ap (hart_in harts) same ∙ own)

  by : (kind : Waits) → IsAwake kind hart → (k : Waits) → k ≡ kind → IsRequestBy k threads harts other → ⊥
  by Step free Step e r = false≢true (sym free ∙ ap (λ (x : HartView). x.stepping) (sym (its r.hart r.own)) ∙ r.waits)
  by Drain free Drain e r = false≢true (sym free ∙ ap (λ (x : HartView). x.draining) (sym (its r.hart r.own)) ∙ r.waits)
  by Step free Drain e r = let never : ⊥ = cc in never
  by Drain free Step e r = let never : ⊥ = cc in never

pub waiters-more : (threads : List ThreadPlan) (harts : Harts) (requests : List Asked) (asked : Asked) (hart : HartView) → hart_in harts asked.hart ≡ Some hart → IsAwake asked.waits hart
    → AllByRecursion (IsRequest threads harts) requests → AreWaitersApart requests → AreWaitersApart (requests ++ asked ∷ [])
waiters-more threads harts requests asked hart own awake all apart =
    waiters-joined requests asked apart (all-same (IsRequest threads harts) (λ other. WaitsElse other asked) (not-waited threads harts asked hart own awake) requests all)

pub waiters-answered : (page : PageView) (requests : List Asked) → AreWaitersApart requests → AreWaitersApart (requests_without page requests)
waiters-answered page [] apart = tt
waiters-answered page (first ∷ requests) apart = by (waiters-answered page requests apart.1) (same_page page first.page) where
  by : AreWaitersApart (requests_without page requests) → (b : Bool) → AreWaitersApart (cond (not b) (first ∷ requests_without page requests) (requests_without page requests))
  by rest true = rest
  by rest false = (of_others (WaitsElse first) (WaitsElse first) page (λ other away h. h) requests apart.0, rest)

-- ---- what is out

out-more : (h : ℕ) (waits : Waits) (requests : List Asked) (asked : Asked) → IsOut h waits requests → IsOut h waits (requests ++ asked ∷ [])
out-more h waits [] asked out = absurd out
out-more h waits (first ∷ requests) asked (inl here) = inl here
out-more h waits (first ∷ requests) asked (inr out) = inr (out-more h waits requests asked out)

out-last : (requests : List Asked) (asked : Asked) → IsOut asked.hart asked.waits (requests ++ asked ∷ [])
out-last [] asked = inl (refl, refl)
out-last (first ∷ requests) asked = inr (out-last requests asked)

-- what is out for other pages stays out
out-kept : (h : ℕ) (waits : Waits) (page : PageView) (requests : List Asked) → AllByRecursion (λ other. same_page page other.page ≡ false) requests → IsOut h waits requests → IsOut h waits (requests_without page requests)
out-kept h waits page [] all out = absurd out
out-kept h waits page (first ∷ requests) all out =
    subst (λ b. IsOut h waits (cond (not b) (first ∷ requests_without page requests) (requests_without page requests))) (sym all.0) (by out (out-kept h waits page requests all.1)) where
      by : IsOut h waits (first ∷ requests) → (IsOut h waits requests → IsOut h waits (requests_without page requests)) → IsOut h waits (first ∷ requests_without page requests)
      by (inl here) rest = inl here
      by (inr out) rest = inr (rest out)

-- when a request ends, what is out besides stays out
out-answered : (h : ℕ) (waits : Waits) (page : PageView) (asked : Asked) (requests : List Asked) → AreRequestsApart requests → request_for page requests ≡ Some asked
    → (asked.hart ≡ h → asked.waits ≡ waits → ⊥) → IsOut h waits requests → IsOut h waits (requests_without page requests)
out-answered h waits page asked [] apart e other out = absurd out
out-answered h waits page asked (first ∷ requests) apart e other out = by (λ e. out-answered h waits page asked requests apart.1 e other) (same_page page first.page) refl e out where
  by : (request_for page requests ≡ Some asked → IsOut h waits requests → IsOut h waits (requests_without page requests)) → (b : Bool) → same_page page first.page ≡ b
      → cond b (Some first) (request_for page requests) ≡ Some asked → IsOut h waits (first ∷ requests)
      → IsOut h waits (cond (not b) (first ∷ requests_without page requests) (requests_without page requests))
  by rest true s e (inl here) = let is : first ≡ asked = same_Some _ _ e in
      absurd (other (ap (λ a. a.hart) (sym is) ∙ here.0) (ap (λ a. a.waits) (sym is) ∙ here.1))
  by rest true s e (inr out) =
      out-kept h waits page requests (subst (λ p. AllByRecursion (λ other. same_page p other.page ≡ false) requests) (sym (same_page-true page first.page s)) apart.0) out
  by rest false s e (inl here) = inl here
  by rest false s e (inr out) = inr (rest e out)

-- ---- harts wait for what is out

-- one hart becomes another, and requests come or go
pub waiting-set : (harts : Harts) (h : ℕ) (old new : HartView) (before after : List Asked) → hart_in harts h ≡ Some old
    → ((n : ℕ) (waits : Waits) → (n == h) ≡ false → IsOut n waits before → IsOut n waits after)
    → AreWaiting harts before → HasAsked h after new → AreWaiting (slice_set harts h (Some new)) after
waiting-set harts h old new before after own others all its n hart now = by (n == h) refl where
  by : (b : Bool) → (n == h) ≡ b → HasAsked n after hart
  by true e =
      let is = eqb-true n h e in
      let same : hart ≡ new = same_Some _ _ (sym now ∙ ap (hart_in (slice_set harts h (Some new))) is ∙ hart_in-set harts h old new own) in
      subst (λ m. HasAsked m after hart) (sym is) (subst (HasAsked h after) (sym same) its)
  by false e =
      let was = all n hart (sym (hart_in-other harts h new n e) ∙ now) in
      record { step = λ s. others n Step e (was.step s); drain = λ d. others n Drain e (was.drain d) }

-- a hart that waits for no more and no less
pub waiting-kept : (harts : Harts) (h : ℕ) (old new : HartView) (requests : List Asked) → hart_in harts h ≡ Some old → new.stepping ≡ old.stepping → new.draining ≡ old.draining
    → AreWaiting harts requests → AreWaiting (slice_set harts h (Some new)) requests
waiting-kept harts h old new requests own steps drains all =
    let was = all h old own in
    waiting-set harts h old new requests requests own (λ n waits e out. out) all
    (record { step = λ s. was.step (sym steps ∙ s); drain = λ d. was.drain (sym drains ∙ d) })

-- a hart that asks waits for what it asked
pub waiting-asked : (harts : Harts) (old : HartView) (asked : Asked) (requests : List Asked) → hart_in harts asked.hart ≡ Some old
    → AreWaiting harts requests → AreWaiting (slice_set harts asked.hart (Some (waiting asked.waits old))) (requests ++ asked ∷ [])
waiting-asked harts old asked requests own all =
    waiting-set harts asked.hart old (waiting asked.waits old) requests (requests ++ asked ∷ []) own (λ n waits e out. out-more n waits requests asked out) all
    (by asked.waits (out-last requests asked) (all asked.hart old own)) where
      by : (waits : Waits) → IsOut asked.hart waits (requests ++ asked ∷ []) → HasAsked asked.hart requests old → HasAsked asked.hart (requests ++ asked ∷ []) (waiting waits old)
      by Step last was = record { step = λ s. last; drain = λ d. out-more asked.hart Drain requests asked (was.drain d) }
      by Drain last was = record { step = λ s. out-more asked.hart Step requests asked (was.step s); drain = λ d. last }

-- a hart whose request ends is awake
pub waiting-answered : (harts : Harts) (old : HartView) (asked : Asked) (requests : List Asked) → hart_in harts asked.hart ≡ Some old
    → AreRequestsApart requests → request_for asked.page requests ≡ Some asked
    → AreWaiting harts requests → AreWaiting (slice_set harts asked.hart (Some (awake asked.waits old))) (requests_without asked.page requests)
waiting-answered harts old asked requests own apart is all =
    waiting-set harts asked.hart old (awake asked.waits old) requests (requests_without asked.page requests) own
    (λ n waits e out. out-answered n waits asked.page asked requests apart is (λ same w. no n e same) out) all
    (by asked.waits refl (all asked.hart old own)) where
      no : (n : ℕ) → (n == asked.hart) ≡ false → asked.hart ≡ n → ⊥
      no n e same = let never : true ≡ false = sym (eq-eqb n asked.hart (sym same)) ∙ e in cc

      by : (waits : Waits) → asked.waits ≡ waits → HasAsked asked.hart requests old → HasAsked asked.hart (requests_without asked.page requests) (awake waits old)
      by Step w was = record {
        step = λ s. let never : ⊥ = cc in absurd never;
        drain = λ d. out-answered asked.hart Drain asked.page asked requests apart is (λ same v. let never : (let x : Waits = Step in x) ≡ Drain = sym w ∙ v in cc) (was.drain d);
      }
      by Drain w was = record {
        step = λ s. out-answered asked.hart Step asked.page asked requests apart is (λ same v. let never : (let x : Waits = Drain in x) ≡ Step = sym w ∙ v in cc) (was.step s);
        drain = λ d. let never : ⊥ = cc in absurd never;
      }
