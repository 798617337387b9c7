-- Passes over all requests, one after another.
use Rattle.std.proofs.Common.{◌≡◌, ℕ, ◌+◌, ◌-◌, ◌<◌, ◌≤◌, Bool, true, false, cond, Option, None, List, [], ◌∷◌, ◌++◌, length, refl, ap, sym, subst, ◌∙◌, zero, suc, arith, append_assoc}
use Rattle.std.specs.List.{AllByRecursion, slice_get}
use Rattle.std.proofs.lemmas.List.{append-nil}
use Rattle.mind_base.specs.declared.links.LinkName.{LinkName}
use Rattle.mind_base.specs.declared.notes.Note.{Note}
use Rattle.mind_base.specs.declared.plans.RackPlan.{RackPlan}
use Rattle.request_list.specs.declared.requests.Request.{Request}
use Rattle.wire_msg.specs.declared.msgs.Msg.{Msg}
use Rattle.switch_core.specs.Invariant.{IsSwitch}
use Rattle.switch_core.specs.Sending.{IsSendable, Start, Comes, start_at}
use Rattle.switch_core.specs.Serving.{treated_if, treated_next, over, first_pass, one_pass, passes, IsServed, Serves}
use Rattle.switch_core.specs.Standing.{left_to_do, PassTells, InPass}
use Rattle.switch_core.specs.Switch.{SwitchView, SwitchEffect, only, and_then}
use Rattle.switch_core.specs.Treating.{Pass}
use Rattle.switch_core.specs.declared.stands.Stand.{Stand}
use Rattle.switch_core.proofs.Lists.{all-append}

-- ---- the next request

pub goes-next : (start : Start) (pass : Pass) (s : SwitchView) (stand : Stand) (o : List (LinkName × Msg)) (n : List Note) → InPass start pass s stand o n → (x : Option Request) → slice_get s.requests stand.at ≡ x → (s' : SwitchView) (stand' : Stand) (o' : List (LinkName × Msg)) (n' : List Note) → InPass start (treated_if x pass) s' stand' o' n' → InPass start (treated_next pass) s' stand' o' n'
goes-next start pass s stand o n h x e s' stand' o' n' k =
    let there : slice_get pass.done.switch.requests pass.at ≡ x =
    ap (λ (a : ℕ). slice_get pass.done.switch.requests a) (sym h.at) ∙ ap (λ (v : SwitchView). slice_get v.requests stand.at) (sym h.comes.after) ∙ e in
    subst (λ (y : Option Request). InPass start (treated_if y pass) s' stand' o' n') (sym there) k

pub get-past : {A : Type 0} (xs : List A) (i : ℕ) → length xs ≤ i → slice_get xs i ≡ None
get-past [] i le = refl
get-past (x ∷ xs) zero le = absurd (omega arith)
get-past (x ∷ xs) (suc i) le = get-past xs i (omega arith)

-- ---- one pass

pub in-first : (s : SwitchView) (o : List (LinkName × Msg)) (n : List Note) → InPass (start_at s o n) (first_pass s) s (record { at = 0; blocked = false; changed = false }) o n
in-first s o n = record {
  comes = record { after = refl; sent = sym (append-nil o); noted = sym (append-nil n); plan = refl; sendable = λ all. tt; allowed = λ all. all };
  at = refl;
  blocked = refl;
  tells = refl;
}

pub over-next : (left : ℕ) (pass : Pass) → 0 < left → over left pass ≡ over (left - 1) (treated_next pass)
over-next zero pass lt = absurd (omega arith)
over-next (suc n) pass lt = let e : n ≡ suc n - 1 = omega arith in ap (λ (k : ℕ). over k (treated_next pass)) e

-- how far a pass has come: the rest of it leads to its end
pub record HasCome (start : Start) (left : ℕ) (s : SwitchView) (stand : Stand) (o : List (LinkName × Msg)) (n : List Note) : Type 0 where
  pub pass : Pass
  pub inside : InPass start pass s stand o n
  pub rest : over left pass ≡ over (length start.switch.requests) (first_pass start.switch)

pub come-more : (start : Start) (left : ℕ) (s s' : SwitchView) (stand stand' : Stand) (o o' : List (LinkName × Msg)) (n n' : List Note) → 0 < left → HasCome start left s stand o n → ((begin : Start) → (pass : Pass) → InPass begin pass s stand o n → InPass begin (treated_next pass) s' stand' o' n') → HasCome start (left - 1) s' stand' o' n'
come-more start left s s' stand stand' o o' n n' lt h goes =
    record { pass = treated_next h.pass; inside = goes start h.pass h.inside; rest = sym (over-next left h.pass lt) ∙ h.rest }

pub come-end : (start : Start) (left : ℕ) (s : SwitchView) (stand : Stand) (o : List (LinkName × Msg)) (n : List Note) → left ≡ 0 → HasCome start left s stand o n → Comes start (one_pass start.switch) s o n × PassTells stand.changed start.switch (one_pass start.switch)
come-end start left s stand o n z h =
    let end : h.pass.done ≡ one_pass start.switch = ap (λ (k : ℕ). (over k h.pass).done) (sym z) ∙ ap (λ (p : Pass). p.done) h.rest in
    (subst (λ (e : SwitchEffect). Comes start e s o n) end h.inside.comes, subst (λ (e : SwitchEffect). PassTells stand.changed start.switch e) end h.inside.tells)

-- ---- passes

pub comes-on : (start : Start) (done : SwitchEffect) (change : SwitchView → SwitchEffect) (s s' : SwitchView) (o o' : List (LinkName × Msg)) (n n' : List Note) → Comes start done s o n → Comes (start_at s o n) (change s) s' o' n' → Comes start (and_then done change) s' o' n'
comes-on start done change s s' o o' n n' h k = record {
  after = k.after ∙ ap (λ (x : SwitchView). (change x).switch) h.after;
  sent = k.sent ∙ ap (λ (x : SwitchView). o ++ (change x).sent) h.after ∙ ap (λ (x : List (LinkName × Msg)). x ++ (change done.switch).sent) h.sent ∙ append_assoc start.out done.sent (change done.switch).sent;
  noted = k.noted ∙ ap (λ (x : SwitchView). n ++ (change x).noted) h.after ∙ ap (λ (x : List Note). x ++ (change done.switch).noted) h.noted ∙ append_assoc start.notes done.noted (change done.switch).noted;
  plan = k.plan ∙ h.plan;
  sendable = λ all. all-append (IsSendable start.switch.plan) done.sent (change done.switch).sent (h.sendable all)
      (subst (λ (x : SwitchView). AllByRecursion (IsSendable start.switch.plan) (change x).sent) h.after
      (subst (λ (p : RackPlan). AllByRecursion (IsSendable p) (change s).sent) h.plan (k.sendable (h.allowed all))));
  allowed = λ all. k.allowed (h.allowed all);
}

passes-more : (n : ℕ) (first : SwitchEffect) → passes (suc n) first ≡ and_then (passes n first) one_pass
passes-more zero first = refl
passes-more (suc n) first = passes-more n (and_then first one_pass)

-- a pass that has changed nothing was the last one
abbrev pub Ends : Bool → SwitchView → Type 0
Ends true s = Unit {0}
Ends false s = IsServed s

pub record HasServed (start : Start) (first : SwitchEffect) (changed : Bool) (s : SwitchView) (o : List (LinkName × Msg)) (n : List Note) : Type 0 where
  pub count : ℕ
  pub comes : Comes start (passes count first) s o n
  pub ends : Ends changed s

pub served-first : (start : Start) (first : SwitchEffect) (s : SwitchView) (o : List (LinkName × Msg)) (n : List Note) → Comes start first s o n → HasServed start first true s o n
served-first start first s o n h = record { count = 0; comes = h; ends = tt }

-- a pass that changed nothing left the switch as it was
pub unchanged-is : (s s' : SwitchView) (o o' : List (LinkName × Msg)) (n n' : List Note) → Comes (start_at s o n) (one_pass s) s' o' n' → one_pass s ≡ only s → s' ≡ s
unchanged-is s s' o o' n n' h e = h.after ∙ ap (λ (x : SwitchEffect). x.switch) e

ends-after : (changed : Bool) (s s' : SwitchView) (o o' : List (LinkName × Msg)) (n n' : List Note) → Comes (start_at s o n) (one_pass s) s' o' n' → PassTells changed s (one_pass s) → Ends changed s'
ends-after true s s' o o' n n' h t = tt
ends-after false s s' o o' n n' h t = subst (λ (x : SwitchView). IsServed x) (sym (unchanged-is s s' o o' n n' h t)) t

-- so what was true of it is true still
pub switch-after : (changed : Bool) (s s' : SwitchView) (o o' : List (LinkName × Msg)) (n n' : List Note) → Comes (start_at s o n) (one_pass s) s' o' n' → PassTells changed s (one_pass s) → IsSwitch s → changed ≡ false → IsSwitch s'
switch-after true s s' o o' n n' h t is e = let never : ⊥ = cc in absurd never
switch-after false s s' o o' n n' h t is e = subst IsSwitch (sym (unchanged-is s s' o o' n n' h t)) is

pub served-more : (start : Start) (first : SwitchEffect) (was changed : Bool) (s s' : SwitchView) (o o' : List (LinkName × Msg)) (n n' : List Note) → HasServed start first was s o n → Comes (start_at s o n) (one_pass s) s' o' n' → PassTells changed s (one_pass s) → HasServed start first changed s' o' n'
served-more start first was changed s s' o o' n n' h k t = record {
  count = suc h.count;
  comes = subst (λ (e : SwitchEffect). Comes start e s' o' n') (sym (passes-more h.count first)) (comes-on start (passes h.count first) one_pass s s' o o' n n' h.comes k);
  ends = ends-after changed s s' o o' n n' k t;
}

pub served-end : (start : Start) (first : SwitchEffect) (changed : Bool) (s : SwitchView) (o : List (LinkName × Msg)) (n : List Note) → changed ≡ false → HasServed start first changed s o n → (last : SwitchEffect) × Serves first last × Comes start last s o n
served-end start first changed s o n e h =
    let served : IsServed s = subst (λ (b : Bool). Ends b s) e h.ends in
    (passes h.count first, (h.count, refl, subst (λ (x : SwitchView). IsServed x) h.comes.after served), h.comes)

-- each pass but the last leaves less to do
pub falls : (changed : Bool) (s s' : SwitchView) (o o' : List (LinkName × Msg)) (n n' : List Note) → Comes (start_at s o n) (one_pass s) s' o' n' → PassTells changed s (one_pass s) → left_to_do s' + cond changed 1 0 < left_to_do s + 1
falls true s s' o o' n n' h t = let same : left_to_do s' ≡ left_to_do (one_pass s).switch = ap left_to_do h.after in omega (arith, same, t)
falls false s s' o o' n n' h t = let same : left_to_do s' ≡ left_to_do s = ap left_to_do (unchanged-is s s' o o' n n' h t) in omega (arith, same)
