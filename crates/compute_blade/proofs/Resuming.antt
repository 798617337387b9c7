-- What waited for a page, where the request is answered.
use Rattle.std.proofs.Common.{◌≡◌, ℕ, true, List, Option, Some, None, IfSome, is_some, slice_get, refl, sym, subst, ◌∙◌}
use Rattle.std.specs.Prelude.{IsSomeAnd}
use Rattle.mind_base.specs.Page.{PageView}
use Rattle.mind_base.specs.declared.images.Image.{Image}
use Rattle.mind_base.specs.declared.notes.Note.{Note}
use Rattle.mind_base.specs.declared.plans.ThreadPlan.{ThreadPlan}
use Rattle.wire_msg.specs.declared.msgs.Msg.{Msg}
use Rattle.compute_blade.specs.Blade.{HartView, BladeView, Did, HasSpent, hart_of, with_hart, requests_without, request_for, last_store}
use Rattle.compute_blade.specs.Messages.{awake, need_asked, resumed, resumed_by, resumed_for}
use Rattle.compute_blade.specs.declared.kept.Answer.{Answer}
use Rattle.compute_blade.specs.declared.kept.Asked.{Asked}
use Rattle.compute_blade.specs.declared.kept.Mover.{Mover}
use Rattle.compute_blade.specs.declared.kept.Waits.{Waits}
use Rattle.compute_blade.specs.declared.kept.Waits.TheVariants.{Step, Drain}
use Rattle.compute_blade.proofs.Moving.{moved_hart}

-- the blade where the hart waits no longer, and the request is out no more
abbrev pub woken : BladeView → Asked → HartView → BladeView
woken blade asked hart = with_hart asked.hart (awake asked.waits hart) (record blade { requests = requests_without asked.page blade.requests })

-- its hart
pub woken_hart : (blade : BladeView) (asked : Asked) (hart : HartView) → hart_of blade asked.hart ≡ Some hart → hart_of (woken blade asked hart) asked.hart ≡ Some (awake asked.waits hart)
woken_hart blade asked hart is =
    moved_hart (record blade { requests = requests_without asked.page blade.requests }) asked.hart hart (awake asked.waits hart) blade.cache is

awake-stores : (waits : Waits) (hart : HartView) → (awake waits hart).stores ≡ hart.stores
awake-stores Step hart = refl
awake-stores Drain hart = refl

-- what is known when the hart was woken
pub record IsWoken (blade mid : BladeView) (asked : Asked) : Type 0 where
  pub own : true ≡ is_some (hart_of blade asked.hart)
  pub awake : IfSome (hart_of blade asked.hart) (λ hart. mid ≡ woken blade asked hart)

-- the hart was there
abbrev IsThere : BladeView → BladeView → Asked → Type 0
IsThere blade mid asked = (hart : HartView) × (hart_of blade asked.hart ≡ Some hart) × (mid ≡ woken blade asked hart)

there : (blade mid : BladeView) (asked : Asked) → IsWoken blade mid asked → IsThere blade mid asked
there blade mid asked w = by_hart (hart_of blade asked.hart) refl w.own w.awake where
  by_hart : (o : Option HartView) → hart_of blade asked.hart ≡ o → true ≡ is_some o → IfSome o (λ hart. mid ≡ woken blade asked hart) → IsThere blade mid asked
  by_hart None is own after = let never : ⊥ = cc in absurd never
  by_hart (Some hart) is own after = (hart, is, after)

resumed_ok : (answer : Answer) (images : List Image) (asked : Asked) (plan : ThreadPlan) (blade mid new : BladeView) (out out' : List Msg) (notes notes' : List Note)
    → IsWoken blade mid asked → slice_get blade.plan.threads asked.hart ≡ Some plan
    → IfSome (hart_of mid asked.hart) (λ hart. Did (resumed_by asked.waits answer (need_asked asked) images asked.hart plan mid hart) new out out' notes notes')
    → Did (resumed answer images asked blade) new out out' notes notes'
resumed_ok answer images asked plan blade mid new out out' notes notes' w planned did =
    let h = there blade mid asked w in
    let P : BladeView → Type 0 = λ b. IfSome (hart_of b asked.hart) (λ hart. Did (resumed_by asked.waits answer (need_asked asked) images asked.hart plan b hart) new out out' notes notes') in
    let Q : Option HartView → Type 0 = λ o. IfSome o (λ hart. Did (resumed_by asked.waits answer (need_asked asked) images asked.hart plan (woken blade asked h.0) hart) new out out' notes notes') in
    rw (planned, h.1) (subst Q (woken_hart blade asked h.0 h.1) (subst P h.2 did))

pub resumed_some : (answer : Answer) (images : List Image) (page : PageView) (asked : Asked) (mover : Mover) (blade mid new : BladeView) (out out' : List Msg) (notes notes' : List Note)
    → IsWoken blade mid asked → Some asked ≡ request_for page blade.requests → mover.hart ≡ asked.hart → Some mover.plan ≡ slice_get blade.plan.threads asked.hart
    → IfSome (hart_of mid mover.hart) (λ hart. Did (resumed_by asked.waits answer (need_asked asked) images mover.hart mover.plan mid hart) new out out' notes notes')
    → Did (resumed_for answer images (request_for page blade.requests) blade) new out out' notes notes'
resumed_some answer images page asked mover blade mid new out out' notes notes' w is same planned did =
    let P : ℕ → Type 0 = λ h. IfSome (hart_of mid h) (λ hart. Did (resumed_by asked.waits answer (need_asked asked) images h mover.plan mid hart) new out out' notes notes') in
    subst (λ o. Did (resumed_for answer images o blade) new out out' notes notes') is
    (resumed_ok answer images asked mover.plan blade mid new out out' notes notes' w (sym planned) (subst P same did))

-- a hart that spent its tags had done so before it was woken
pub spent_before : (page : PageView) (blade mid new : BladeView) (asked : Asked) (h : ℕ) → IsWoken blade mid asked → Some asked ≡ request_for page blade.requests → h ≡ asked.hart → HasSpent h mid × (new ≡ mid)
    → IsSomeAnd (request_for page blade.requests) (λ asked. HasSpent asked.hart blade × HasSpent asked.hart new)
spent_before page blade mid new asked h w is same spent =
    let s : HasSpent asked.hart mid = subst (λ h. HasSpent h mid) same spent.0 in
    let t = there blade mid asked w in
    let after : HasSpent asked.hart (woken blade asked t.0) = subst (HasSpent asked.hart) t.2 s in
    let stores : (awake asked.waits t.0).stores ≡ last_store = rw (woken_hart blade asked t.0 t.1) at after in
    let both : HasSpent asked.hart blade × HasSpent asked.hart new = (rw t.1 (sym (awake-stores asked.waits t.0) ∙ stores), subst (HasSpent asked.hart) (sym spent.1) s) in
    subst (λ o. IsSomeAnd o (λ asked. HasSpent asked.hart blade × HasSpent asked.hart new)) is both
