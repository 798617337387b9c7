-- One of the blade's harts, among the others.
use Rattle.std.proofs.Common.{◌≡◌, ℕ, zero, suc, List, [], ◌∷◌, ◌++◌, drop, get_or, slice_get, slice_set, Option, Some, None, IfSome, IsSome, option_and_then, refl, sym, ap, subst, ◌∙◌}
use Rattle.mind_base.specs.Pending.{PendingView}
use Rattle.mind_base.specs.declared.notes.Note.{Note}
use Rattle.mind_base.specs.declared.notes.Note.TheVariants as note
use Rattle.mind_base.specs.declared.plans.ThreadPlan.{ThreadPlan}
use Rattle.hart_effect.specs.Deed.{Deed, carried_out}
use Rattle.hart_effect.specs.declared.finds.Found.{Found}
use Rattle.page_cache.specs.PageCache.{CacheView}
use Rattle.compute_blade.specs.Blade.{HartView, BladeView, OnlyNotes, hart_of, with_hart, HasSpent, last_store}
use Rattle.compute_blade.specs.Frames.{around_held, thread_of}
use Rattle.compute_blade.specs.Harts.{DoesSome, TakesEffect}
use Rattle.compute_blade.specs.Steps.{performed_by, performed, drained}

-- what stands at a place, written there again
pub same_place : {X : Type 0} (xs : List X) (i : ℕ) (x : X) → slice_get xs i ≡ Some x → slice_set xs i x ≡ xs
same_place [] i x h = refl
same_place (y ∷ ys) zero x h = let same : y ≡ x = cc in ap (λ z. z ∷ ys) (sym same)
same_place (y ∷ ys) (suc i) x h = ap (λ zs. y ∷ zs) (same_place ys i x h)

-- what was written at a place stands there
pub placed : {X : Type 0} (xs : List X) (i : ℕ) (x y : X) → slice_get xs i ≡ Some x → slice_get (slice_set xs i y) i ≡ Some y
placed [] i x y h = let never : ⊥ = cc in absurd never
placed (z ∷ zs) zero x y h = refl
placed (z ∷ zs) (suc i) x y h = placed zs i x y h

pub inner : (o : Option (Option HartView)) (hart : HartView) → option_and_then (λ hart. hart) o ≡ Some hart → o ≡ Some (Some hart)
inner None hart h = let never : ⊥ = cc in absurd never
inner (Some o) hart h = ap Some h

-- the blade where hart h and the cache are others
abbrev pub moved : BladeView → ℕ → HartView → CacheView → BladeView
moved blade h hart cache = record blade { harts = slice_set blade.harts h (Some hart); cache = cache }

pub moved_same : (blade : BladeView) (h : ℕ) (hart hart' : HartView) (cache' : CacheView) → hart_of blade h ≡ Some hart → hart' ≡ hart → cache' ≡ blade.cache
    → moved blade h hart' cache' ≡ blade
moved_same blade h hart hart' cache' is same kept =
    (λ i. moved blade h (same i) (kept i))
    ∙ ap (λ hs. record blade { harts = hs }) (same_place blade.harts h (Some hart) (inner (slice_get blade.harts h) hart is))

-- the hart that was written is hart h
pub moved_hart : (blade : BladeView) (h : ℕ) (hart hart' : HartView) (cache' : CacheView) → hart_of blade h ≡ Some hart → hart_of (moved blade h hart' cache') h ≡ Some hart'
moved_hart blade h hart hart' cache' is =
    ap (option_and_then (λ o. o)) (placed blade.harts h (Some hart) (Some hart') (inner (slice_get blade.harts h) hart is))

pub performed_at : (o : Option Deed) (h : ℕ) (plan : ThreadPlan) (found : Found) (blade new : BladeView) (hart hart' : HartView) (cache' : CacheView) (notes notes' : List Note)
    → DoesSome h plan.domain found hart blade.cache hart' cache' o → new ≡ moved blade h hart' cache' → notes' ≡ notes ++ note.Exec h ∷ []
    → OnlyNotes (performed_by o h plan found blade hart) new notes notes'
performed_at None h plan found blade new hart hart' cache' notes notes' does is noted = absurd does
performed_at (Some deed) h plan found blade new hart hart' cache' notes notes' does is noted =
    (is ∙ (λ i. moved blade h (does.0 i) (does.1 i)), refl, noted)

-- what holds of hart h
pub of_hart : (P : HartView → Type 0) (o : Option HartView) (hart : HartView) → o ≡ Some hart → P hart → IfSome o P
of_hart P None hart is p = tt
of_hart P (Some other) hart is p = let same : hart ≡ other = cc in subst P same p

-- ---- a hart that was read at its place

read_at : {X : Type 0} (xs : List X) (i : ℕ) (d : X) → IsSome (slice_get xs i) → slice_get xs i ≡ Some (get_or xs i d)
read_at [] i d h = let never : ⊥ = cc in absurd never
read_at (x ∷ xs) zero d h = refl
read_at (x ∷ xs) (suc i) d h = read_at xs i d h

outer : (o : Option (Option HartView)) → IsSome (option_and_then (λ hart. hart) o) → IsSome o
outer None h = let never : ⊥ = cc in absurd never
outer (Some o) h = refl

own_at : (blade : BladeView) (h : ℕ) (place : Option HartView) (hart : HartView) → IsSome (hart_of blade h) → place ≡ get_or blade.harts h place → place ≡ Some hart
    → hart_of blade h ≡ Some hart
own_at blade h place hart own read is =
    ap (option_and_then (λ o. o)) (read_at blade.harts h place (outer (slice_get blade.harts h) own)) ∙ (sym read ∙ is)

-- the blade as its fields say it, and where its hart was read
pub record IsRead (blade now : BladeView) (i h : ℕ) (place : Option HartView) (hart : HartView) : Type 0 where
  pub view : blade ≡ now
  pub own : IsSome (hart_of now h)
  pub index : i ≡ h
  pub value : place ≡ get_or blade.harts i place
  pub is : place ≡ Some hart

pub read_here : {blade now : BladeView} {i h : ℕ} {place : Option HartView} {hart : HartView} → blade ≡ now → IsSome (hart_of now h) → i ≡ h → place ≡ get_or blade.harts i place → place ≡ Some hart
    → IsRead blade now i h place hart
read_here view own index value is = record { view = view; own = own; index = index; value = value; is = is }

pub own_read : (blade now : BladeView) (i h : ℕ) (place : Option HartView) (hart : HartView) → IsRead blade now i h place hart → hart_of blade h ≡ Some hart
own_read blade now i h place hart r =
    own_at blade h place hart (subst (λ b. IsSome (hart_of b h)) (sym r.view) r.own) (r.value ∙ ap (λ j. get_or blade.harts j place) r.index) r.is

-- hart h has spent its tags, and nothing changed
pub spent_at : (blade now : BladeView) (i h : ℕ) (place : Option HartView) (hart hart' : HartView) (cache' : CacheView) → IsRead blade now i h place hart
    → (hart' ≡ hart) × (cache' ≡ blade.cache) → hart.stores ≡ last_store → HasSpent h now × (moved blade i hart' cache' ≡ now)
spent_at blade now i h place hart hart' cache' r kept spent =
    let is = own_read blade now i h place hart r in (
      subst (HasSpent h) r.view (rw is spent),
      ap (λ j. moved blade j hart' cache') r.index ∙ (moved_same blade h hart hart' cache' is kept.0 kept.1 ∙ r.view),
    )

-- hart h changed
pub changed_own : (change : HartView → HartView) (h : ℕ) (blade now : BladeView) (i : ℕ) (place : Option HartView) (hart hart' : HartView)
    → IsRead blade now i h place hart → hart' ≡ change hart
    → IfSome (hart_of now h) (λ hart. moved blade i hart' blade.cache ≡ with_hart h (change hart) now)
changed_own change h blade now i place hart hart' r does =
    subst (λ b. IfSome (hart_of b h) (λ hart. moved blade i hart' blade.cache ≡ with_hart h (change hart) b)) r.view
    (of_hart (λ hart. moved blade i hart' blade.cache ≡ with_hart h (change hart) blade) (hart_of blade h) hart (own_read blade now i h place hart r)
    ((λ k. moved blade (r.index k) (does k) blade.cache)))

-- hart h did its deed, by what it found around it
pub performed_own : (h : ℕ) (plan : ThreadPlan) (found : Found) (pc : ℕ) (blade now : BladeView) (i : ℕ) (place : Option HartView) (hart hart' : HartView) (cache' : CacheView) (notes notes' : List Note)
    → IsRead blade now i h place hart
    → DoesSome h plan.domain found hart blade.cache hart' cache' (carried_out found (around_held blade.cache.entries h plan.domain) pc (thread_of blade.cache.entries hart))
    → notes' ≡ notes ++ note.Exec h ∷ []
    → IfSome (hart_of now h) (λ hart. OnlyNotes (performed h plan found pc now hart) (moved blade i hart' cache') notes notes')
performed_own h plan found pc blade now i place hart hart' cache' notes notes' r does noted =
    subst (λ b. IfSome (hart_of b h) (λ hart. OnlyNotes (performed h plan found pc b hart) (moved blade i hart' cache') notes notes')) r.view
    (of_hart (λ hart. OnlyNotes (performed h plan found pc blade hart) (moved blade i hart' cache') notes notes') (hart_of blade h) hart (own_read blade now i h place hart r)
    (performed_at (carried_out found (around_held blade.cache.entries h plan.domain) pc (thread_of blade.cache.entries hart)) h plan found blade (moved blade i hart' cache') hart hart' cache' notes notes' does
    (ap (λ j. moved blade j hart' cache') r.index) noted))

-- the oldest store of hart h took effect
drained_at : (oldest : Option PendingView) (h : ℕ) (plan : ThreadPlan) (blade new : BladeView) (hart hart' : HartView) (cache' : CacheView) (notes notes' : List Note)
    → IfSome oldest (λ store. TakesEffect h plan.domain store (record hart { queue = record hart.queue { stores = drop 1 hart.queue.stores } }) blade.cache hart' cache')
    → new ≡ moved blade h hart' cache' → notes' ≡ notes ++ note.Drain h ∷ []
    → IfSome oldest (λ store. OnlyNotes (drained h plan store (drop 1 hart.queue.stores) blade hart) new notes notes')
drained_at None h plan blade new hart hart' cache' notes notes' does is noted = tt
drained_at (Some store) h plan blade new hart hart' cache' notes notes' does is noted =
    (is ∙ (λ i. moved blade h (does.0 i) (does.1 i)), refl, noted)

pub drained_own : (h : ℕ) (plan : ThreadPlan) (blade now : BladeView) (i : ℕ) (place : Option HartView) (hart hart' : HartView) (cache' : CacheView) (notes notes' : List Note)
    → IsRead blade now i h place hart
    → IfSome (slice_get hart.queue.stores 0) (λ store. TakesEffect h plan.domain store (record hart { queue = record hart.queue { stores = drop 1 hart.queue.stores } }) blade.cache hart' cache')
    → notes' ≡ notes ++ note.Drain h ∷ []
    → IfSome (hart_of now h) (λ hart. IfSome (slice_get hart.queue.stores 0) (λ store. OnlyNotes (drained h plan store (drop 1 hart.queue.stores) now hart) (moved blade i hart' cache') notes notes'))
drained_own h plan blade now i place hart hart' cache' notes notes' r does noted =
    subst (λ b. IfSome (hart_of b h) (λ hart. IfSome (slice_get hart.queue.stores 0) (λ store. OnlyNotes (drained h plan store (drop 1 hart.queue.stores) b hart) (moved blade i hart' cache') notes notes'))) r.view
    (of_hart (λ hart. IfSome (slice_get hart.queue.stores 0) (λ store. OnlyNotes (drained h plan store (drop 1 hart.queue.stores) blade hart) (moved blade i hart' cache') notes notes')) (hart_of blade h) hart (own_read blade now i h place hart r)
    (drained_at (slice_get hart.queue.stores 0) h plan blade (moved blade i hart' cache') hart hart' cache' notes notes' does (ap (λ j. moved blade j hart' cache') r.index) noted))
