-- A blade one of whose harts changes is a blade still.
use Rattle.std.proofs.Common.{◌≡◌, ℕ, zero, suc, ◌<◌, ◌==◌, Bool, true, false, List, [], ◌∷◌, length, map, get_or, slice_get, slice_set, Option, Some, None, IsSome, is_some, option_and_then, refl, sym, ap, subst, ◌∙◌, arith}
use Rattle.std.specs.Prelude.{if◌then◌else◌}
use Rattle.std.proofs.lemmas.List.{length-map, length-set}
use Rattle.mind_base.specs.Fit.{IsFit}
use Rattle.mind_base.specs.declared.plans.RackPlan.{RackPlan}
use Rattle.mind_base.specs.declared.plans.ThreadPlan.{ThreadPlan}
use Rattle.mind_base.specs.Plan.{image_place}
use Rattle.page_cache.specs.PageCache.{CacheView}
use Rattle.compute_blade.specs.Blade.{HartView, BladeView, IsBlade, IsHartOf, IsLike, StaysBlade, hart_of}
use Rattle.compute_blade.specs.Harts.{first_hart}
use Rattle.compute_blade.specs.Start.{first_blade, hart_for}
use Rattle.compute_blade.proofs.Moving.{moved, own_read, read_here, inner}

abbrev at : List (Option HartView) → ℕ → Option HartView
at harts h = option_and_then (λ o. o) (slice_get harts h)

-- when one of the places has another hart, the others are filled as before
set_own : (harts : List (Option HartView)) (i h : ℕ) (hart hart' : HartView) → slice_get harts i ≡ Some (Some hart) → is_some (at (slice_set harts i (Some hart')) h) ≡ is_some (at harts h)
set_own [] i h hart hart' is = refl
set_own (o ∷ harts) zero zero hart hart' is = let same : o ≡ Some hart = cc in sym (ap is_some same)
set_own (o ∷ harts) zero (suc h) hart hart' is = refl
set_own (o ∷ harts) (suc i) zero hart hart' is = refl
set_own (o ∷ harts) (suc i) (suc h) hart hart' is = set_own harts i h hart hart' is

like : (thread : ThreadPlan) (hart hart' : HartView) → IsLike hart hart' → IsHartOf thread hart → IsHartOf thread hart'
like thread hart hart' same is = record { queue = same.queue ∙ is.queue; stores = same.stores }

-- and their harts are of their threads
set_hart : (thread : ThreadPlan) (harts : List (Option HartView)) (i h : ℕ) (hart hart' k : HartView) → slice_get harts i ≡ Some (Some hart) → IsLike hart hart'
    → ((k : HartView) → at harts h ≡ Some k → IsHartOf thread k) → at (slice_set harts i (Some hart')) h ≡ Some k → IsHartOf thread k
set_hart thread [] i h hart hart' k is same each e = each k e
set_hart thread (o ∷ harts) zero zero hart hart' k is same each e =
    let was : o ≡ Some hart = cc in
    let now : hart' ≡ k = cc in
    subst (IsHartOf thread) now (like thread hart hart' same (each hart was))
set_hart thread (o ∷ harts) zero (suc h) hart hart' k is same each e = each k e
set_hart thread (o ∷ harts) (suc i) zero hart hart' k is same each e = each k e
set_hart thread (o ∷ harts) (suc i) (suc h) hart hart' k is same each e = set_hart thread harts i h hart hart' k is same each e

pub still_blade : (blade : BladeView) (h : ℕ) (hart hart' : HartView) (cache' : CacheView) → IsBlade blade → hart_of blade h ≡ Some hart → IsLike hart hart'
    → cache'.frames ≡ blade.cache.frames → IsBlade (moved blade h hart' cache')
still_blade blade h hart hart' cache' is own same frames =
    let place = inner (slice_get blade.harts h) hart own in
    record {
      fit = is.fit;
      number = is.number;
      frames = frames ∙ is.frames;
      places = length-set blade.harts h (Some hart') ∙ is.places;
      own = λ k thread planned. set_own blade.harts h k hart hart' place ∙ is.own k thread planned;
      harts = λ k thread other planned. set_hart thread blade.harts h k hart hart' other place same (λ x. is.harts k thread x planned);
    }

-- and stays the blade that it was, where the hart was read at its place
pub stays_here : {blade now : BladeView} {i h : ℕ} {place : Option HartView} {hart : HartView} (hart' : HartView) (cache' : CacheView) → blade ≡ now → IsSome (hart_of now h) → i ≡ h → place ≡ get_or blade.harts i place → place ≡ Some hart
    → IsBlade blade → IsLike hart hart' → cache'.frames ≡ blade.cache.frames → StaysBlade now (moved blade i hart' cache')
stays_here {blade} {now} {i} {h} {place} {hart} hart' cache' view own index value is shape same frames = record {
  plan = ap (λ b. b.plan) view;
  number = ap (λ b. b.number) view;
  shape = subst (λ j. IsBlade (moved blade j hart' cache')) (sym index) (still_blade blade h hart hart' cache' shape (own_read blade now i h place hart (read_here view own index value is)) same frames);
}

-- ---- a blade that starts

-- a thread's place has its hart where the thread is the blade's
started_own : (b : Bool) (hart : HartView) → is_some (if b then Some hart else None) ≡ b
started_own true hart = refl
started_own false hart = refl

started_hart : (b : Bool) (thread : ThreadPlan) (pc : ℕ) (k : HartView) → (if b then Some (first_hart pc thread.queue) else None) ≡ Some k → IsHartOf thread k
started_hart true thread pc k e =
    let same : first_hart pc thread.queue ≡ k = cc in subst (IsHartOf thread) same (record { queue = refl; stores = omega arith })
started_hart false thread pc k e = let never : ⊥ = cc in absurd never

starts_own : (plan : RackPlan) (number : ℕ) (threads : List ThreadPlan) (h : ℕ) (thread : ThreadPlan) → slice_get threads h ≡ Some thread
    → is_some (at (map (hart_for plan number) threads) h) ≡ (thread.blade == number)
starts_own plan number [] h thread is = let never : ⊥ = cc in absurd never
starts_own plan number (t ∷ threads) zero thread is =
    let same : t ≡ thread = cc in
    subst (λ s. is_some (hart_for plan number t) ≡ (s.blade == number)) same (started_own (t.blade == number) (first_hart (image_place plan.images t.image) t.queue))
starts_own plan number (t ∷ threads) (suc h) thread is = starts_own plan number threads h thread is

starts_hart : (plan : RackPlan) (number : ℕ) (threads : List ThreadPlan) (h : ℕ) (thread : ThreadPlan) (k : HartView) → slice_get threads h ≡ Some thread
    → at (map (hart_for plan number) threads) h ≡ Some k → IsHartOf thread k
starts_hart plan number [] h thread k is e = let never : ⊥ = cc in absurd never
starts_hart plan number (t ∷ threads) zero thread k is e =
    let same : t ≡ thread = cc in
    subst (λ s. IsHartOf s k) same (started_hart (t.blade == number) t (image_place plan.images t.image) k e)
starts_hart plan number (t ∷ threads) (suc h) thread k is e = starts_hart plan number threads h thread k is e

pub starts_blade : (plan : RackPlan) (number : ℕ) → IsFit plan → number < length plan.frames → IsBlade (first_blade plan number)
starts_blade plan number fit below = record {
  fit = fit;
  number = below;
  frames = refl;
  places = length-map plan.threads (hart_for plan number);
  own = starts_own plan number plan.threads;
  harts = starts_hart plan number plan.threads;
}

-- ---- what no call changes

same_get : {X Y : Type 0} (xs : List X) (ys : List Y) (h : ℕ) → length xs ≡ length ys → is_some (slice_get xs h) ≡ is_some (slice_get ys h)
same_get [] [] h e = refl
same_get [] (y ∷ ys) h e = absurd (omega arith)
same_get (x ∷ xs) [] h e = absurd (omega arith)
same_get (x ∷ xs) (y ∷ ys) zero e = refl
same_get (x ∷ xs) (y ∷ ys) (suc h) e = let fewer : length xs ≡ length ys = omega arith in same_get xs ys h fewer

no_hart : (harts : List (Option HartView)) (h : ℕ) → is_some (slice_get harts h) ≡ false → is_some (at harts h) ≡ false
no_hart harts h e = by (slice_get harts h) e where
  by : (o : Option (Option HartView)) → is_some o ≡ false → is_some (option_and_then (λ o. o) o) ≡ false
  by None e = refl
  by (Some o) e = let never : ⊥ = cc in absurd never

-- which harts are the blade's
pub own_kept : (old new : BladeView) → IsBlade old → StaysBlade old new → (h : ℕ) → is_some (hart_of new h) ≡ is_some (hart_of old h)
own_kept old new is kept h = by (slice_get old.plan.threads h) refl where
  by : (o : Option ThreadPlan) → slice_get old.plan.threads h ≡ o → is_some (hart_of new h) ≡ is_some (hart_of old h)
  by None e =
      let none : is_some (slice_get old.plan.threads h) ≡ false = ap is_some e in
      let places : length new.harts ≡ length old.plan.threads = kept.shape.places ∙ ap (λ p. length p.threads) kept.plan in
      no_hart new.harts h (same_get new.harts old.plan.threads h places ∙ none)
      ∙ sym (no_hart old.harts h (same_get old.harts old.plan.threads h is.places ∙ none))
  by (Some thread) e =
      let planned : slice_get new.plan.threads h ≡ Some thread = ap (λ p. slice_get p.threads h) kept.plan ∙ e in
      kept.shape.own h thread planned ∙ (ap (λ n. thread.blade == n) kept.number ∙ sym (is.own h thread e))
