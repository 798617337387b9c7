-- A step of a hart that is found in its blade, by the image of its plan.
use Rattle.std.proofs.Common.{◌≡◌, ℕ, zero, suc, ◌<◌, List, [], ◌∷◌, length, slice_get, Option, Some, None, IsSome, refl, arith}
use Rattle.mind_base.specs.Fit.{FitImages}
use Rattle.mind_base.specs.declared.images.Image.{Image}
use Rattle.mind_base.specs.declared.plans.ImagePlan.{ImagePlan}

-- there is an image for each plan of one
fit_image : (plans : List ImagePlan) (images : List Image) (i : ℕ) → FitImages plans images → i < length plans → IsSome (slice_get images i)
fit_image [] images i h below = absurd (omega arith)
fit_image (plan ∷ plans) [] i h below = absurd h
fit_image (plan ∷ plans) (image ∷ images) zero h below = refl
fit_image (plan ∷ plans) (image ∷ images) (suc i) h below = fit_image plans images i h.1 (omega arith)

not_there : {X : Type 0} (o : Option X) → None ≡ o → IsSome o → ⊥
not_there None is some = cc
not_there (Some x) is some = cc

-- so none is missing
pub no_image : (plans : List ImagePlan) (images : List Image) (i : ℕ) → FitImages plans images → i < length plans → None ≡ slice_get images i → ⊥
no_image plans images i h below is = not_there (slice_get images i) is (fit_image plans images i h below)
