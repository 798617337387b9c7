-- What a plan says of its images.
use Rattle.std.specs.Prelude.{ℕ, List, slice_get, option_map, unwrap_or}
use Rattle.mind_base.specs.declared.plans.ImagePlan.{ImagePlan}

-- where an image of the plan stands; 0 for one that the plan does not have
abbrev pub image_place : List ImagePlan → ℕ → ℕ
image_place images i = unwrap_or (option_map (λ image. image.at) (slice_get images i)) 0
