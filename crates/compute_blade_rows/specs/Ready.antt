-- A blade whose first hart may step.
use Rattle.std.specs.Prelude.{List, IsSome}
use Rattle.mind_base.specs.Fit.{FitImages}
use Rattle.mind_base.specs.declared.images.Image.{Image}
use Rattle.compute_blade.specs.Blade.{BladeView, IsBlade, hart_of}

-- it is a blade, the first thread is its own, and the images are its plan's
pub record IsReady (blade : BladeView) (images : List Image) : Type 0 where
  pub shape : IsBlade blade
  pub own : IsSome (hart_of blade 0)
  pub fit : FitImages blade.plan.images images
