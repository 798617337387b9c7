-- How many pages each blade of the rack may hold.
use Rattle.std.specs.Prelude.{◌≡◌, ℕ, List, slice_get, Some}
use Rattle.mind_base.specs.declared.plans.RackPlan.{RackPlan}
use Rattle.compute_blade.specs.Blade.{BladeView}
use Rattle.coherence.specs.Lawful.{frames_of}

-- each blade stands at its number, and has as many frames as the plan gives it
abbrev pub HaveFrames : RackPlan → List BladeView → Type 0
HaveFrames plan blades = (c : ℕ) (blade : BladeView) → slice_get blades c ≡ Some blade → (blade.number ≡ c) × (blade.cache.frames ≡ frames_of plan c)
