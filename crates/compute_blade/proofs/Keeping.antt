-- Calls that keep the blade, one after another.
use Rattle.std.proofs.Common.{refl, ◌∙◌}
use Rattle.compute_blade.specs.Blade.{BladeView, IsBlade, StaysBlade}

pub keeps_same : (blade : BladeView) → IsBlade blade → StaysBlade blade blade
keeps_same blade is = record { plan = refl; number = refl; shape = is }

pub keeps_both : (a b c : BladeView) → StaysBlade a b → StaysBlade b c → StaysBlade a c
keeps_both a b c p q = record { plan = q.plan ∙ p.plan; number = q.number ∙ p.number; shape = q.shape }
