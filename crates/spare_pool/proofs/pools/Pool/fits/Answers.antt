use Rattle.std.proofs.Common.{refl}
use Rattle.spare_pool.proofs.PoolLemmas.{free_in, marked_in, IsPool-seen}
use Rattle.spare_pool.proofs.pools.Pool.fits.Goals as goal

pub returns-in-Some-clause-fits : goal.returns-in-Some-clause-fits
returns-in-Some-clause-fits c =
    (λ _. (c.in-Some.field-0, free_in _ _ _ _ _ _ c.self.view_is c.as_slice.ensures.value c.size_of_run-size.ensures c.in-Some.ensures.found), λ _. refl)

pub returns-in-Some-clause-pool : goal.returns-in-Some-clause-pool
returns-in-Some-clause-pool c = IsPool-seen _ _ c.self.view_is c.self.invariant

pub returns-in-None-clause-fits : goal.returns-in-None-clause-fits
returns-in-None-clause-fits c =
    (λ e. absurd cc, λ h. absurd (c.in-None.ensures.none h.0 (marked_in _ _ _ _ _ _ c.self.view_is c.as_slice.ensures.value c.size_of_run-size.ensures h.1)))

pub returns-in-None-clause-pool : goal.returns-in-None-clause-pool
returns-in-None-clause-pool c = IsPool-seen _ _ c.self.view_is c.self.invariant
