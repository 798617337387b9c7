use Rattle.std.proofs.Common.{refl}
use Rattle.range_migrate.specs.Migrates.{accepted}
use Rattle.range_migrate.proofs.Onward.{pools-reached}
use Rattle.range_migrate.proofs.Kept.{always, free-after, ends-after}
use Rattle.range_migrate.proofs.laws.accepted_moves_decide.Goals as goal

pub returns-clause-places : goal.returns-clause-places
returns-clause-places c = λ homes slots migrates outliers pools page r. (always homes slots migrates outliers pools r).places page

pub returns-clause-free : goal.returns-clause-free
returns-clause-free c = λ homes slots migrates outliers pools memory page r. free-after homes slots (accepted migrates) outliers pools memory page (always homes slots migrates outliers pools r)

pub returns-clause-outcomes : goal.returns-clause-outcomes
returns-clause-outcomes c = λ homes slots migrates outliers pools range memory result r. ends-after homes slots (accepted migrates) outliers pools range memory result (always homes slots migrates outliers pools r)

pub returns-clause-runs : goal.returns-clause-runs
returns-clause-runs c = λ homes slots migrates outliers pools r. (always homes slots migrates outliers pools r).runs

pub returns-clause-first : goal.returns-clause-first
returns-clause-first c = λ homes slots table. (table, refl, refl)

pub returns-clause-pools : goal.returns-clause-pools
returns-clause-pools c = λ homes slots migrates outliers pools r. pools-reached homes slots migrates outliers pools r
