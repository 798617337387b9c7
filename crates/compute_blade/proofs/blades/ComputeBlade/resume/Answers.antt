use Rattle.std.proofs.Common.{◌≡◌, Some, rules}
use Rattle.compute_blade.specs.Blade.{HasSpent, request_for}
use Rattle.compute_blade.proofs.Resuming.{IsWoken, resumed_some, spent_before}
use Rattle.compute_blade.proofs.blades.ComputeBlade.resume.Goals as goal

pub returns-in_err-resume_by-clause-spent : goal.returns-in_err-resume_by-clause-spent
returns-in_err-resume_by-clause-spent c = λ err.
    let woken : IsWoken c.args.self.now c.wake.new.self c.in-Some.asked = record { own = search rules; awake = c.wake.ensures.awake } in
    let spent : HasSpent c.in-Some-mover.mover.hart c.wake.new.self × (c.resume_by.new.self ≡ c.wake.new.self) = search rules in
    let asked : Some c.in-Some.asked ≡ request_for c.args.page c.args.self.now.requests = search rules in
    spent_before c.args.page c.args.self.now c.wake.new.self _ c.in-Some.asked c.in-Some-mover.mover.hart woken asked c.in-Some-mover.ensures.hart spent

pub returns-clause-ok : goal.returns-clause-ok
returns-clause-ok c =
    let woken : IsWoken c.args.self.now c.wake.new.self c.in-Some.asked = record { own = search rules; awake = c.wake.ensures.awake } in
    let asked : Some c.in-Some.asked ≡ request_for c.args.page c.args.self.now.requests = search rules in
    resumed_some c.args.answer c.args.images.now c.args.page c.in-Some.asked c.in-Some-mover.mover c.args.self.now c.wake.new.self _ _ _ _ _ woken
    asked c.in-Some-mover.ensures.hart c.in-Some-mover.ensures.plan c.in_ok-resume_by.ensures.ok
