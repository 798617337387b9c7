use Rattle.std.proofs.Common.{◌∙◌, ap}
use Rattle.mind_base.specs.Permission.{permission_of}
use Rattle.tso_machine.proofs.Starts.{stands-start}
use Rattle.tso_machine.proofs.machines.Machine.start.Goals as goal

pub returns-clause-start : goal.returns-clause-start
returns-clause-start c = stands-start c.args.plan.now _ _ _ _ _ _ _ c.in_ok-harts.ensures.threads c.in_ok-memory.ensures.zero (c.in_ok-perms.ensures.maps ∙ ap permission_of c.as_slice.ensures) c.in_ok-plan.ensures (ap (λ q. q.taken) c.in_ok-commands.ensures)
