use Rattle.switch_core.proofs.Passing.{keeps-then}
use Rattle.switch_core.proofs.Rounds.{served-more, switch-after}
use Rattle.switch_core.proofs.switches.SwitchCore.serve.Goals as goal

pub loop-changed-preserved : goal.loop-changed-preserved
loop-changed-preserved c = (
  λ start first h. served-more start first c.loop-changed.changed c.in_ok-changed.changed c.loop-changed.self c.pass.new.self c.loop-changed.out.items c.pass.new.out.items c.loop-changed.log.notes c.pass.new.log.notes (c.loop-changed.invariant.0 start first h) c.in_ok-changed.ensures.comes c.in_ok-changed.ensures.tells,
  keeps-then c.args.self.now c.loop-changed.self c.pass.new.self c.args.out.now.items c.loop-changed.out.items c.pass.new.out.items c.args.log.now.notes c.loop-changed.log.notes c.pass.new.log.notes c.loop-changed.invariant.1 c.pass.ensures.keeps,
  switch-after c.in_ok-changed.changed c.loop-changed.self c.pass.new.self c.loop-changed.out.items c.pass.new.out.items c.loop-changed.log.notes c.pass.new.log.notes c.in_ok-changed.ensures.comes c.in_ok-changed.ensures.tells c.in_ok-changed.ensures.was,
)
