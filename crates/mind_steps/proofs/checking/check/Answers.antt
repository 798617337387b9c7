use Rattle.std.proofs.Common.{[], refl, subst}
use Rattle.tso_machine.specs.Machine.{Replays}
use Rattle.tso_machine.specs.Replay.{labels}
use Rattle.tso_machine.specs.declared.labels.Replay.{Replay}
use Rattle.mind_steps.specs.Run.{setup_of}
use Rattle.mind_steps.proofs.Headlines.{report-checked, stuck-checked}
use Rattle.mind_steps.proofs.checking.check.Goals as goal

pub returns-in-Whole : goal.returns-in-Whole
returns-in-Whole c =
    let P : Replay → Type 0 = λ a. Replays a (labels c.args.journal.now.notes) c.in_ok-machine.machine c.replay.new.self in
    report-checked (setup_of c.args.plan.now c.args.images.now) [] c.in_ok-machine.machine c.replay.new.self c.args.journal.now.notes c.in_ok-text-in-Whole.text.items
    refl c.in_ok-machine.ensures.setup c.in_ok-machine.ensures.start (subst P c.in-Whole.is c.in_ok-replay.ensures.ok) c.in_ok-text-in-Whole.ensures

pub returns : goal.returns
returns c =
    let P : Replay → Type 0 = λ a. Replays a (labels c.args.journal.now.notes) c.in_ok-machine.machine c.replay.new.self in
    stuck-checked (setup_of c.args.plan.now c.args.images.now) c.in_ok-machine.machine c.replay.new.self c.args.journal.now.notes c.in-Stuck.label
    c.in_ok-machine.ensures.setup c.in_ok-machine.ensures.start (subst P c.in-Stuck.is c.in_ok-replay.ensures.ok)
