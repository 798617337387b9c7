use Rattle.std.proofs.Common.{◌≡◌, ◌∙◌, None, ap, sym}
use Rattle.std.specs.Option.{is_some}
use Rattle.invalidate_multicast.specs.Transition.{first_ended}
use Rattle.switch_core.proofs.Answering.{ending-end, ending-falls, ending-first, ending-more, ending-waits}
use Rattle.switch_core.proofs.endings.end_each.Goals as goal

pub returns-in_default-clause-ended : goal.returns-in_default-clause-ended
returns-in_default-clause-ended c =
    let none : first_ended c.ending.directory.entries ≡ None = sym c.ended.ensures.named ∙ c.in_default.is in
    ending-end c.args.directory.now c.ending.directory c.ended.new.directory c.ending.invariant none c.ended.ensures.ended

pub returns-in_default-clause-waits : goal.returns-in_default-clause-waits
returns-in_default-clause-waits c =
    ending-waits c.ending.directory c.ended.new.directory (sym c.ended.ensures.named ∙ c.in_default.is) c.ended.ensures.ended

pub returns-in_default-clause-count : goal.returns-in_default-clause-count
returns-in_default-clause-count c = (ending-more c.args.directory.now c.ending.directory c.ended.new.directory c.ending.invariant c.ended.ensures.ended c.ended.ensures.count).count

pub returns-in_default-clause-slots : goal.returns-in_default-clause-slots
returns-in_default-clause-slots c = (ending-more c.args.directory.now c.ending.directory c.ended.new.directory c.ending.invariant c.ended.ensures.ended c.ended.ensures.count).slots

pub returns-in_default-clause-fit : goal.returns-in_default-clause-fit
returns-in_default-clause-fit c = (ending-more c.args.directory.now c.ending.directory c.ended.new.directory c.ending.invariant c.ended.ensures.ended c.ended.ensures.count).fit

pub ending-init : goal.ending-init
ending-init c = ending-first c.args.directory.now

pub ending-smaller : goal.ending-smaller
ending-smaller c = ending-falls c.ending.directory c.ended.new.directory (ap is_some (sym c.in-Some.ensures.named)) c.ended.ensures.ended

pub ending-preserved : goal.ending-preserved
ending-preserved c = ending-more c.args.directory.now c.ending.directory c.ended.new.directory c.ending.invariant c.ended.ensures.ended c.ended.ensures.count
