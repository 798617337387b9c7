use Rattle.std.proofs.Common.{subst}
use Rattle.std.specs.Prelude.{IfOk}
use Rattle.std.specs.List.{AllByRecursion}
use Rattle.schedule_text.specs.declared.sizes.Sizes.{Sizes}
use Rattle.schedule_text.specs.Event.{IsEventIn}
use Rattle.schedule_text.specs.Schedule.{schedule_in}
use Rattle.schedule_text.proofs.schedules.schedule_of.Goals as goal

pub returns-clause-exact : goal.returns-clause-exact
unfolding schedule_in
returns-clause-exact c = rw (← c.sizes_in.ensures) c.read_lines.ensures.exact

pub returns-clause-numbers : goal.returns-clause-numbers
returns-clause-numbers c =
    subst (λ (s : Sizes). IfOk c.read_lines.result (λ events. AllByRecursion (IsEventIn s) events.items)) c.sizes_in.ensures c.read_lines.ensures.numbers
