use Rattle.std.proofs.Common.{◌≡◌, ◌∙◌, ap, sym, subst, length, map, List}
use Rattle.std.specs.List.{AllByRecursion}
use Rattle.mind_base.specs.declared.events.Event.{Event}
use Rattle.schedule_text.specs.Event.{IsEventOf}
use Rattle.rack_gen.specs.Line.{event_of}
use Rattle.rack_gen.specs.Generator.{generated}
use Rattle.rack_gen.proofs.Made.{length_events, events_numbers}
use Rattle.rack_gen.proofs.schedules.generated.Goals as goal

pub returns-clause-lines : goal.returns-clause-lines
returns-clause-lines c =
    let events : c.in_ok-events.events.items ≡ generated c.args.plan.now c.args.count c.args.seed =
    c.in_ok-events.ensures ∙ ap (map event_of) (c.as_slice.ensures.value ∙ c.in_ok-lines.ensures) in
    ap length events ∙ length_events c.args.plan.now c.args.count c.args.seed

pub returns-clause-numbers : goal.returns-clause-numbers
returns-clause-numbers c =
    let events : c.in_ok-events.events.items ≡ generated c.args.plan.now c.args.count c.args.seed =
    c.in_ok-events.ensures ∙ ap (map event_of) (c.as_slice.ensures.value ∙ c.in_ok-lines.ensures) in
    subst (λ (es : List Event). AllByRecursion (IsEventOf c.args.plan.now) es) (sym events)
    (events_numbers c.args.plan.now c.args.count c.args.seed (record { threads = c.requires.threads; blades = c.requires.blades; memories = c.requires.memories }))
