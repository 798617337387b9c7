use Rattle.std.proofs.Common.{◌≡◌, ◌∙◌, ap, length, arith}
use Rattle.std.specs.List.{flat_map}
use Rattle.schedule_text.specs.Schedule.{schedule_in}
use Rattle.rack_gen.specs.Line.{line_text}
use Rattle.rack_gen.specs.Generator.{generated_text}
use Rattle.rack_gen.proofs.Made.{text_reads, text_fits}
use Rattle.rack_gen.proofs.schedules.make.Goals as goal

pub returns-clause-short : goal.returns-clause-short
returns-clause-short c =
    let text : c.in_ok-text.text.items ≡ generated_text c.args.plan.now c.args.count c.args.seed =
    c.in_ok-text.ensures ∙ ap (flat_map line_text) (c.as_slice.ensures.value ∙ c.in_ok-lines.ensures) in
    omega (arith, ap length text, text_fits c.args.plan.now c.args.count c.args.seed (record { threads = c.requires.threads; blades = c.requires.blades; memories = c.requires.memories }) c.requires.count)

pub returns-clause-reads : goal.returns-clause-reads
returns-clause-reads c =
    let text : c.in_ok-text.text.items ≡ generated_text c.args.plan.now c.args.count c.args.seed =
    c.in_ok-text.ensures ∙ ap (flat_map line_text) (c.as_slice.ensures.value ∙ c.in_ok-lines.ensures) in
    ap (schedule_in c.args.plan.now) text
    ∙ text_reads c.args.plan.now c.args.count c.args.seed (record { threads = c.requires.threads; blades = c.requires.blades; memories = c.requires.memories }) c.requires.count
