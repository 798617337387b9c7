use Rattle.std.proofs.Common.{◌++◌, ◌∙◌, take, ap, arith, refl}
use Rattle.std.proofs.lemmas.Option.{slice_get_read}
use Rattle.report_text.specs.CommandLine.{command_outcome, command_line, command_lines_from}
use Rattle.report_text.proofs.Lines.{grown}
use Rattle.report_text.proofs.CommandLines.{line-more, ended-as}
use Rattle.report_text.proofs.commands.put_commands.Goals as goal

pub loop-i-preserved : goal.loop-i-preserved
loop-i-preserved c =
    let ended = command_outcome c.args.machine.now.taken c.args.log.now.notes in
    let as_ended = ended-as c.args.machine.now.taken c.args.log.now.notes c.in_ok-moves.moves.items c.loop-i.i c.outcome.result c.index.result.now c.or-outcome.result
    (omega (arith, c.loop-i-test.true, c.in_ok-moves.ensures.length)) c.index.ensures (c.in_ok-moves.ensures.first c.loop-i.i c.loop-i-test.true)
    c.outcome.ensures.taken c.or-outcome.ensures in
    grown c.args.out.now.items c.loop-i.out.items _ (command_lines_from ended 0 (take c.loop-i.i c.args.commands.now)) _ _
    (c.in_ok-put_command.ensures ∙ ap (λ o. c.loop-i.out.items ++ command_line c.loop-i.i c.index-commands-i.result o) as_ended)
    c.loop-i.invariant
    (line-more ended c.args.commands.now c.loop-i.i c.index-commands-i.result (slice_get_read c.args.commands.now _ c.loop-i.i c.index-commands-i.result refl c.loop-i-test.true c.index-commands-i.is))
