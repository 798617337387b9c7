use Rattle.std.proofs.Common.{◌+◌, ◌∙◌, length, sym, arith}
use Rattle.std.proofs.lemmas.Result.{err_from_is_err_and}
use Rattle.std.proofs.lemmas.Bool.{eqb-true}
use Rattle.plain_text.proofs.Callers.{goes_on, stops, ends}
use Rattle.rv32_text.specs.Found.{found_in}
use Rattle.rv32_text.specs.Meaning.{items_after_line}
use Rattle.rv32_text.proofs.reading.items_in.Goals as goal

pub returns-in_err-add_line-clause-exact : goal.returns-in_err-add_line-clause-exact
returns-in_err-add_line-clause-exact c =
    let p = err_from_is_err_and c.from_residual.result c.from_residual.ensures.1 in
    rw (p.1, p.2) (stops c.in_err-add_line.field-0.0 (items_after_line (found_in c.args.labels.now)) (c.loop-rest.line + 1) c.loop-rest.items.items c.loop-rest.rest.now _ c.split_line.result.1.now _ c.split_line.ensures.lines c.loop-rest.invariant.same c.in_err-add_line.ensures.added)

pub loop-rest-preserved : goal.loop-rest-preserved
loop-rest-preserved c =
    record {
      same = goes_on (items_after_line (found_in c.args.labels.now)) (c.loop-rest.line + 1) c.loop-rest.items.items c.loop-rest.rest.now _ c.split_line.result.1.now _ _ c.split_line.ensures.lines c.loop-rest.invariant.same c.in_ok-add_line.ensures.added;
      fit = c.in_ok-add_line.ensures.fit;
      few = c.in_ok-add_line.ensures.few;
      consumed = omega (arith, c.split_line.ensures.rest);
    }

pub returns-clause-exact : goal.returns-clause-exact
returns-clause-exact c =
    ends (items_after_line (found_in c.args.labels.now)) (c.loop-rest.line + 1) c.loop-rest.items.items c.loop-rest.rest.now _ (eqb-true (length c.loop-rest.rest.now) 0 (sym c.is_empty.ensures ∙ c.loop-rest-test.false)) c.loop-rest.invariant.same
