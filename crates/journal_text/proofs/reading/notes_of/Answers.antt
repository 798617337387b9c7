use Rattle.std.proofs.Common.{rules}
use Rattle.journal_text.proofs.Prefix.{Begins, next, none_else, whole_only, empty_of}
use Rattle.journal_text.proofs.reading.notes_of.Goals as goal

pub returns-in-None-clause-only : goal.returns-in-None-clause-only
returns-in-None-clause-only c = none_else c.args.lines.now c.loop-rest.log.notes c.loop-rest.rest.now c.loop-rest.line c.loop-rest.invariant (search rules) (search rules)

pub loop-rest-preserved : goal.loop-rest-preserved
loop-rest-preserved c =
    let begins : Begins c.loop-rest.rest.now c.in-Some.note c.in-Some.more.now = record {
      within = c.in-Some.ensures.found.0;
      front = c.in-Some.ensures.found.1;
      only = λ other behind within is. c.in-Some.ensures.only other behind within is;
    } in
    next c.args.lines.now c.loop-rest.log.notes c.loop-rest.rest.now c.loop-rest.line c.in-Some.note c.in-Some.more.now _ c.loop-rest.invariant begins c.in_ok-add-in-Some.ensures.ok

pub returns-clause-only : goal.returns-clause-only
returns-clause-only c = whole_only c.args.lines.now c.loop-rest.log.notes c.loop-rest.rest.now c.loop-rest.line c.loop-rest.invariant (empty_of c.loop-rest.rest.now (search rules))
