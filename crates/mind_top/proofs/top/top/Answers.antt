use Rattle.std.proofs.Common.{refl, None}
use Rattle.mind_top.specs.Words.{usage_line}
use Rattle.mind_top.specs.declared.statuses.Status.TheVariants as status
use Rattle.mind_top.proofs.Ends.{said, with-nothing, run-answered, load-answered}
use Rattle.mind_top.proofs.Forms.{asked-as, no-form}
use Rattle.mind_top.proofs.Outside.{stays-any, run-stays, load-stays}
use Rattle.mind_top.proofs.top.top.Goals as goal

pub returns-in-None-clause-ends : goal.returns-in-None-clause-ends
returns-in-None-clause-ends g c =
    said (g.S.Store.holds c.args.store.now) _ (record { log = c.args.log.now.notes; end = None }) _ _ _ _ usage_line status.Usage c.say.result (c.in-None.ensures.asked, (c.requires.empty, refl), refl) c.say.ensures.says

pub returns-in-Some-Run-clause-ends : goal.returns-in-Some-Run-clause-ends
returns-in-Some-Run-clause-ends g c =
    run-answered (g.S.Store.holds c.args.store.now) _ _ _ c.load-loaded.result (record { log = c.run_loaded.new.log.notes; end = c.run_loaded.result.1 }) _ _ _ _ c.run_loaded.result.0
    (asked-as _ _ _ c.in-Some-Run.field-0-is c.in-Some-Run.ensures.asked) c.load-loaded.ensures.loads c.run_loaded.ensures.ends

pub returns-in-Some-Check-clause-ends : goal.returns-in-Some-Check-clause-ends
returns-in-Some-Check-clause-ends g c =
    with-nothing (g.S.Store.holds c.args.store.now) _ c.args.log.now.notes _ _ _ _ c.answer_check-status.result c.requires.empty
    (c.answer_check-status.ensures.answers _ (asked-as _ _ _ c.in-Some-Check.field-0-is c.in-Some-Check.ensures.asked))

pub returns-in-Some-Make-clause-ends : goal.returns-in-Some-Make-clause-ends
returns-in-Some-Make-clause-ends g c =
    with-nothing (g.S.Store.holds c.args.store.now) _ c.args.log.now.notes _ _ _ _ c.answer_make-status.result c.requires.empty
    (c.answer_make-status.ensures.answers _ (asked-as _ _ _ c.in-Some-Make.field-0-is c.in-Some-Make.ensures.asked))

pub returns-in-Some-Load-clause-ends : goal.returns-in-Some-Load-clause-ends
returns-in-Some-Load-clause-ends g c =
    load-answered (g.S.Store.holds c.args.store.now) _ _ _ _ c.load_made-loaded.result (record { log = c.run_loaded-in-Some-Load.new.log.notes; end = c.run_loaded-in-Some-Load.result.1 }) _ _ _ _ c.run_loaded-in-Some-Load.result.0
    (asked-as _ _ _ c.in-Some-Load.field-0-is c.in-Some-Load.ensures.asked) c.load_made-loaded.ensures.loads c.run_loaded-in-Some-Load.ensures.ends

pub returns-in-Some-Asm-clause-ends : goal.returns-in-Some-Asm-clause-ends
returns-in-Some-Asm-clause-ends g c =
    with-nothing (g.S.Store.holds c.args.store.now) _ c.args.log.now.notes _ _ _ _ c.answer_asm-status.result c.requires.empty
    (c.answer_asm-status.ensures.answers _ (asked-as _ _ _ c.in-Some-Asm.field-0-is c.in-Some-Asm.ensures.asked))

pub returns-in-Some-Dis-clause-ends : goal.returns-in-Some-Dis-clause-ends
returns-in-Some-Dis-clause-ends g c =
    with-nothing (g.S.Store.holds c.args.store.now) _ c.args.log.now.notes _ _ _ _ c.answer_dis-status.result c.requires.empty
    (c.answer_dis-status.ensures.answers _ (asked-as _ _ _ c.in-Some-Dis.field-0-is c.in-Some-Dis.ensures.asked))

pub returns-in-None-clause-steady : goal.returns-in-None-clause-steady
returns-in-None-clause-steady g c = stays-any _ _ _ _ (refl, refl) c.say.result

pub returns-in-Some-Run-clause-steady : goal.returns-in-Some-Run-clause-steady
returns-in-Some-Run-clause-steady g c =
    run-stays (g.S.Store.holds c.args.store.now) _ _ _ c.load-loaded.result (record { log = c.run_loaded.new.log.notes; end = c.run_loaded.result.1 }) _ _ _ _ _ _ _ _ c.run_loaded.result.0
    (asked-as _ _ _ c.in-Some-Run.field-0-is c.in-Some-Run.ensures.asked) c.load-loaded.ensures.loads c.run_loaded.ensures.ends

pub returns-in-Some-Load-clause-steady : goal.returns-in-Some-Load-clause-steady
returns-in-Some-Load-clause-steady g c =
    load-stays (g.S.Store.holds c.args.store.now) _ _ _ _ c.load_made-loaded.result (record { log = c.run_loaded-in-Some-Load.new.log.notes; end = c.run_loaded-in-Some-Load.result.1 }) _ _ _ _ _ _ _ _ c.run_loaded-in-Some-Load.result.0
    (asked-as _ _ _ c.in-Some-Load.field-0-is c.in-Some-Load.ensures.asked) c.load_made-loaded.ensures.loads c.run_loaded-in-Some-Load.ensures.ends

pub returns-in-Some-Run-clause-unread : goal.returns-in-Some-Run-clause-unread
returns-in-Some-Run-clause-unread g c none = absurd (no-form _ _ none c.in-Some-Run.ensures.asked)

pub returns-in-Some-Check-clause-unread : goal.returns-in-Some-Check-clause-unread
returns-in-Some-Check-clause-unread g c none = absurd (no-form _ _ none c.in-Some-Check.ensures.asked)

pub returns-in-Some-Make-clause-unread : goal.returns-in-Some-Make-clause-unread
returns-in-Some-Make-clause-unread g c none = absurd (no-form _ _ none c.in-Some-Make.ensures.asked)

pub returns-in-Some-Load-clause-unread : goal.returns-in-Some-Load-clause-unread
returns-in-Some-Load-clause-unread g c none = absurd (no-form _ _ none c.in-Some-Load.ensures.asked)

pub returns-in-Some-Asm-clause-unread : goal.returns-in-Some-Asm-clause-unread
returns-in-Some-Asm-clause-unread g c none = absurd (no-form _ _ none c.in-Some-Asm.ensures.asked)

pub returns-in-Some-Dis-clause-unread : goal.returns-in-Some-Dis-clause-unread
returns-in-Some-Dis-clause-unread g c none = absurd (no-form _ _ none c.in-Some-Dis.ensures.asked)
