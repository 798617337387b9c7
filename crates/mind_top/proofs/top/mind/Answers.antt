use Rattle.mind_top.specs.declared.words.Output.TheVariants.{Report, Journal}
use Rattle.mind_top.proofs.Clauses.{run-done, check-done, make-done, load-done, asm-done, dis-done, form-leaves, run-stops, usage-answered, told-where-held}
use Rattle.mind_top.proofs.top.mind.Goals as goal

pub returns-clause-headline : goal.returns-clause-headline
returns-clause-headline g c = run-done (g.S.Store.holds c.args.store.now) _ (record { log = c.top-status.new.log.notes; end = c.top-status.result.1 }) _ _ _ _ c.top-status.result.0 Report c.top-status.ensures.ends

pub returns-clause-journal : goal.returns-clause-journal
returns-clause-journal g c = run-done (g.S.Store.holds c.args.store.now) _ (record { log = c.top-status.new.log.notes; end = c.top-status.result.1 }) _ _ _ _ c.top-status.result.0 Journal c.top-status.ensures.ends

pub returns-clause-check : goal.returns-clause-check
returns-clause-check g c = check-done (g.S.Store.holds c.args.store.now) _ (record { log = c.top-status.new.log.notes; end = c.top-status.result.1 }) _ _ _ _ c.top-status.result.0 c.top-status.ensures.ends

pub returns-clause-usage_due : goal.returns-clause-usage_due
returns-clause-usage_due g c = usage-answered (g.S.Store.holds c.args.store.now) _ (record { log = c.top-status.new.log.notes; end = c.top-status.result.1 }) _ _ _ _ c.top-status.result.0 c.top-status.ensures.ends

pub returns-clause-told : goal.returns-clause-told
returns-clause-told g c = told-where-held (g.S.Store.holds c.args.store.now) _ (record { log = c.top-status.new.log.notes; end = c.top-status.result.1 }) _ _ _ _ c.top-status.result.0 c.top-status.ensures.ends

pub returns-clause-leaves : goal.returns-clause-leaves
returns-clause-leaves g c = form-leaves (g.S.Store.holds c.args.store.now) _ (record { log = c.top-status.new.log.notes; end = c.top-status.result.1 }) _ _ _ _ c.top-status.result.0 c.top-status.ensures.ends

pub returns-clause-spent : goal.returns-clause-spent
returns-clause-spent g c = run-stops (g.S.Store.holds c.args.store.now) _ (record { log = c.top-status.new.log.notes; end = c.top-status.result.1 }) _ _ _ _ c.top-status.result.0 c.top-status.ensures.ends

pub returns-clause-make : goal.returns-clause-make
returns-clause-make g c = make-done (g.S.Store.holds c.args.store.now) _ (record { log = c.top-status.new.log.notes; end = c.top-status.result.1 }) _ _ _ _ c.top-status.result.0 c.top-status.ensures.ends

pub returns-clause-load : goal.returns-clause-load
returns-clause-load g c = load-done (g.S.Store.holds c.args.store.now) _ (record { log = c.top-status.new.log.notes; end = c.top-status.result.1 }) _ _ _ _ c.top-status.result.0 c.top-status.ensures.ends

pub returns-clause-asm : goal.returns-clause-asm
returns-clause-asm g c = asm-done (g.S.Store.holds c.args.store.now) _ (record { log = c.top-status.new.log.notes; end = c.top-status.result.1 }) _ _ _ _ c.top-status.result.0 c.top-status.ensures.ends

pub returns-clause-dis : goal.returns-clause-dis
returns-clause-dis g c = dis-done (g.S.Store.holds c.args.store.now) _ (record { log = c.top-status.new.log.notes; end = c.top-status.result.1 }) _ _ _ _ c.top-status.result.0 c.top-status.ensures.ends
