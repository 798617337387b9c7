use Rattle.std.proofs.Common.{◌≡◌, ◌+◌, true, refl, ap, sym, subst, ◌∙◌}
use Rattle.switch_core.specs.Standing.{InPass}
use Rattle.switch_core.specs.Treating.{with_idle}
use Rattle.switch_core.specs.declared.stands.Stand.{Stand}
use Rattle.switch_core.proofs.Going.{goes-granted, goes-changed}
use Rattle.switch_core.proofs.Passing.{keeps-done, no-note, safe-changed}
use Rattle.switch_core.proofs.Safety.{safe-granted}
use Rattle.switch_core.proofs.switches.SwitchCore.treat_idle.Goals as goal

pub returns-then-grants-clause-goes_on : goal.returns-then-grants-clause-goes_on
returns-then-grants-clause-goes_on c = λ start pass h.
    let stand : Stand = c.args.visit.now.stand in
    let now : c.pass_by.new.self ≡ record stand { at = stand.at + 1; changed = true } = c.pass_by.ensures ∙ ap (λ (x : Stand). record x { at = x.at + 1 }) c.change.ensures in
    subst (λ (x : Stand). InPass start (with_idle c.args.visit.now.request c.args.i c.args.entry.now pass) c.grant.new.self x c.grant.new.out.items c.grant.new.log.notes) (sym now)
    (goes-granted start pass c.args.self.now stand c.args.out.now.items c.args.log.now.notes h c.grant.new.self c.grant.new.out.items c.grant.new.log.notes c.args.visit.now.request c.args.i c.args.entry.now
    (sym c.grants.ensures ∙ c.if-grants.true) c.in_ok-grant.ensures.was c.requires.treatable.place c.requires.treatable.waits c.requires.treatable.allowed c.requires.entry c.in_ok-grant.ensures.switch c.in_ok-grant.ensures.sent c.in_ok-grant.ensures.noted)

pub returns-then-grants-clause-keeps : goal.returns-then-grants-clause-keeps
returns-then-grants-clause-keeps c =
    keeps-done c.args.self.now c.grant.new.self _ c.args.out.now.items c.grant.new.out.items c.args.log.now.notes c.grant.new.log.notes
    (safe-granted c.args.self.now c.args.visit.now.request c.args.visit.now.stand.at c.args.i c.args.entry.now c.in_ok-grant.ensures.was c.requires.treatable.place c.requires.treatable.allowed c.requires.entry)
    c.in_ok-grant.ensures.switch c.in_ok-grant.ensures.sent c.in_ok-grant.ensures.noted

pub returns-clause-goes_on : goal.returns-clause-goes_on
returns-clause-goes_on c = λ start pass h.
    let stand : Stand = c.args.visit.now.stand in
    let now : c.pass_by-2.new.self ≡ record stand { at = stand.at + 1; changed = true } = c.pass_by-2.ensures ∙ ap (λ (x : Stand). record x { at = x.at + 1 }) c.change-2.ensures in
    subst (λ (x : Stand). InPass start (with_idle c.args.visit.now.request c.args.i c.args.entry.now pass) c.change_for.new.self x c.change_for.new.out.items c.args.log.now.notes) (sym now)
    (goes-changed start pass c.args.self.now stand c.args.out.now.items c.args.log.now.notes h c.change_for.new.self c.change_for.new.out.items c.args.log.now.notes c.args.visit.now.request c.args.i c.args.entry.now
    (sym c.grants.ensures ∙ c.if-grants.false) (sym c.is_fetched.ensures ∙ c.if-is_fetched.false) c.in_ok-change_for.ensures.was c.requires.treatable.place c.requires.entry c.requires.idle c.requires.has c.in_ok-change_for.ensures.switch c.in_ok-change_for.ensures.sent
    (no-note c.args.self.now c.args.visit.now.request c.args.i c.args.entry.now c.args.entry.now.state c.args.log.now.notes))

pub returns-clause-keeps : goal.returns-clause-keeps
returns-clause-keeps c =
    keeps-done c.args.self.now c.change_for.new.self _ c.args.out.now.items c.change_for.new.out.items c.args.log.now.notes c.args.log.now.notes
    (safe-changed c.args.self.now c.args.visit.now.request c.args.visit.now.stand.at c.args.i c.args.entry.now c.args.entry.now.state refl c.in_ok-change_for.ensures.was c.requires.treatable.place c.requires.entry c.requires.idle c.requires.has (sym c.grants.ensures ∙ c.if-grants.false))
    c.in_ok-change_for.ensures.switch c.in_ok-change_for.ensures.sent
    (no-note c.args.self.now c.args.visit.now.request c.args.i c.args.entry.now c.args.entry.now.state c.args.log.now.notes)
