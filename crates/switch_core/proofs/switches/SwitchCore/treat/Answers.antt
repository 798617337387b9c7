use Rattle.std.proofs.Common.{◌≡◌, Some, None, true, false, ap, sym, subst, ◌∙◌}
use Rattle.std.proofs.lemmas.List.{append-nil}
use Rattle.std.proofs.lemmas.Result.{on_ok_weaker}
use Rattle.mind_base.specs.Permission.{allows}
use Rattle.protect_table.specs.Protect.{permission_at}
use Rattle.switch_core.specs.Standing.{InPass}
use Rattle.switch_core.specs.Switch.{SwitchView}
use Rattle.switch_core.specs.Treating.{entry_for, treated}
use Rattle.switch_core.specs.declared.stands.Stand.{Stand}
use Rattle.switch_core.proofs.Going.{goes-denied, goes-entry}
use Rattle.switch_core.proofs.Passing.{treatable}
use Rattle.switch_core.proofs.switches.SwitchCore.treat.Goals as goal

pub returns-then-not-allows-clause-goes_on : goal.returns-then-not-allows-clause-goes_on
returns-then-not-allows-clause-goes_on c = λ start pass h.
    let s : SwitchView = c.args.self.now in
    let denied-there : allows c.args.visit.now.request.write (permission_at s.protect c.args.visit.now.request.page) ≡ false =
    ap (λ (v : SwitchView). allows c.args.visit.now.request.write (permission_at v.protect c.args.visit.now.request.page)) (sym c.self.view_is) ∙ ap (allows c.args.visit.now.request.write) (sym c.perm.ensures) ∙ sym c.allows.ensures ∙ c.if-not-allows.true in
    subst (λ (x : Stand). InPass start (treated c.args.visit.now.request pass) c.deny.new.self x c.deny.new.out.items c.args.log.now.notes) (sym c.change.ensures)
    (goes-denied start pass s c.args.visit.now.stand c.args.out.now.items c.args.log.now.notes h c.deny.new.self c.deny.new.out.items c.args.log.now.notes c.args.visit.now.request c.if-r.false denied-there c.in_ok-deny.ensures.was c.requires.place
    c.in_ok-deny.ensures.switch c.in_ok-deny.ensures.sent (sym (append-nil c.args.log.now.notes)))

pub treat_found-requires-clause-treatable : goal.treat_found-requires-clause-treatable
treat_found-requires-clause-treatable c =
    treatable c.args.visit.now.stand c.args.visit.now.request c.self.view_is c.self.invariant.requests c.requires.at c.requires.place c.if-r.false
    (ap (allows c.args.visit.now.request.write) (sym c.perm.ensures) ∙ sym c.allows.ensures ∙ c.if-not-allows.false)

pub treat_missing-requires-clause-treatable : goal.treat_missing-requires-clause-treatable
treat_missing-requires-clause-treatable c =
    treatable c.args.visit.now.stand c.args.visit.now.request c.self.view_is c.self.invariant.requests c.requires.at c.requires.place c.if-r.false
    (ap (allows c.args.visit.now.request.write) (sym c.perm.ensures) ∙ sym c.allows.ensures ∙ c.if-not-allows.false)

pub returns-in-Some-clause-goes_on : goal.returns-in-Some-clause-goes_on
returns-in-Some-clause-goes_on c =
    let s : SwitchView = c.args.self.now in
    let allowed : allows c.args.visit.now.request.write (permission_at s.protect c.args.visit.now.request.page) ≡ true =
    ap (λ (v : SwitchView). allows c.args.visit.now.request.write (permission_at v.protect c.args.visit.now.request.page)) (sym c.self.view_is) ∙ ap (allows c.args.visit.now.request.write) (sym c.perm.ensures) ∙ sym c.allows.ensures ∙ c.if-not-allows.false in
    let entry : entry_for c.args.visit.now.request.page s.directory.entries ≡ Some c.in-Some.i = ap (λ (v : SwitchView). entry_for c.args.visit.now.request.page v.directory.entries) (sym c.self.view_is) ∙ sym c.in-Some.ensures.first in
    on_ok_weaker c.treat_found.result
    (λ goes start pass h. goes-entry start pass s c.args.visit.now.stand c.args.out.now.items c.args.log.now.notes h c.treat_found.new.self c.treat_found.new.visit.stand c.treat_found.new.out.items c.treat_found.new.log.notes c.args.visit.now.request (Some c.in-Some.i) c.if-r.false allowed entry (goes start pass h))
    c.treat_found.ensures.goes_on

pub returns-in-None-clause-goes_on : goal.returns-in-None-clause-goes_on
returns-in-None-clause-goes_on c =
    let s : SwitchView = c.args.self.now in
    let allowed : allows c.args.visit.now.request.write (permission_at s.protect c.args.visit.now.request.page) ≡ true =
    ap (λ (v : SwitchView). allows c.args.visit.now.request.write (permission_at v.protect c.args.visit.now.request.page)) (sym c.self.view_is) ∙ ap (allows c.args.visit.now.request.write) (sym c.perm.ensures) ∙ sym c.allows.ensures ∙ c.if-not-allows.false in
    let entry : entry_for c.args.visit.now.request.page s.directory.entries ≡ None = ap (λ (v : SwitchView). entry_for c.args.visit.now.request.page v.directory.entries) (sym c.self.view_is) ∙ sym c.in-None.ensures.first in
    on_ok_weaker c.treat_missing.result
    (λ goes start pass h. goes-entry start pass s c.args.visit.now.stand c.args.out.now.items c.args.log.now.notes h c.treat_missing.new.self c.treat_missing.new.visit.stand c.treat_missing.new.out.items c.treat_missing.new.log.notes c.args.visit.now.request None c.if-r.false allowed entry (goes start pass h))
    c.treat_missing.ensures.goes_on
