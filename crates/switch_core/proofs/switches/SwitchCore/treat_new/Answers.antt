use Rattle.std.proofs.Common.{◌≡◌, ◌+◌, ◌≤◌, Some, true, length, ap, sym, subst, ◌∙◌}
use Rattle.std.specs.List.{slice_get}
use Rattle.std.proofs.lemmas.List.{append-nil}
use Rattle.mind_base.specs.Permission.{allows}
use Rattle.protect_table.specs.Protect.{permission_at}
use Rattle.region_directory.specs.Entry.{MeetsNone, fresh_entry, entry_place}
use Rattle.switch_core.specs.Standing.{InPass}
use Rattle.switch_core.specs.Switch.{SwitchView}
use Rattle.switch_core.specs.Treating.{entered, enters, new_range}
use Rattle.switch_core.specs.declared.stands.Stand.{Stand}
use Rattle.switch_core.proofs.Going.{entered-found, goes-new}
use Rattle.switch_core.proofs.Passing.{keeps-done, keeps-same, keeps-then}
use Rattle.switch_core.proofs.Safety.{safe-entered, safe-granted}
use Rattle.switch_core.proofs.switches.SwitchCore.treat_new.Goals as goal

pub enter-requires-clause-free : goal.enter-requires-clause-free
enter-requires-clause-free c =
    subst (λ (v : SwitchView). MeetsNone v.directory.entries c.new_range-range.result) c.self.view_is c.new_range-range.ensures.free

pub grant-requires-clause-entry : goal.grant-requires-clause-entry
grant-requires-clause-entry c =
    let range = c.new_range-range.result in
    let place-is : c.place-place.result ≡ entry_place c.args.self.now.directory.entries range = c.place-place.ensures.place ∙ ap (λ (v : SwitchView). entry_place v.directory.entries range) c.self.view_is in
    let within : c.place-place.result ≤ length c.args.self.now.directory.entries = subst (λ (v : SwitchView). c.place-place.result ≤ length v.directory.entries) c.self.view_is c.place-place.ensures.within in
    entered-found c.args.self.now c.enter.new.self range c.place-place.result c.in_ok-enter.ensures.switch place-is within

pub returns-in_err-grant-clause-keeps : goal.returns-in_err-grant-clause-keeps
returns-in_err-grant-clause-keeps c =
    keeps-then c.args.self.now c.enter.new.self c.grant.new.self c.args.out.now.items c.args.out.now.items c.grant.new.out.items c.args.log.now.notes c.enter.new.log.notes c.grant.new.log.notes
    (keeps-done c.args.self.now c.enter.new.self (entered c.new_range-range.result c.args.self.now) c.args.out.now.items c.args.out.now.items c.args.log.now.notes c.enter.new.log.notes
    (safe-entered c.args.self.now c.new_range-range.result c.in_ok-enter.ensures.was c.requires.space) c.in_ok-enter.ensures.switch (sym (append-nil c.args.out.now.items)) c.in_ok-enter.ensures.noted)
    (keeps-same c.enter.new.self c.grant.new.self c.args.out.now.items c.grant.new.out.items c.enter.new.log.notes c.grant.new.log.notes c.in_err-grant.ensures.unchanged c.grant.ensures.out c.grant.ensures.log)

pub returns-clause-keeps : goal.returns-clause-keeps
returns-clause-keeps c =
    let range = c.new_range-range.result in
    let place-is : c.place-place.result ≡ entry_place c.args.self.now.directory.entries range = c.place-place.ensures.place ∙ ap (λ (v : SwitchView). entry_place v.directory.entries range) c.self.view_is in
    let within : c.place-place.result ≤ length c.args.self.now.directory.entries = subst (λ (v : SwitchView). c.place-place.result ≤ length v.directory.entries) c.self.view_is c.place-place.ensures.within in
    let found = entered-found c.args.self.now c.enter.new.self range c.place-place.result c.in_ok-enter.ensures.switch place-is within in
    let there : slice_get c.enter.new.self.requests c.args.visit.now.stand.at ≡ Some c.args.visit.now.request = ap (λ (v : SwitchView). slice_get v.requests c.args.visit.now.stand.at) c.in_ok-enter.ensures.switch ∙ c.requires.treatable.place in
    let allowed : allows c.args.visit.now.request.write (permission_at c.enter.new.self.protect c.args.visit.now.request.page) ≡ true = ap (λ (v : SwitchView). allows c.args.visit.now.request.write (permission_at v.protect c.args.visit.now.request.page)) c.in_ok-enter.ensures.switch ∙ c.requires.treatable.allowed in
    keeps-then c.args.self.now c.enter.new.self c.grant.new.self c.args.out.now.items c.args.out.now.items c.grant.new.out.items c.args.log.now.notes c.enter.new.log.notes c.grant.new.log.notes
    (keeps-done c.args.self.now c.enter.new.self (entered c.new_range-range.result c.args.self.now) c.args.out.now.items c.args.out.now.items c.args.log.now.notes c.enter.new.log.notes
    (safe-entered c.args.self.now c.new_range-range.result c.in_ok-enter.ensures.was c.requires.space) c.in_ok-enter.ensures.switch (sym (append-nil c.args.out.now.items)) c.in_ok-enter.ensures.noted)
    (keeps-done c.enter.new.self c.grant.new.self _ c.args.out.now.items c.grant.new.out.items c.enter.new.log.notes c.grant.new.log.notes
    (safe-granted c.enter.new.self c.args.visit.now.request c.args.visit.now.stand.at c.place-place.result (fresh_entry c.new_range-range.result) c.in_ok-grant.ensures.was there allowed found)
    c.in_ok-grant.ensures.switch c.in_ok-grant.ensures.sent c.in_ok-grant.ensures.noted)

pub returns-clause-goes_on : goal.returns-clause-goes_on
returns-clause-goes_on c = λ start pass h.
    let stand : Stand = c.args.visit.now.stand in
    let range = c.new_range-range.result in
    let now : c.pass_by.new.self ≡ record stand { at = stand.at + 1; changed = true } = c.pass_by.ensures ∙ ap (λ (x : Stand). record x { at = x.at + 1 }) c.change.ensures in
    let range-is : range ≡ new_range c.args.visit.now.request.page c.args.self.now = c.new_range-range.ensures.new ∙ ap (new_range c.args.visit.now.request.page) c.self.view_is in
    let place-is : c.place-place.result ≡ entry_place c.args.self.now.directory.entries range = c.place-place.ensures.place ∙ ap (λ (v : SwitchView). entry_place v.directory.entries range) c.self.view_is in
    let within : c.place-place.result ≤ length c.args.self.now.directory.entries = subst (λ (v : SwitchView). c.place-place.result ≤ length v.directory.entries) c.self.view_is c.place-place.ensures.within in
    subst (λ (x : Stand). InPass start (enters c.args.visit.now.request pass) c.grant.new.self x c.grant.new.out.items c.grant.new.log.notes) (sym now)
    (goes-new start pass c.args.self.now stand c.args.out.now.items c.args.log.now.notes h c.enter.new.self c.grant.new.self c.grant.new.out.items c.enter.new.log.notes c.grant.new.log.notes c.args.visit.now.request range c.place-place.result
    c.in_ok-enter.ensures.was c.requires.space c.requires.treatable.place c.requires.treatable.waits c.requires.treatable.allowed range-is place-is within c.in_ok-grant.ensures.was c.in_ok-enter.ensures.switch c.in_ok-enter.ensures.noted c.in_ok-grant.ensures.switch c.in_ok-grant.ensures.sent c.in_ok-grant.ensures.noted)
