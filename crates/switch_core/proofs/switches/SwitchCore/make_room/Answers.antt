use Rattle.std.proofs.Common.{◌≡◌, ◌+◌, ◌<◌, ℕ, Some, true, length, ap, sym, subst, ◌∙◌, inl, inr, arith}
use Rattle.std.specs.List.{slice_get, remove}
use Rattle.std.proofs.lemmas.List.{append-nil}
use Rattle.std.proofs.lemmas.List.Edits.{length-remove}
use Rattle.std.proofs.lemmas.Option.{slice_get_within}
use Rattle.std.proofs.lemmas.Result.{on_ok_weaker}
use Rattle.mind_base.specs.Page.{PageView}
use Rattle.mind_base.specs.Range.{InRange}
use Rattle.region_directory.specs.Entry.{NoneHas}
use Rattle.region_directory.specs.Room.{room_of}
use Rattle.region_directory.specs.declared.entries.Entry.{Entry}
use Rattle.switch_core.specs.Standing.{InPass, IsTreatable}
use Rattle.switch_core.specs.Switch.{SwitchView}
use Rattle.switch_core.specs.Treating.{cleared, does, dropped, with_room}
use Rattle.switch_core.specs.declared.stands.Stand.{Stand}
use Rattle.switch_core.proofs.Going.{room_in, IsDropped, is-dropped, IsEvicted, is-evicted, in-dropped, goes-dropped, goes-evicted, goes-merged, goes-roomless}
use Rattle.switch_core.proofs.Passing.{all-left, keeps-done, keeps-then}
use Rattle.switch_core.proofs.Safety.{safe-dropped, safe-cleared}
use Rattle.switch_core.proofs.switches.SwitchCore.make_room.Goals as goal

pub treat_new-requires-clause-treatable : goal.treat_new-requires-clause-treatable
treat_new-requires-clause-treatable c =
    let h = c.requires.treatable in
    subst (λ (v : SwitchView). IsTreatable v c.change.new.self c.args.visit.now.request) (sym c.in_ok-remove_entry-in-Drop.ensures.switch)
    (subst (λ (x : Stand). IsTreatable (dropped c.in-Drop.index c.entry-entry.result c.args.self.now).switch x c.args.visit.now.request) (sym c.change.ensures)
    (record { at = h.at; place = h.place; blade = h.blade; waits = h.waits; allowed = h.allowed }))

pub treat_new-requires-clause-none : goal.treat_new-requires-clause-none
treat_new-requires-clause-none c =
    let es = c.args.self.now.directory.entries in
    let page : PageView = c.args.visit.now.request.page in
    subst (λ (v : SwitchView). NoneHas v.directory.entries page) (sym c.in_ok-remove_entry-in-Drop.ensures.switch)
    (all-left (λ entry. InRange entry.range page → ⊥) es c.in-Drop.index c.requires.none)

pub treat_new-requires-clause-space : goal.treat_new-requires-clause-space
treat_new-requires-clause-space c =
    let s : SwitchView = c.args.self.now in
    let i : ℕ = c.in-Drop.index in
    let entry : Entry = c.entry-entry.result in
    let found : slice_get s.directory.entries i ≡ Some entry = subst (λ (v : SwitchView). slice_get v.directory.entries i ≡ Some entry) c.self.view_is c.entry-entry.ensures.entry in
    let space : length (remove s.directory.entries i) < s.directory.slots = omega (arith, length-remove s.directory.entries i (slice_get_within s.directory.entries i entry found), c.requires.full) in
    subst (λ (v : SwitchView). length v.directory.entries < v.directory.slots) (sym c.in_ok-remove_entry-in-Drop.ensures.switch) space

pub clear-requires-clause-idle : goal.clear-requires-clause-idle
clear-requires-clause-idle c = (is-evicted c.self.view_is c.self.invariant.entries c.entry-entry-in-Evict.ensures.entry c.in-Evict.ensures.room c.fetching_pages.ensures.pages).idle

pub clear-requires-clause-held : goal.clear-requires-clause-held
clear-requires-clause-held c = (is-evicted c.self.view_is c.self.invariant.entries c.entry-entry-in-Evict.ensures.entry c.in-Evict.ensures.room c.fetching_pages.ensures.pages).held

pub returns-in_ok-remove_entry-in-Drop-clause-goes_on : goal.returns-in_ok-remove_entry-in-Drop-clause-goes_on
returns-in_ok-remove_entry-in-Drop-clause-goes_on c =
    let s : SwitchView = c.args.self.now in
    let entry : Entry = c.entry-entry.result in
    let d : IsDropped s c.in-Drop.index entry = is-dropped c.self.view_is c.entry-entry.ensures.entry c.in-Drop.ensures.room c.fetching_pages.ensures.pages in
    on_ok_weaker c.treat_new.result
    (λ goes start pass h.
    let s1 : SwitchView = c.remove_entry.new.self in
    let inside : InPass start (does (dropped c.in-Drop.index entry) pass) s1 c.change.new.self c.args.out.now.items c.remove_entry.new.log.notes =
    subst (λ (x : Stand). InPass start (does (dropped c.in-Drop.index entry) pass) s1 x c.args.out.now.items c.remove_entry.new.log.notes) (sym c.change.ensures)
    (in-dropped start pass s c.args.visit.now.stand c.args.out.now.items c.args.log.now.notes h s1 c.remove_entry.new.log.notes c.in-Drop.index entry c.in_ok-remove_entry-in-Drop.ensures.was d.found d.idle c.in_ok-remove_entry-in-Drop.ensures.switch c.in_ok-remove_entry-in-Drop.ensures.noted) in
    goes-dropped start pass s c.args.visit.now.stand c.args.out.now.items c.args.log.now.notes h c.treat_new.new.self c.treat_new.new.visit.stand c.treat_new.new.out.items c.treat_new.new.log.notes c.args.visit.now.request (room_in s) c.in-Drop.index entry d.room d.found
    (goes start (does (dropped c.in-Drop.index entry) pass) inside))
    c.treat_new.ensures.goes_on

pub returns-in_ok-remove_entry-in-Drop-clause-keeps : goal.returns-in_ok-remove_entry-in-Drop-clause-keeps
returns-in_ok-remove_entry-in-Drop-clause-keeps c =
    let s : SwitchView = c.args.self.now in
    let entry : Entry = c.entry-entry.result in
    let d : IsDropped s c.in-Drop.index entry = is-dropped c.self.view_is c.entry-entry.ensures.entry c.in-Drop.ensures.room c.fetching_pages.ensures.pages in
    keeps-then s c.remove_entry.new.self c.treat_new.new.self c.args.out.now.items c.args.out.now.items c.treat_new.new.out.items c.args.log.now.notes c.remove_entry.new.log.notes c.treat_new.new.log.notes
    (keeps-done s c.remove_entry.new.self (dropped c.in-Drop.index entry s) c.args.out.now.items c.args.out.now.items c.args.log.now.notes c.remove_entry.new.log.notes
    (safe-dropped s c.in-Drop.index entry c.in_ok-remove_entry-in-Drop.ensures.was d.found d.idle) c.in_ok-remove_entry-in-Drop.ensures.switch (sym (append-nil c.args.out.now.items)) c.in_ok-remove_entry-in-Drop.ensures.noted)
    c.treat_new.ensures.keeps

pub returns-in_ok-clear-in-Evict-clause-goes_on : goal.returns-in_ok-clear-in-Evict-clause-goes_on
returns-in_ok-clear-in-Evict-clause-goes_on c = λ start pass h.
    let s : SwitchView = c.args.self.now in
    let entry : Entry = c.entry-entry-in-Evict.result in
    let e : IsEvicted s c.in-Evict.index entry = is-evicted c.self.view_is c.self.invariant.entries c.entry-entry-in-Evict.ensures.entry c.in-Evict.ensures.room c.fetching_pages.ensures.pages in
    let stand : Stand = c.args.visit.now.stand in
    let now : c.block.new.self ≡ record stand { at = stand.at + 1; blocked = true; changed = true } = c.block.ensures ∙ ap (λ (x : Stand). record x { at = x.at + 1; blocked = true }) c.change-in-Evict.ensures in
    subst (λ (x : Stand). InPass start (with_room c.args.visit.now.request (room_in s) pass) c.clear.new.self x c.clear.new.out.items c.args.log.now.notes) (sym now)
    (goes-evicted start pass s stand c.args.out.now.items c.args.log.now.notes h c.clear.new.self c.clear.new.out.items c.args.log.now.notes c.args.visit.now.request (room_in s) c.in-Evict.index entry e.room c.in_ok-clear-in-Evict.ensures.was e.found e.idle e.held
    c.in_ok-clear-in-Evict.ensures.switch c.in_ok-clear-in-Evict.ensures.sent (sym (append-nil c.args.log.now.notes)))

pub returns-in_ok-clear-in-Evict-clause-keeps : goal.returns-in_ok-clear-in-Evict-clause-keeps
returns-in_ok-clear-in-Evict-clause-keeps c =
    let s : SwitchView = c.args.self.now in
    let entry : Entry = c.entry-entry-in-Evict.result in
    let e : IsEvicted s c.in-Evict.index entry = is-evicted c.self.view_is c.self.invariant.entries c.entry-entry-in-Evict.ensures.entry c.in-Evict.ensures.room c.fetching_pages.ensures.pages in
    keeps-done s c.clear.new.self (cleared c.in-Evict.index entry s) c.args.out.now.items c.clear.new.out.items c.args.log.now.notes c.args.log.now.notes
    (safe-cleared s c.in-Evict.index entry c.in_ok-clear-in-Evict.ensures.was e.found e.idle e.held)
    c.in_ok-clear-in-Evict.ensures.switch c.in_ok-clear-in-Evict.ensures.sent (sym (append-nil c.args.log.now.notes))

pub returns-in-Merge-clause-goes_on : goal.returns-in-Merge-clause-goes_on
returns-in-Merge-clause-goes_on c = λ start pass h.
    let s : SwitchView = c.args.self.now in
    let stand : Stand = c.args.visit.now.stand in
    let room : room_in s ≡ c.room.result = sym (c.room.ensures.room ∙ ap (room_of c.self.inside.directory) c.fetching_pages.ensures.pages ∙ ap room_in c.self.view_is) in
    let blocked : InPass start (with_room c.args.visit.now.request (room_in s) pass) s (record stand { at = stand.at + 1; blocked = true }) c.args.out.now.items c.args.log.now.notes =
    elim c.in-Merge.is [
      | inl merge ↦ goes-merged start pass s stand c.args.out.now.items c.args.log.now.notes h c.args.visit.now.request (room_in s) merge.0 (room ∙ merge.1)
      | inr wait ↦ goes-roomless start pass s stand c.args.out.now.items c.args.log.now.notes h c.args.visit.now.request (room_in s) (room ∙ wait)
    ] in
    subst (λ (x : Stand). InPass start (with_room c.args.visit.now.request (room_in s) pass) s x c.args.out.now.items c.args.log.now.notes) (sym c.block-in-Merge.ensures) blocked
