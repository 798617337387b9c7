use Rattle.std.proofs.Common.{◌≡◌, ◌<◌, length, ap, subst, sym, ◌∙◌, arith}
use Rattle.std.specs.List.{insert}
use Rattle.mind_base.specs.Range.{RangeView, IsRange}
use Rattle.region_directory.specs.Directory.{DirectoryView}
use Rattle.region_directory.specs.Entry.{MeetsNone, entry_place, fresh_entry}
use Rattle.region_directory.proofs.OrderLemmas.{IsDirectory-insert}
use Rattle.region_directory.proofs.directories.Directory.insert.Goals as goal

pub returns-clause-valid : goal.returns-clause-valid
returns-clause-valid c =
    let es = c.self.inside.entries.items in
    let space : length es < c.self.inside.slots = subst (λ (v : DirectoryView). length v.entries < v.slots) (sym c.self.view_is) c.requires.space in
    let free : MeetsNone es c.args.range = subst (λ (v : DirectoryView). MeetsNone v.entries c.args.range) (sym c.self.view_is) c.requires.free in
    let place : c.place_for-place.result ≡ entry_place es c.args.range = c.place_for-place.ensures.place ∙ ap (λ xs. entry_place xs c.args.range) c.as_slice.ensures.value in
    let made : c.put_at.new.entries.items ≡ insert es (entry_place es c.args.range) (fresh_entry c.args.range) = c.put_at.ensures.entries ∙ ap (λ n. insert es n (fresh_entry c.args.range)) place in
    let block : IsRange c.args.range.domain c.args.range.base c.args.range.log = subst (λ (r : RangeView). IsRange r.domain r.base r.log) c.range.view_is c.range.invariant in
    IsDirectory-insert c.self.inside.slots c.self.inside.most es c.put_at.new.entries.items c.args.range space block free c.self.invariant.1 made

pub invariant_of-self : goal.invariant_of-self
invariant_of-self c =
    (omega (arith, c.self.invariant.0, c.put_at.ensures.capacity), returns-clause-valid c)
