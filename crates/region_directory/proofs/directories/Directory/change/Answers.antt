use Rattle.std.proofs.Common.{length, ap, ◌∙◌, arith, rules}
use Rattle.region_directory.specs.Directory.{DirectoryView}
use Rattle.region_directory.specs.Entry.{with_change}
use Rattle.region_directory.proofs.ChangeLemmas.{length-changed, with_change-range}
use Rattle.region_directory.proofs.OrderLemmas.{IsDirectory-changed}
use Rattle.region_directory.proofs.directories.Directory.change.Goals as goal

pub returns : goal.returns
returns c = record {
  changed = search rules;
  count = ap length c.change_one.ensures.entries ∙ length-changed c.args.i (with_change c.args.change) c.self.inside.entries.items ∙ ap (λ (v : DirectoryView). length v.entries) c.self.view_is;
  valid = IsDirectory-changed c.self.inside.slots c.self.inside.most c.args.i (with_change c.args.change) c.self.inside.entries.items c.change_one.new.entries.items (with_change-range c.args.change) c.self.invariant.1 c.change_one.ensures.entries;
}

pub invariant_of-self : goal.invariant_of-self
invariant_of-self c =
    (omega (arith, c.self.invariant.0, c.change_one.ensures.capacity), (returns c).valid)
