use Rattle.std.proofs.Common.{ap, sym, ◌∙◌}
use Rattle.rack_file.specs.Keys.{within}
use Rattle.rack_file.proofs.Walks.{count-view}
use Rattle.rack_file.proofs.keys.has_count.Goals as goal

pub returns-clause-count : goal.returns-clause-count
returns-clause-count c = c.is_within.ensures.count ∙ ap (within c.args.low c.args.high) (sym (count-view c.args.values.now))
