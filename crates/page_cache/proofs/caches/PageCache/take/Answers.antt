use Rattle.std.proofs.Common.{rules}
use Rattle.page_cache.proofs.Laws.{taken_none}
use Rattle.page_cache.proofs.caches.PageCache.take.Goals as goal

pub returns-clause-none : goal.returns-clause-none
returns-clause-none c = taken_none c.args.page c.args.self.now _ c.pop-frame.result (search rules) (search rules)
