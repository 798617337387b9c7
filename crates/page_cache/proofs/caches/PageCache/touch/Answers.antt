use Rattle.std.proofs.Common.{rules}
use Rattle.page_cache.proofs.Laws.{touched}
use Rattle.page_cache.proofs.caches.PageCache.touch.Goals as goal

pub returns-clause-entries : goal.returns-clause-entries
returns-clause-entries c = search (rules, touched)
