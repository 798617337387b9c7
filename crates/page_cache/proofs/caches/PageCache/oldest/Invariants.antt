use Rattle.std.proofs.Common.{◌≡◌, None}
use Rattle.page_cache.specs.PageCache.{stands_as}
use Rattle.page_cache.proofs.Laws.{last_from}
use Rattle.page_cache.proofs.caches.PageCache.oldest.Given as goal

abbrev pub invariant-loop-page : goal.invariant-loop-page
invariant-loop-page l = last_from (stands_as l.which l.span) l.oldest l.page-iterator ≡ last_from (stands_as l.which l.span) None l.self.entries
