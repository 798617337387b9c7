use Rattle.std.proofs.Common.{◌≡◌, ◌+◌, ◌≤◌, ◌++◌, length}
use Rattle.page_cache.specs.PageCache.{stands_as, newest_first}
use Rattle.page_cache.proofs.caches.PageCache.pages.Given as goal

abbrev pub invariant-loop-page : goal.invariant-loop-page
invariant-loop-page l =
    (l.pages.items ++ newest_first (stands_as l.which l.span) l.page-iterator ≡ newest_first (stands_as l.which l.span) l.self.entries)
    × (length l.pages.items + length l.page-iterator ≤ length l.self.entries)
