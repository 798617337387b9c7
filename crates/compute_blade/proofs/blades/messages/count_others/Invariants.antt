use Rattle.std.proofs.Common.{◌≡◌, ◌+◌, ◌≤◌, not, filter, length, drop}
use Rattle.page_cache.specs.PageCache.{same_page}
use Rattle.compute_blade.proofs.blades.messages.count_others.Given as goal

abbrev pub invariant-loop-page : goal.invariant-loop-page
invariant-loop-page l =
    (l.count + length (filter (λ page. not (same_page l.asked page)) (drop l.page-index l.pages)) ≡ length (filter (λ page. not (same_page l.asked page)) l.pages))
    × (l.count ≤ l.page-index)
