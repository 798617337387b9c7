use Rattle.std.proofs.Common.{◌≡◌, None, ◌∙◌, rules}
use Rattle.page_cache.specs.PageCache.{stands_as}
use Rattle.page_cache.proofs.Laws.{last_from, last_from-oldest_of}
use Rattle.page_cache.proofs.caches.PageCache.oldest.Goals as goal

pub returns : goal.returns
returns c =
    let last : c.loop-page.oldest ≡ last_from (stands_as c.args.which c.args.span.now) None c.args.self.now.entries = search rules in
    last ∙ last_from-oldest_of (stands_as c.args.which c.args.span.now) c.args.self.now.entries
