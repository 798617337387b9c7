use Rattle.std.proofs.Common.{◌≡◌, ap, ◌∙◌, rules}
use Rattle.lru.specs.LruCache.{displaced, put_entries}
use Rattle.page_cache.specs.PageCache.{same_page, put_of, put_kind_of, entries_after_put}
use Rattle.page_cache.proofs.Laws.{put_kind-displaced, put_entries-after_put}
use Rattle.page_cache.proofs.caches.PageCache.put.Goals as goal

pub returns-clause-put : goal.returns-clause-put
returns-clause-put c =
    let out : c.in-Ok.displaced ≡ displaced same_page c.self.inside.held c.args.page c.args.frame = search rules in
    c.put_kind.ensures ∙ (ap (put_kind_of c.args.page) out ∙ (put_kind-displaced _ c.args.page c.args.frame ∙ ap (λ v. put_of v c.args.page) c.self.view_is))

pub returns-clause-ok : goal.returns-clause-ok
returns-clause-ok c =
    let out : c.push-pushed.new.self.entries ≡ put_entries same_page c.self.inside.held c.args.page c.args.frame = search rules in
    let entries : c.push-pushed.new.self.entries ≡ entries_after_put c.args.self.now c.args.page c.args.frame = out ∙ (put_entries-after_put _ c.args.page c.args.frame ∙ ap (λ v. entries_after_put v c.args.page c.args.frame) c.self.view_is) in
    let frames : c.push-pushed.new.self.cap ≡ c.args.self.now.frames = search rules in
    λ i. record { entries = entries i; frames = frames i }
