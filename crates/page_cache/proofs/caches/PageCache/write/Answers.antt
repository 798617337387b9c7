use Rattle.std.proofs.Common.{◌≡◌, ap, ◌∙◌, sym, true, Some, None}
use Rattle.std.specs.Map.{set_value}
use Rattle.lru.specs.LruCache.{promoted}
use Rattle.page_cache.specs.PageCache.{same_page, frame_of, with_first, written_frame}
use Rattle.page_cache.proofs.Laws.{set_value-promoted, with_first-absent}
use Rattle.page_cache.proofs.caches.PageCache.write.Goals as goal
use Rattle.page_cache.proofs.caches.PageCache.write.Goals.{in-Some, in-None}

pub returns-clause-entries : goal.returns-clause-entries
returns-clause-entries c =
    let was : c.self.inside.held.entries ≡ c.args.self.now.entries = ap (λ v. v.entries) c.self.view_is in
    let frames : c.self.inside.held.cap ≡ c.args.self.now.frames = ap (λ v. v.frames) c.self.view_is in
    elim c.match-get_mut.branch [
      | in-Some w ↦
          let found : frame_of c.args.page c.self.inside.held.entries ≡ Some w.in-Some.frame.now = sym w.in-Some.ensures.value in
          let written : set_value (same_page c.args.page) (promoted (same_page c.args.page) c.self.inside.held.entries) (record w.in-Some.frame.now { image = w.store.new.self; dirty = true }) ≡ with_first (written_frame c.args.offset c.args.size c.args.value c.args.tag) c.args.page c.self.inside.held.entries =
          ap (λ image. set_value (same_page c.args.page) (promoted (same_page c.args.page) c.self.inside.held.entries) (record w.in-Some.frame.now { image = image; dirty = true })) w.store.ensures.after
          ∙ set_value-promoted c.args.page c.self.inside.held.entries (written_frame c.args.offset c.args.size c.args.value c.args.tag) w.in-Some.frame.now found in
          let entries : c.match-get_mut.self-inside.held.entries ≡ with_first (written_frame c.args.offset c.args.size c.args.value c.args.tag) c.args.page c.args.self.now.entries =
          ap (λ i. i.held.entries) w.self-inside-is ∙ (written ∙ ap (with_first (written_frame c.args.offset c.args.size c.args.value c.args.tag) c.args.page) was) in
          let cap : c.match-get_mut.self-inside.held.cap ≡ c.args.self.now.frames = ap (λ i. i.held.cap) w.self-inside-is ∙ frames in
          λ i. record { entries = entries i; frames = cap i }
      | in-None w ↦
          let absent : frame_of c.args.page c.self.inside.held.entries ≡ None = sym w.in-None.ensures.value in
          let entries : c.match-get_mut.self-inside.held.entries ≡ with_first (written_frame c.args.offset c.args.size c.args.value c.args.tag) c.args.page c.args.self.now.entries =
          ap (λ i. i.held.entries) w.self-inside-is
          ∙ (sym (with_first-absent c.args.page c.self.inside.held.entries (written_frame c.args.offset c.args.size c.args.value c.args.tag) absent)
          ∙ ap (with_first (written_frame c.args.offset c.args.size c.args.value c.args.tag) c.args.page) was) in
          let cap : c.match-get_mut.self-inside.held.cap ≡ c.args.self.now.frames = ap (λ i. i.held.cap) w.self-inside-is ∙ frames in
          λ i. record { entries = entries i; frames = cap i }
    ]
