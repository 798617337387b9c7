use Rattle.std.proofs.Common.{◌≡◌, ◌++◌, ◌∷◌, []}
use Rattle.page_image.proofs.Laws.{ReadsTags-more}
use Rattle.page_image.proofs.tags.tags_of.Goals as goal

pub loop-i-preserved : goal.loop-i-preserved
loop-i-preserved c =
    let items : c.push.new.self.items ≡ c.loop-i.tags.items ++ c.tag_from.result ∷ [] = c.in_ok-push.ensures.items in
    rw items (ReadsTags-more c.loop-i.tags.items c.args.bytes.now c.loop-i.i c.tag_from.result c.loop-i.invariant c.tag_from.ensures c.tag_from.type_inv)
