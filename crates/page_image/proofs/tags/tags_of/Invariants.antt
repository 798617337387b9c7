use Rattle.page_image.proofs.Laws.{ReadsTags}
use Rattle.page_image.proofs.tags.tags_of.Given as goal

abbrev pub invariant-loop-i : goal.invariant-loop-i
invariant-loop-i l = ReadsTags l.tags.items l.bytes l.i
