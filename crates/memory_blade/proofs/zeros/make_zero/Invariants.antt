use Rattle.std.proofs.Common.{◌≡◌, length, All}
use Rattle.page_image.specs.PageImage.{IsPageImage}
use Rattle.memory_blade.specs.Stored.{images_in}
use Rattle.memory_blade.proofs.Zeroing.{AreZero}
use Rattle.memory_blade.proofs.zeros.make_zero.Given as goal

abbrev pub invariant-loop-i : goal.invariant-loop-i
invariant-loop-i l =
    AreZero (images_in l.fn.images.items) (images_in l.images.items) l.first l.i
    × (length l.images.items ≡ length l.fn.images.items)
    × (All IsPageImage (images_in l.fn.images.items) → All IsPageImage (images_in l.images.items))
