use Rattle.std.proofs.Common.{◌≡◌, take}
use Rattle.rv32_text.specs.Image.{image_of}
use Rattle.rv32_text.proofs.images.image.Given as goal

abbrev pub invariant-loop-item : goal.invariant-loop-item
invariant-loop-item l = l.image.items ≡ image_of (take l.item-index l.items)
