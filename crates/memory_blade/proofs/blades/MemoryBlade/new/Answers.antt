use Rattle.std.proofs.Common.{◌≡◌, ◌∙◌, ap, replicate, arith}
use Rattle.page_image.specs.PageImage.{zero_image}
use Rattle.memory_blade.proofs.Kept.{all-zero, all-zero-shape}
use Rattle.memory_blade.proofs.blades.MemoryBlade.new.Goals as goal

pub invariant_of-result : goal.invariant_of-result
invariant_of-result c = all-zero-shape c.loop.images.items c.loop.counter c.loop.invariant

pub returns-clause-zero : goal.returns-clause-zero
returns-clause-zero c =
    let all : c.loop.counter ≡ c.args.pages = omega arith in
    all-zero c.loop.images.items c.loop.counter c.loop.invariant ∙ ap (λ n. replicate n zero_image) all

pub returns-clause-shape : goal.returns-clause-shape
returns-clause-shape c = all-zero-shape c.loop.images.items c.loop.counter c.loop.invariant
