use Rattle.std.proofs.Common.{◌≡◌, ◌+◌, ◌<◌, ℕ, List, length, refl, subst, sym, ◌∙◌, arith}
use Rattle.std.proofs.lemmas.List.{length-set, length-map}
use Rattle.page_image.specs.PageImage.{PageImageView}
use Rattle.memory_blade.specs.MemoryBlade.{with_zeros}
use Rattle.memory_blade.specs.Stored.{kept_or_zero, images_in}
use Rattle.memory_blade.proofs.Kept.{none-set, none-set-shape}
use Rattle.memory_blade.proofs.Zeroing.{AreZero, AreZero-none, AreZero-more, with_zeros-done}
use Rattle.memory_blade.proofs.zeros.make_zero.Goals as goal

pub loop-i-init : goal.loop-i-init
loop-i-init c = (AreZero-none (images_in c.args.images.now.items) c.args.first, refl, λ h. h)

pub loop-i-preserved : goal.loop-i-preserved
loop-i-preserved c =
    let at = c.args.first + c.loop-i.i in
    let old = images_in c.args.images.now.items in
    let now = images_in c.loop-i.images.items in
    let inside : at < length now = omega (arith, length-map c.loop-i.images.items kept_or_zero, c.loop-i.invariant.1, c.requires) in (
      subst (λ (images : List PageImageView). AreZero old images c.args.first (c.loop-i.i + 1)) (sym (none-set c.loop-i.images.items at))
          (AreZero-more old now c.args.first c.loop-i.i c.loop-i.invariant.0 inside),
      length-set c.loop-i.images.items at _ ∙ c.loop-i.invariant.1,
      λ h. none-set-shape c.loop-i.images.items at (c.loop-i.invariant.2 h),
    )

pub returns-clause-after : goal.returns-clause-after
returns-clause-after c =
    let all : c.loop-i.i ≡ c.args.count = omega arith in
    subst (λ (n : ℕ). images_in c.loop-i.images.items ≡ with_zeros (images_in c.args.images.now.items) c.args.first n) all
    (with_zeros-done (images_in c.args.images.now.items) (images_in c.loop-i.images.items) c.args.first c.loop-i.i c.loop-i.invariant.0)
