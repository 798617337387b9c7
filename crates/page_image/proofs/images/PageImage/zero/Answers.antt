use Rattle.std.proofs.Common.{◌≡◌, sym, subst, replicate, rules}
use Rattle.page_image.specs.PageImage.{IsPageImage}
use Rattle.page_image.proofs.Laws.{view-zeros, IsPageImage-zero_image}
use Rattle.page_image.proofs.images.PageImage.zero.Goals as goal

pub invariant_of-result : goal.invariant_of-result
invariant_of-result c =
    let bytes : c.in_ok-bytes.bytes.items ≡ replicate 4096 0 = search rules in
    let tags : c.in_ok-tags.tags.items ≡ replicate 64 0 = search rules in
    subst IsPageImage (sym (view-zeros _ _ bytes tags)) IsPageImage-zero_image

pub returns-clause-zero : goal.returns-clause-zero
returns-clause-zero c =
    let bytes : c.in_ok-bytes.bytes.items ≡ replicate 4096 0 = search rules in
    let tags : c.in_ok-tags.tags.items ≡ replicate 64 0 = search rules in
    view-zeros _ _ bytes tags

pub returns-clause-shape : goal.returns-clause-shape
returns-clause-shape c =
    let bytes : c.in_ok-bytes.bytes.items ≡ replicate 4096 0 = search rules in
    let tags : c.in_ok-tags.tags.items ≡ replicate 64 0 = search rules in
    subst IsPageImage (sym (view-zeros _ _ bytes tags)) IsPageImage-zero_image
