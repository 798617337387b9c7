use Rattle.std.proofs.Common.{length, ap, sym, ◌∙◌, Some}
use Rattle.page_image.proofs.Laws.{spelled_alike, length-spelling_of, spelling_of-read, IsPageImage-read}
use Rattle.page_image.proofs.images.PageImage.from_bytes.Goals as goal

pub returns-then-bytes-ne4608-clause-sole : goal.returns-then-bytes-ne4608-clause-sole
returns-then-bytes-ne4608-clause-sole c image is spelled =
    absurd (c.if-bytes-ne4608.true (ap length (sym spelled) ∙ length-spelling_of image is))

pub invariant_of-result : goal.invariant_of-result
invariant_of-result c =
    IsPageImage-read c.in_ok-page.page.items c.in_ok-tags.tags.items c.args.bytes.now c.if-bytes-ne4608.false (λ i. (c.type_inv.bytes i).fits) (c.in_ok-page.ensures.items ∙ c.split_at.ensures.front) c.in_ok-tags.ensures.count c.in_ok-tags.ensures.range

pub returns-clause-spelled : goal.returns-clause-spelled
returns-clause-spelled c =
    spelling_of-read c.in_ok-page.page.items c.in_ok-tags.tags.items c.args.bytes.now (c.in_ok-page.ensures.items ∙ c.split_at.ensures.front) (c.in_ok-tags.ensures.spelled ∙ c.split_at.ensures.back)

pub returns-clause-shape : goal.returns-clause-shape
returns-clause-shape c = invariant_of-result c

pub returns-clause-sole : goal.returns-clause-sole
returns-clause-sole c image is spelled =
    ap Some (spelled_alike _ image (invariant_of-result c) is (returns-clause-spelled c ∙ sym spelled))
