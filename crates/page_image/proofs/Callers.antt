-- What the proofs of other crates may cite.
pub use Rattle.page_image.proofs.CallerLemmas.{get_or-image_after-inside, get_or-image_after-outside}
pub use Rattle.page_image.proofs.Laws.{IsPageImage-image_after, IsPageImage-zero_image, end_inside}
