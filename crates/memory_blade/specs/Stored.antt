-- The images that are kept, and the images that they stand for.
use Rattle.std.specs.Prelude.{List, map, Option, Some, None}
use Rattle.std.specs.Global.{Box}
use Rattle.page_image.specs.PageImage.{PageImageView, zero_image}

-- the image of a page: the one that is kept, or zero
abbrev pub kept_or_zero : Option (Box PageImageView) → PageImageView
kept_or_zero None = zero_image
kept_or_zero (Some kept) = kept.value

abbrev pub images_in : List (Option (Box PageImageView)) → List PageImageView
images_in pages = map kept_or_zero pages
