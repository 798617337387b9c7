-- A message as it is written: its head, which has all fields but an image, and then its image, if it has one.
use Rattle.std.specs.Prelude.{ℕ, List, ◌∷◌, ◌++◌, Option, Some, None}
use Rattle.page_image.specs.PageImage.{PageImageView}
use Rattle.wire_msg.specs.declared.msgs.Msg.{Msg}
use Rattle.wire_msg.specs.declared.msgs.Msg.TheVariants.{Fill, Back, Image, Write}
use Rattle.wire_msg.specs.Spelling.{spelling, number_bytes, page_bytes, fill_bytes, blade_bytes}
use Rattle.wire_msg.specs.WellFormed.{FitsWord, IsInBounds, IsPageView}

abbrev pub head_of : Msg → List ℕ
head_of (Fill page perm writable image) = 2 ∷ (page_bytes page ++ fill_bytes perm writable)
head_of (Back page image) = 4 ∷ page_bytes page
head_of (Image blade page image) = 12 ∷ (blade_bytes blade ++ page_bytes page)
head_of (Write phys image) = 13 ∷ number_bytes phys
head_of message = spelling message

-- the fields of the head are such as their types allow
abbrev pub FitsHead : Msg → Type 0
FitsHead (Fill page perm writable image) = IsPageView page
FitsHead (Back page image) = IsPageView page
FitsHead (Image blade page image) = IsPageView page
FitsHead (Write phys image) = FitsWord phys
FitsHead message = IsInBounds message

abbrev pub image_in : Msg → Option PageImageView
image_in (Fill page perm writable image) = Some image
image_in (Back page image) = Some image
image_in (Image blade page image) = Some image
image_in (Write phys image) = Some image
image_in message = None
