-- What a memory blade does with the images of its pages.
use Rattle.std.specs.Prelude.{ℕ, ◌+◌, ◌<◌, ◌≤◌, List, ◌++◌, take, drop, replicate, slice_set, slice_index_or, Option, Some, None}
use Rattle.page_image.specs.PageImage.{PageImageView, zero_image}
use Rattle.wire_msg.specs.declared.msgs.Msg.{Msg}
use Rattle.wire_msg.specs.declared.msgs.Msg.TheVariants.{Read, Image, Write, Zero}

-- the message asks something of pages of a blade that has so many
abbrev pub IsFor : ℕ → Msg → Type 0
IsFor count (Read phys blade page) = phys < count
IsFor count (Write phys image) = phys < count
IsFor count (Zero phys pages) = phys + pages ≤ count
IsFor count message = ⊥

-- the image of the page with this number
abbrev pub image_at : List PageImageView → ℕ → PageImageView
image_at images phys = slice_index_or images phys zero_image

-- the images when so many pages from this number on were made zero
abbrev pub with_zeros : List PageImageView → ℕ → ℕ → List PageImageView
with_zeros images phys pages = take phys images ++ (replicate pages zero_image ++ drop (phys + pages) images)

-- the images after the message
abbrev pub images_after : List PageImageView → Msg → List PageImageView
images_after images (Write phys image) = slice_set images phys image
images_after images (Zero phys pages) = with_zeros images phys pages
images_after images message = images

-- what the blade answers: the image that was asked for
abbrev pub answer_to : List PageImageView → Msg → Option Msg
answer_to images (Read phys blade page) = Some (Image blade page (image_at images phys))
answer_to images message = None
