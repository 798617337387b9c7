-- Images of pages: 4096 bytes, and a tag for each granule of 64 bytes.
use Rattle.std.specs.Prelude.{◌≡◌, ℕ, ◌+◌, ◌/◌, ◌<◌, ◌^◌, List, ◌++◌, length, take, drop, replicate, slice_index, slice_set, All}
use Rattle.std.specs.Int.{w32, w64, from_le_bytes, to_le_bytes, to_be_bytes}
use Rattle.std.specs.List.{flat_map}
use Rattle.mind_base.specs.Pending.{IsPending}

-- the bytes of a page, and the tags of its granules
pub record PageImageView : Type 0 where
  pub bytes : List ℕ
  pub tags : List ℕ

-- 4096 bytes, and 64 tags of 64 bits
pub record IsPageImage (image : PageImageView) : Type 0 where
  pub byte_count : length image.bytes ≡ 4096
  pub tag_count : length image.tags ≡ 64
  pub byte_range : All (λ byte. byte < 256) image.bytes
  pub tag_range : All (λ tag. tag < 2 ^ 64) image.tags

-- an access of 1, 2 or 4 bytes at a multiple of its size, inside the page
pub record IsInside (offset size : ℕ) : Type 0 where
  pub aligned : IsPending offset size
  pub inside : offset < 4096

-- the number that size bytes from an offset on spell, the lowest byte first
unfoldable pub number_at : PageImageView → ℕ → ℕ → ℕ
number_at image offset size = from_le_bytes w32 (take size (drop offset image.bytes))

-- the tag of a granule
abbrev pub tag_at : PageImageView → ℕ → ℕ
tag_at image granule = slice_index image.tags granule

-- the image after a store of the low bytes of a value, the lowest first, with a tag for their granule
unfoldable pub image_after : PageImageView → ℕ → ℕ → ℕ → ℕ → PageImageView
image_after image offset size value tag = record {
  bytes = take offset image.bytes ++ (take size (to_le_bytes w32 value) ++ drop (offset + size) image.bytes);
  tags = slice_set image.tags (offset / 64) tag;
}

-- all bytes and all tags are zero
unfoldable pub zero_image : PageImageView
zero_image = record { bytes = replicate 4096 0; tags = replicate 64 0 }

-- how an image is spelled in bytes: its bytes, then its tags, each in 8 bytes, the highest first
unfoldable pub spelling_of : PageImageView → List ℕ
spelling_of image = image.bytes ++ flat_map (to_be_bytes w64) image.tags
