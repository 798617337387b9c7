-- How each message is spelled in bytes: a first byte for its kind, and its fields. Numbers have four bytes,
-- the highest first.
use Rattle.std.specs.Prelude.{ℕ, ◌+◌, ◌*◌, Bool, ◌&&◌, ◌==◌, List, [], ◌∷◌, ◌++◌, take, drop, Option, Some, None, if◌then◌else◌}
use Rattle.std.specs.Int.{w32, w64, to_be_bytes}
use Rattle.std.specs.List.{list_all}
use Rattle.mind_base.specs.Page.{PageView}
use Rattle.mind_base.specs.Range.{RangeView}
use Rattle.mind_base.specs.Span.{SpanView}
use Rattle.mind_base.specs.declared.commands.Perm.{Perm}
use Rattle.mind_base.specs.declared.commands.Perm.TheVariants.{No, R, Rw}
use Rattle.page_image.specs.PageImage.{PageImageView}
use Rattle.wire_msg.specs.declared.msgs.Msg.{Msg}
use Rattle.wire_msg.specs.declared.msgs.Msg.TheVariants.{Get, Fill, Deny, Back, Inv, Lower, Ack, Close, Closed, Reopen, Read, Image, Write, Zero}

unfoldable pub number_bytes : ℕ → List ℕ
number_bytes n = to_be_bytes w32 n

-- the number of a page among the pages of all domains, of which each has 2 ^ 20
abbrev pub page_number : PageView → ℕ
page_number page = page.domain * 1048576 + page.number

abbrev pub page_bytes : PageView → List ℕ
page_bytes page = number_bytes (page_number page)

-- the page of the block's base, and its log
abbrev pub range_bytes : RangeView → List ℕ
range_bytes range = page_bytes (record { domain = range.domain; number = range.base }) ++ range.log ∷ []

-- the page of the run's base, and how many pages there are
abbrev pub span_bytes : SpanView → List ℕ
span_bytes span = page_bytes (record { domain = span.domain; number = span.base }) ++ number_bytes span.pages

-- a page, or the largest number for none
abbrev pub asked_bytes : Option PageView → List ℕ
asked_bytes None = number_bytes 4294967295
asked_bytes (Some page) = page_bytes page

abbrev pub flag_bytes : Bool → List ℕ
flag_bytes flag = (if flag then 1 else 0) ∷ []

-- 2 says that the domain may write, and 1 that the blade may at once
abbrev pub perm_byte : Perm → ℕ
perm_byte No = 0
perm_byte R = 0
perm_byte Rw = 2

abbrev pub fill_bytes : Perm → Bool → List ℕ
fill_bytes perm writable = (perm_byte perm + (if writable then 1 else 0)) ∷ []

-- a blade, or 255 for a copy
abbrev pub blade_bytes : Option ℕ → List ℕ
blade_bytes None = 255 ∷ []
blade_bytes (Some blade) = blade ∷ []

-- a granule of which nothing is spelled: its bytes are all zero, and so is its tag
unfoldable pub is_blank : List ℕ → ℕ → Bool
is_blank bytes tag = tag == 0 && list_all (λ byte. byte == 0) bytes

-- a granule: its bytes, and its tag in 8 bytes, the highest first
abbrev pub granule_bytes : List ℕ → ℕ → List ℕ
granule_bytes bytes tag = if is_blank bytes tag then [] else bytes ++ to_be_bytes w64 tag

-- The granules of a page, from the first on: each 64 of the bytes and the next of the tags.
unfoldable pub granules_bytes : List ℕ → List ℕ → List ℕ
granules_bytes bytes [] = []
granules_bytes bytes (tag ∷ tags) = granule_bytes (take 64 bytes) tag ++ granules_bytes (drop 64 bytes) tags

-- which of these granules are spelled: a bit for each, that of the first the lowest
unfoldable pub mask_of : List ℕ → List ℕ → ℕ
mask_of bytes [] = 0
mask_of bytes (tag ∷ tags) = (if is_blank (take 64 bytes) tag then 0 else 1) + 2 * mask_of (drop 64 bytes) tags

-- the one spelling of an image on the wire: the mask of its granules in 8 bytes, the highest first, and the granules
unfoldable pub image_bytes : PageImageView → List ℕ
image_bytes image = to_be_bytes w64 (mask_of image.bytes image.tags) ++ granules_bytes image.bytes image.tags

-- the first byte
abbrev pub kind_byte : Msg → ℕ
kind_byte (Get page write) = 1
kind_byte (Fill page perm writable image) = 2
kind_byte (Deny page) = 3
kind_byte (Back page image) = 4
kind_byte (Inv number range asked) = 5
kind_byte (Lower number range asked) = 6
kind_byte (Ack number count) = 7
kind_byte (Close number span ends) = 8
kind_byte (Closed number) = 9
kind_byte (Reopen number) = 10
kind_byte (Read phys blade page) = 11
kind_byte (Image blade page image) = 12
kind_byte (Write phys image) = 13
kind_byte (Zero phys pages) = 14

-- the bytes after it
abbrev pub fields_of : Msg → List ℕ
fields_of (Get page write) = page_bytes page ++ flag_bytes write
fields_of (Fill page perm writable image) = page_bytes page ++ (fill_bytes perm writable ++ image_bytes image)
fields_of (Deny page) = page_bytes page
fields_of (Back page image) = page_bytes page ++ image_bytes image
fields_of (Inv number range asked) = number_bytes number ++ (range_bytes range ++ asked_bytes asked)
fields_of (Lower number range asked) = number_bytes number ++ (range_bytes range ++ page_bytes asked)
fields_of (Ack number count) = number_bytes number ++ number_bytes count
fields_of (Close number span ends) = number_bytes number ++ (span_bytes span ++ flag_bytes ends)
fields_of (Closed number) = number_bytes number
fields_of (Reopen number) = number_bytes number
fields_of (Read phys blade page) = number_bytes phys ++ (blade_bytes blade ++ page_bytes page)
fields_of (Image blade page image) = blade_bytes blade ++ (page_bytes page ++ image_bytes image)
fields_of (Write phys image) = number_bytes phys ++ image_bytes image
fields_of (Zero phys pages) = number_bytes phys ++ number_bytes pages

abbrev pub spelling : Msg → List ℕ
spelling message = kind_byte message ∷ fields_of message
