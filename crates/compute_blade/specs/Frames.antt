-- What a hart finds in the pages that its blade holds.
use Rattle.std.specs.Prelude.{ℕ, ◌==◌, List, Option, Some, None, slice_index, if◌then◌else◌}
use Rattle.mind_base.specs.Page.{PageView}
use Rattle.mind_base.specs.Place.{Place, Granule, page_at, offset_at, page_with, index_in_page}
use Rattle.mind_base.specs.declared.commands.Perm.{Perm}
use Rattle.mind_base.specs.declared.commands.Perm.TheVariants.{No}
use Rattle.page_cache.specs.PageCache.{frame_of}
use Rattle.page_cache.specs.declared.frames.Frame.{Frame}
use Rattle.page_image.specs.PageImage.{tag_at}
use Rattle.hart_effect.specs.Access.{Around}
use Rattle.hart_effect.specs.Thread.{Thread}
use Rattle.compute_blade.specs.Blade.{HartView}
use Rattle.compute_blade.specs.declared.kept.Reservation.{Reservation}

-- the byte at an offset of a page that is held
abbrev pub frame_byte : Option Frame → ℕ → ℕ
frame_byte None offset = 0
frame_byte (Some frame) offset = slice_index frame.image.bytes offset

-- the byte of a place, from the frame of its page
abbrev pub byte_held : List (PageView × Frame) → Place → ℕ
byte_held entries place = frame_byte (frame_of (page_at place) entries) (offset_at place)

-- the same of the place at an address of a domain
abbrev pub held_byte : List (PageView × Frame) → ℕ → ℕ → ℕ
held_byte entries domain address = byte_held entries (record { domain = domain; address = address })

-- what the domain of a page may do with it, which came with the page
abbrev pub perm_in : Option Frame → Perm
perm_in None = No
perm_in (Some frame) = frame.perm

abbrev pub held_perm : List (PageView × Frame) → PageView → Perm
held_perm entries page = perm_in (frame_of page entries)

-- what hart h of a domain finds
abbrev pub around_held : List (PageView × Frame) → ℕ → ℕ → Around
around_held entries h domain =
    record { hart = h; domain = domain; byte = held_byte entries; perm = held_perm entries }

-- ---- reservations

-- the tag of a granule in the frame of its page
abbrev pub tag_in : Option Frame → Granule → Option ℕ
tag_in None granule = None
tag_in (Some frame) granule = Some (tag_at frame.image (index_in_page granule))

abbrev pub held_tag : List (PageView × Frame) → Granule → Option ℕ
held_tag entries granule = tag_in (frame_of (page_with granule) entries) granule

-- the granule, where it still has the tag that LR saw: no store took effect there since
abbrev pub if_same_tag : Option ℕ → Reservation → Option Granule
if_same_tag None kept = None
if_same_tag (Some tag) kept = if tag == kept.tag then Some kept.granule else None

abbrev pub still_reserved : List (PageView × Frame) → Option Reservation → Option Granule
still_reserved entries None = None
still_reserved entries (Some kept) = if_same_tag (held_tag entries kept.granule) kept

-- a hart as its instructions see it
abbrev pub thread_of : List (PageView × Frame) → HartView → Thread
thread_of entries hart = record {
  regs = hart.regs;
  end = hart.end;
  output = hart.output;
  buffer = hart.queue.stores;
  reserved = still_reserved entries hart.reserved;
}
