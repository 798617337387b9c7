-- The cache of a blade: a list of pages and their frames by last use.
use Rattle.std.specs.Prelude.{ℕ, ◌-◌, ◌<◌, ◌≤◌, Bool, true, false, ◌&&◌, ◌==◌, List, ◌∷◌, length, take, map, filter, reverse, find, slice_get, Option, Some, None, option_map, if◌then◌else◌}
use Rattle.std.specs.Option.{option_map_or}
use Rattle.std.specs.List.{IsDistinct}
use Rattle.std.specs.Map.{keys_of, lookup, remove_entry, set_value}
use Rattle.mind_base.specs.Page.{PageView}
use Rattle.mind_base.specs.Span.{SpanView, in_span}
use Rattle.page_image.specs.PageImage.{image_after}
use Rattle.page_cache.specs.declared.frames.Frame.{Frame}
use Rattle.page_cache.specs.declared.frames.Put.{Put}
use Rattle.page_cache.specs.declared.frames.Put.TheVariants.{Fresh, Replaced, Pushed}
use Rattle.page_cache.specs.declared.frames.Which.{Which}
use Rattle.page_cache.specs.declared.frames.Which.TheVariants.{Held, Writable}

-- the pages and their frames, the most recently used first, and how many there may be
pub record CacheView : Type 0 where
  pub entries : List (PageView × Frame)
  pub frames : ℕ

-- the test whether two pages are one
abbrev pub same_page : PageView → PageView → Bool
same_page a b = a.domain == b.domain && a.number == b.number

-- no page comes twice, and there are no more pages than frames
pub record IsPageCache (cache : CacheView) : Type 0 where
  pub some : 0 < cache.frames
  pub fits : length cache.entries ≤ cache.frames
  pub distinct : IsDistinct same_page (keys_of cache.entries)

-- the frame of a page, where it is held
abbrev pub frame_of : PageView → List (PageView × Frame) → Option Frame
frame_of page entries = lookup (same_page page) entries

-- it is held, and may be written
abbrev pub is_writable : Option Frame → Bool
is_writable None = false
is_writable (Some frame) = frame.writable

-- the entries without that of a page
abbrev pub without_page : PageView → List (PageView × Frame) → List (PageView × Frame)
without_page page entries = remove_entry (same_page page) entries

-- the entries with that of a page first, and its frame changed, where it is held
abbrev pub with_first : (Frame → Frame) → PageView → List (PageView × Frame) → List (PageView × Frame)
with_first change page entries = option_map_or (λ frame. (page, change frame) ∷ without_page page entries) (frame_of page entries) entries

-- the entries in their order, with the frame of a page changed, where it is held
abbrev pub with_change : (Frame → Frame) → PageView → List (PageView × Frame) → List (PageView × Frame)
with_change change page entries = option_map_or (λ frame. set_value (same_page page) entries (change frame)) (frame_of page entries) entries

-- a frame after a store
abbrev pub written_frame : ℕ → ℕ → ℕ → ℕ → Frame → Frame
written_frame offset size value tag frame = record frame { image = image_after frame.image offset size value tag; dirty = true }

-- a frame that may no longer be written
abbrev pub lowered_frame : Frame → Frame
lowered_frame frame = record frame { writable = false; dirty = false }

-- the entries after a put: the page first, and of a full cache that did not hold it the last entry gone
abbrev pub entries_after_put : CacheView → PageView → Frame → List (PageView × Frame)
entries_after_put cache page frame = option_map_or (λ old. (page, frame) ∷ without_page page cache.entries) (frame_of page cache.entries) ((page, frame) ∷ take (cache.frames - 1) cache.entries)

-- what a put says, by the frame that the page had and the entry in the last place
abbrev pub put_from : Option Frame → Option (PageView × Frame) → Put
put_from (Some old) last = Replaced old
put_from None None = Fresh
put_from None (Some last) = Pushed last.0 last.1

-- what a put of a page says
abbrev pub put_of : CacheView → PageView → Put
put_of cache page = put_from (frame_of page cache.entries) (slice_get cache.entries (cache.frames - 1))

-- what a put of a page says by the entry that it displaced: the page's own, or another one
abbrev pub put_kind_of : PageView → Option (PageView × Frame) → Put
put_kind_of page None = Fresh
put_kind_of page (Some entry) = if same_page page entry.0 then Replaced entry.1 else Pushed entry.0 entry.1

-- the pages of the entries that pass a test, the most recently used first, and the least recently used first
abbrev pub newest_first : (PageView × Frame → Bool) → List (PageView × Frame) → List PageView
newest_first test entries = map (λ entry. entry.0) (filter test entries)

abbrev pub oldest_first : (PageView × Frame → Bool) → List (PageView × Frame) → List PageView
oldest_first test entries = reverse (newest_first test entries)

-- the page of the least recently used entry that passes a test
abbrev pub oldest_of : (PageView × Frame → Bool) → List (PageView × Frame) → Option PageView
oldest_of test entries = option_map (λ entry. entry.0) (find test (reverse entries))

-- the page of an entry is one of a run's
abbrev pub stands_in : SpanView → PageView × Frame → Bool
stands_in span entry = in_span span entry.0

-- the same, and the page may be written
abbrev pub stands_writable_in : SpanView → PageView × Frame → Bool
stands_writable_in span entry = in_span span entry.0 && entry.1.writable

-- one of the two, by what is asked for
abbrev pub stands_as : Which → SpanView → PageView × Frame → Bool
stands_as Held = stands_in
stands_as Writable = stands_writable_in
