-- A flat memory of bytes for each domain, as the pages that it keeps.
use Rattle.std.specs.Prelude.{ℕ, ◌+◌, ◌-◌, Bool, ◌&&◌, ◌==◌, nat_eq, nat_le, nat_lt, List, [], length, slice_index, slice_index_or, if◌then◌else◌}
use Rattle.std.specs.Option.{option_map_or}
use Rattle.std.specs.Map.{lookup}
use Rattle.mind_base.specs.Page.{page_of, page_number_at, page_offset_at}
use Rattle.mind_base.specs.Pending.{PendingView, covers, byte_at}
use Rattle.mind_base.specs.Span.{SpanView, in_span}

-- for each domain the pages that are kept, each with its number and its bytes
pub record MemoryView : Type 0 where
  pub domains : List (List (ℕ × List ℕ))

-- the byte at an address of the domain with these pages: 0 where its page is not kept
abbrev pub byte_among : List (ℕ × List ℕ) → ℕ → ℕ
byte_among pages address =
    option_map_or (λ page. slice_index page (page_offset_at address)) (lookup (nat_eq (page_number_at address)) pages) 0

-- the byte at an address of a domain: 0 where its page is not kept, and for what is no domain
abbrev pub byte_in : MemoryView → ℕ → ℕ → ℕ
byte_in memory domain address = byte_among (slice_index_or memory.domains domain []) address

-- the bytes of one domain, by their addresses, after a store takes effect in it
abbrev pub stored_among : (ℕ → ℕ) → PendingView → ℕ → ℕ
stored_among byte store a = if covers store a then byte_at store a else byte a

-- the bytes of memory, by their domains and addresses, after a store takes effect in a domain
abbrev pub byte_stored : (ℕ → ℕ → ℕ) → ℕ → PendingView → ℕ → ℕ → ℕ
byte_stored byte domain store d a = if d == domain && covers store a then byte_at store a else byte d a

-- the page with this number is one of so many from a first one on, all of one domain
abbrev pub is_page_from : ℕ → ℕ → ℕ → Bool
is_page_from base pages number = in_span (record { domain = 0; base = base; pages = pages }) (record { domain = 0; number = number })

-- the bytes of one domain after these pages become zero
abbrev pub zeroed_among : (ℕ → ℕ) → ℕ → ℕ → ℕ → ℕ
zeroed_among byte base pages a = if is_page_from base pages (page_number_at a) then 0 else byte a

-- the bytes of memory after the pages of a span become zero
abbrev pub zeroed : (ℕ → ℕ → ℕ) → SpanView → ℕ → ℕ → ℕ
zeroed byte span d a = if in_span span (page_of d a) then 0 else byte d a

-- the byte number k of a page after these bytes are written over it from an offset on
abbrev pub written : List ℕ → ℕ → List ℕ → ℕ → ℕ
written page offset bytes k = if nat_le offset k && nat_lt k (offset + length bytes) then slice_index bytes (k - offset) else slice_index page k
