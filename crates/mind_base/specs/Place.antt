-- Which byte of memory an access names, with its page and its granule.
use Rattle.std.specs.Prelude.{ℕ, ◌/◌, ◌%◌, ◌<◌, ◌^◌, Bool, ◌==◌, ◌&&◌}
use Rattle.mind_base.specs.Page.{PageView, page_of, page_offset_at}

-- a byte of memory: a domain and an address in it
pub record Place : Type 0 where
  pub domain : ℕ
  pub address : ℕ

abbrev pub IsPlace : ℕ → ℕ → Type 0
IsPlace domain address = (domain < 16) × (address < 2 ^ 32)

-- The byte that an access of a thread of a domain at an address names: the byte at that address of the
-- domain. Loads, stores, drains, permissions and reservations all go by this.
abbrev pub place_of : ℕ → ℕ → Place
place_of domain address = record { domain = domain; address = address }

-- the page of the byte, and which byte of that page it is
abbrev pub page_at : Place → PageView
page_at place = page_of place.domain place.address

abbrev pub offset_at : Place → ℕ
offset_at place = page_offset_at place.address

-- 64 aligned bytes: a domain, and the number of those before it there
pub record Granule : Type 0 where
  pub domain : ℕ
  pub number : ℕ

abbrev pub IsGranule : ℕ → ℕ → Type 0
IsGranule domain number = (domain < 16) × (number < 2 ^ 26)

-- the granule of the byte
abbrev pub granule_at : Place → Granule
granule_at place = record { domain = place.domain; number = place.address / 64 }

abbrev pub same_granule : Granule → Granule → Bool
same_granule a b = a.domain == b.domain && a.number == b.number

-- the page in which a granule lies, and which of its 64 granules it is
abbrev pub page_with : Granule → PageView
page_with granule = record { domain = granule.domain; number = granule.number / 64 }

abbrev pub index_in_page : Granule → ℕ
index_in_page granule = granule.number % 64
