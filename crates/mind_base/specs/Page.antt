-- Pages of 4096 bytes, and which byte addresses lie in them.
use Rattle.std.specs.Prelude.{ℕ, ◌/◌, ◌%◌, ◌<◌, ◌^◌}

-- a page: one of 16 domains, and a number below 2 ^ 20 in it
pub record PageView : Type 0 where
  pub domain : ℕ
  pub number : ℕ

abbrev pub IsPage : ℕ → ℕ → Type 0
IsPage domain number = (domain < 16) × (number < 2 ^ 20)

-- the number of the page that holds the byte at an address, in its domain, and the byte's place in that page
abbrev pub page_number_at : ℕ → ℕ
page_number_at address = address / 4096

abbrev pub page_offset_at : ℕ → ℕ
page_offset_at address = address % 4096

-- the page that holds the byte at an address of a domain
abbrev pub page_of : ℕ → ℕ → PageView
page_of domain address = record { domain = domain; number = page_number_at address }
