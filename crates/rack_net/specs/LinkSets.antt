-- Sets of links by their places. Links from place 64 on are in none.
use Rattle.std.specs.Prelude.{◌≡◌, ℕ, ◌<◌, Bool, true, false, ◌||◌, ◌==◌, nat_lt, List, length, slice_index_or, Option, Some, None}
use Rattle.std.specs.Int.{bit_at}
use Rattle.link_retry.specs.SelectiveRepeat.{SelectiveView, new_selective}
use Rattle.rack_net.specs.declared.sets.LinkSet.{LinkSet}

-- the place is in the set
abbrev pub is_in_set : LinkSet → ℕ → Bool
is_in_set marks place = bit_at marks.bits place == 1

abbrev pub no_links : LinkSet
no_links = record { bits = 0 }

-- this place is in the set now or is not, and the others are as they were
pub record PutsIn (old : LinkSet) (place : ℕ) (is_in : Bool) (new : LinkSet) : Type 0 where
  pub this : place < 64 → is_in_set new place ≡ is_in
  pub others : (other : ℕ) → other < 64 → (other ≡ place → ⊥) → is_in_set new other ≡ is_in_set old other

-- the place is the first of the set
pub record IsFirstInSet (marks : LinkSet) (place : ℕ) : Type 0 where
  pub within : place < 64
  pub marked : is_in_set marks place ≡ true
  pub before : (other : ℕ) → other < place → is_in_set marks other ≡ false

abbrev pub FindsInSet : LinkSet → Option ℕ → Type 0
FindsInSet marks None = (place : ℕ) → is_in_set marks place ≡ false
FindsInSet marks (Some place) = IsFirstInSet marks place

-- a wire of the link has a frame
abbrev pub is_busy : SelectiveView → Bool
is_busy link = nat_lt 0 (length link.link.messages) || nat_lt 0 (length link.link.acks)

-- the link keeps messages
abbrev pub is_keeping : SelectiveView → Bool
is_keeping link = nat_lt 0 link.link.kept

-- the set has those of the first 64 links of which the test holds
abbrev pub HasLinksWith : (SelectiveView → Bool) → List SelectiveView → LinkSet → Type 0
HasLinksWith test links marks = (place : ℕ) → place < 64 → is_in_set marks place ≡ test (slice_index_or links place new_selective)
