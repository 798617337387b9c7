-- Runs of pages whose places follow one another.
use Rattle.std.specs.Prelude.{◌≡◌, ℕ, ◌+◌, ◌<◌, ◌&&◌, ◌==◌, List, [], ◌∷◌, map, Option, if◌then◌else◌}
use Rattle.std.specs.List.{range_with_len, filter_map}
use Rattle.mind_base.specs.Page.{PageView}
use Rattle.mind_base.specs.Span.{SpanView}
use Rattle.range_translate.specs.declared.outliers.Piece.{Piece}

-- the pages of a run, in order
abbrev pub pages_in : SpanView → List PageView
pages_in span = map (λ n. record { domain = span.domain; number = n }) (range_with_len span.base span.pages)

-- the places of a piece, in order, each as the memory blade and the physical number there
abbrev pub places_in : Piece → List (ℕ × ℕ)
places_in piece = map (λ n. (piece.memory, n)) (range_with_len piece.first piece.pages)

-- the second piece begins where the first one ends
abbrev pub Follows : Piece → Piece → Type 0
Follows a b = (a.memory ≡ b.memory) × (a.first + a.pages ≡ b.first)

-- the first piece of the list, if there is one, does not go on where this one ends
abbrev pub IsLast : Piece → List Piece → Type 0
IsLast p [] = Unit {0}
IsLast p (q ∷ qs) = Follows p q → ⊥

-- no piece is empty, and none goes on in the next one: each is as long as it can be
abbrev pub AreLongest : List Piece → Type 0
AreLongest [] = Unit {0}
AreLongest (p ∷ ps) = (0 < p.pages) × IsLast p ps × AreLongest ps

-- one place more in front: the first piece is longer by it where it goes on there
abbrev pub with_place : ℕ × ℕ → List Piece → List Piece
with_place place [] = record { memory = place.0; first = place.1; pages = 1 } ∷ []
with_place place (p ∷ ps) =
    if place.0 == p.memory && place.1 + 1 == p.first
    then record { memory = place.0; first = place.1; pages = p.pages + 1 } ∷ ps
    else record { memory = place.0; first = place.1; pages = 1 } ∷ p ∷ ps

-- the pieces that places make, one after another
abbrev pub pieces_from : List (ℕ × ℕ) → List Piece
pieces_from [] = []
pieces_from (place ∷ places) = with_place place (pieces_from places)

-- the pieces of a run of pages that lie where this says
abbrev pub pieces_of : (PageView → Option (ℕ × ℕ)) → SpanView → List Piece
pieces_of place span = pieces_from (filter_map place (pages_in span))
