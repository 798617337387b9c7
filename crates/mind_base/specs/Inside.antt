-- What lies in a run of pages: a store that waits in a queue, or a reservation.
use Rattle.std.specs.Prelude.{ℕ, Bool, Option, Some, None, if◌then◌else◌}
use Rattle.mind_base.specs.Span.{SpanView, in_span}
use Rattle.mind_base.specs.Pending.{PendingView}
use Rattle.mind_base.specs.Place.{Place, Granule, place_of, page_at, page_with}

-- the place of the lowest byte of a store of a thread of a domain
abbrev pub place_of_store : ℕ → PendingView → Place
place_of_store domain store = place_of domain store.address

-- the store of a thread of a domain lies in a page of the span
abbrev pub stores_in : SpanView → ℕ → PendingView → Bool
stores_in span domain store = in_span span (page_at (place_of_store domain store))

-- a reservation inside the span is gone; any other stays
abbrev pub reservation_outside : SpanView → Option Granule → Option Granule
reservation_outside span None = None
reservation_outside span (Some granule) = if in_span span (page_with granule) then None else Some granule
