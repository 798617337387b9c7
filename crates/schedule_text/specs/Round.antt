-- The events that the entries of a schedule stand for.
use Rattle.std.specs.Prelude.{ℕ, List, [], ◌∷◌}
use Rattle.std.specs.List.{flat_map, range_with_len}
use Rattle.mind_base.specs.declared.events.Event.{Event}
use Rattle.mind_base.specs.declared.events.Event.TheVariants.{Step, Drain, Settle}
use Rattle.schedule_text.specs.declared.entries.Entry.{Entry}
use Rattle.schedule_text.specs.declared.entries.Entry.TheVariants.{Nothing, One, Rounds}

-- a thread's turn: it steps, the rack settles, it drains, the rack settles
abbrev pub turn : ℕ → List Event
turn hart = Step hart ∷ Settle ∷ Drain hart ∷ Settle ∷ []

-- one round: a turn of each thread, in rising order
unfoldable pub turns : ℕ → List Event
turns threads = flat_map turn (range_with_len 0 threads)

-- so many rounds
unfoldable pub rounds : ℕ → ℕ → List Event
rounds threads count = flat_map (λ round. turns threads) (range_with_len 0 count)

-- the events that an entry stands for, in a rack with so many threads
abbrev pub written_out : ℕ → Entry → List Event
written_out threads Nothing = []
written_out threads (One event) = event ∷ []
written_out threads (Rounds count) = rounds threads count
