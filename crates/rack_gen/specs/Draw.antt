-- The numbers that the generator draws.
use Rattle.std.specs.Prelude.{ℕ, zero, suc, ◌+◌, ◌*◌, ◌/◌, ◌%◌, ◌^◌}

-- the state behind one draw
abbrev pub next : ℕ → ℕ
next state = (state * 1664525 + 1013904223) % 2 ^ 32

-- the state behind so many draws
abbrev pub drawn_state : ℕ → ℕ → ℕ
drawn_state zero state = state
drawn_state (suc n) state = drawn_state n (next state)

-- the number that is drawn first from a state on, second, and so on: the state behind it, divided by 65536
abbrev pub draw : ℕ → ℕ → ℕ
draw n state = drawn_state n state / 65536
