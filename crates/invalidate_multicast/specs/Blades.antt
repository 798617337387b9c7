-- Sets of blades, a bit for each blade by its number.
use Rattle.std.specs.Prelude.{ℕ, ◌+◌, ◌-◌, ◌^◌, Bool, ◌==◌, List, map, filter, if◌then◌else◌}
use Rattle.std.specs.Int.{bit_at}
use Rattle.std.specs.List.{range_with_len}
use Rattle.invalidate_multicast.specs.declared.casts.Cast.{Cast}

-- the blade is one of the set
abbrev pub has_blade : ℕ → ℕ → Bool
has_blade blades blade = bit_at blades blade == 1

-- the set with one blade more
abbrev pub with_blade : ℕ → ℕ → ℕ
with_blade blades blade = if has_blade blades blade then blades else blades + 2 ^ blade

-- the set without one blade
abbrev pub without_blade : ℕ → ℕ → ℕ
without_blade blades blade = if has_blade blades blade then blades - 2 ^ blade else blades

-- a message to a blade
abbrev pub cast_to : ℕ → Cast
cast_to blade = record { blade = blade }

-- one message to each blade of the set, by rising number
unfoldable pub casts_of : ℕ → List Cast
casts_of blades = map cast_to (filter (has_blade blades) (range_with_len 0 8))
