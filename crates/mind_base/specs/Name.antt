-- The names of files.
use Rattle.std.specs.Prelude.{ℕ, Bool, ◌&&◌, nat_lt, nat_le, List, length, Option, Some, None, if◌then◌else◌}
use Rattle.std.specs.List.{list_all}

-- every byte is a printing character other than the space
abbrev pub each_prints : List ℕ → Bool
each_prints bytes = list_all (λ b. nat_le 0x21 b && nat_le b 0x7e) bytes

abbrev pub is_name : List ℕ → Bool
is_name bytes = nat_lt 0 (length bytes) && nat_le (length bytes) 64 && each_prints bytes

-- the name that a text is, where it is one
abbrev pub name_of : List ℕ → Option (List ℕ)
name_of bytes = if is_name bytes then Some bytes else None
