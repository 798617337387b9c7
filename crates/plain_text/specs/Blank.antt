-- Blanks, and the bytes that a text may have.
use Rattle.std.specs.Prelude.{ℕ, Bool, ◌||◌, ◌==◌, List}
use Rattle.std.specs.Char.{is_ascii_graphic}
use Rattle.std.specs.List.{list_all}

-- a space or a tab
abbrev pub is_blank : ℕ → Bool
is_blank b = b == 32 || b == 9

-- each byte is a blank or prints
abbrev pub is_text : List ℕ → Bool
is_text line = list_all (λ b. is_blank b || is_ascii_graphic b) line
