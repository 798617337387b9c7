-- A text without the blanks at its ends.
use Rattle.std.specs.Prelude.{ℕ, ◌-◌, List, length, take, drop}
use Rattle.std.specs.List.{prefix_len, suffix_len}
use Rattle.plain_text.specs.Blank.{is_blank}

-- from the first byte on that is no blank
unfoldable pub without_blanks_before : List ℕ → List ℕ
without_blanks_before text = drop (prefix_len is_blank text) text

-- up to the last byte that is no blank
unfoldable pub without_blanks_behind : List ℕ → List ℕ
without_blanks_behind text = take (length text - suffix_len is_blank text) text

-- without the blanks at both ends
abbrev pub trimmed : List ℕ → List ℕ
trimmed text = without_blanks_behind (without_blanks_before text)
