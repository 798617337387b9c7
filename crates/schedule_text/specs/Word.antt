-- The words of a line.
use Rattle.std.specs.Prelude.{ℕ, nat_lt, List, [], length, filter, slice_index_or}
use Rattle.std.specs.List.{slice_split}
use Rattle.plain_text.specs.Blank.{is_blank}

-- what stands between blanks, where it is not empty
unfoldable pub words_of : List ℕ → List (List ℕ)
words_of line = filter (λ word. nat_lt 0 (length word)) (slice_split is_blank line)

-- the word with this number, counted from 0; empty where there are not so many
abbrev pub word_numbered : ℕ → List ℕ → List ℕ
word_numbered index line = slice_index_or (words_of line) index []
