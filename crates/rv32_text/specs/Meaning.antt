-- The meaning of a text: the list of its items.
use Rattle.std.specs.Prelude.{ℕ, ◌==◌, nat_lt, List, [], ◌∷◌, ◌++◌, length, Option, Some, None, Result, Ok, Err, if◌then◌else◌}
use Rattle.std.specs.Str.Lines.{lines}
use Rattle.rv32_text.specs.declared.faults.TextFault.{TextFault}
use Rattle.rv32_text.specs.declared.faults.TextFault.TheVariants as faults
use Rattle.rv32_text.specs.declared.items.Item.{Item}
use Rattle.rv32_text.specs.declared.labels.Defined.{Defined}
use Rattle.plain_text.specs.Reading.{FirstFault, ◌>>=◌, at_line, lines_read}
use Rattle.rv32_text.specs.Label.{defined_from}
use Rattle.rv32_text.specs.Statement.{line_item}

-- one item more, of at most 16,384
abbrev pub one_more : List Item → Option Item → Result (List Item) TextFault
one_more before None = Ok before
one_more before (Some item) = if nat_lt (length before) 16384 then Ok (before ++ item ∷ []) else Err faults.Words

-- the items before a line with this number, and its own
unfoldable pub items_after_line : (List ℕ → Option Defined) → ℕ → List Item → List ℕ → Result (List Item) (FirstFault TextFault)
items_after_line labels line before text = at_line line (line_item labels line (length before) text >>= one_more before)

-- the items before these lines and those of the lines, the first of which has this number
abbrev pub items_from : (List ℕ → Option Defined) → ℕ → List Item → List (List ℕ) → Result (List Item) (FirstFault TextFault)
items_from labels line before texts = lines_read (items_after_line labels) line before texts

-- where the lines of a text define a label of this name first
unfoldable pub labels_of : List ℕ → List ℕ → Option Defined
labels_of text = defined_from 1 0 (lines text)

-- there is an item; else it is wrong with the whole text, which line 0 says
unfoldable pub some_item : List Item → Result (List Item) (FirstFault TextFault)
some_item items = if length items == 0 then Err (record { line = 0; what = faults.Empty }) else Ok items

-- The items of a text, or its first fault. Lines end with LF or with CR and LF; the last end may be missing.
unfoldable pub meaning : List ℕ → Result (List Item) (FirstFault TextFault)
meaning text = do
  items ← items_from (labels_of text) 1 [] (lines text)
  some_item items
