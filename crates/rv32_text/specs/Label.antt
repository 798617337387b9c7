-- The parts of a line, and where labels are defined.
use Rattle.std.specs.Prelude.{ℕ, ◌+◌, Bool, false, not, ◌&&◌, ◌||◌, ◌==◌, nat_lt, List, [], ◌∷◌, length, slice_index, Option, Some, None, is_none, if◌then◌else◌}
use Rattle.std.specs.Char.{is_ascii_alphanumeric, is_ascii_digit}
use Rattle.std.specs.List.{list_all, before_first, after_first, position_or_len}
use Rattle.std.specs.Option.{option_or}
use Rattle.std.specs.Str.{bytes_eq}
use Rattle.rv32_text.specs.declared.labels.Defined.{Defined}
use Rattle.rv32_text.specs.Blank.{without_blanks_before, trimmed}
use Rattle.rv32_text.specs.Name.{register_of}

-- ---- the parts of a line

-- a line up to its comment
abbrev pub before_comment : List ℕ → List ℕ
before_comment line = before_first (λ b. b == 35) line

abbrev pub has_colon : List ℕ → Bool
has_colon code = nat_lt (position_or_len (λ b. b == 58) code) (length code)

-- what stands for a label before the first colon
abbrev pub label_before : List ℕ → List ℕ
label_before code = without_blanks_before (before_first (λ b. b == 58) code)

-- what stands behind the label and its colon, or alone
unfoldable pub statement_of : List ℕ → List ℕ
statement_of code = if has_colon code then trimmed (after_first (λ b. b == 58) code) else trimmed code

-- how many items the line has
abbrev pub items_on : List ℕ → ℕ
items_on line = if length (statement_of (before_comment line)) == 0 then 0 else 1

-- ---- labels

-- a letter, a digit, _ or .
abbrev pub is_label_byte : ℕ → Bool
is_label_byte b = is_ascii_alphanumeric b || b == 95 || b == 46

-- 1 to 32 such bytes, of which the first is no digit, and no name of a register
unfoldable pub is_label : List ℕ → Bool
is_label text =
    if length text == 0 || nat_lt 32 (length text) || not (list_all is_label_byte text) then false
    else if is_ascii_digit (slice_index text 0) then false
    else is_none (register_of text)

-- the label that a line defines: well formed, before a colon
unfoldable pub label_defined : List ℕ → Option (List ℕ)
label_defined line =
    if has_colon (before_comment line) && is_label (label_before (before_comment line)) then Some (label_before (before_comment line)) else None

abbrev pub is_name_of : List ℕ → Option (List ℕ) → Bool
is_name_of name (Some label) = bytes_eq name label
is_name_of name None = false

-- the place, where the line defines a label of this name
abbrev pub defined_on : List ℕ → Defined → List ℕ → Option Defined
defined_on line place name = if is_name_of name (label_defined line) then Some place else None

-- where these lines define a label of this name first; the first line has this number, and so many items stand before it
unfoldable pub defined_from : ℕ → ℕ → List (List ℕ) → List ℕ → Option Defined
defined_from line items [] name = None
defined_from line items (text ∷ texts) name =
    option_or (defined_on text (record { line = line; items = items }) name) (defined_from (line + 1) (items + items_on text) texts name)
