-- Reading a text line by line up to its first fault, and how what the code answers meets what is read.
use Rattle.std.specs.Prelude.{◌≡◌, ℕ, ◌+◌, List, [], ◌∷◌, Result, Ok, Err}
use Rattle.plain_text.specs.declared.refusals.LineRefusal.{LineRefusal}
use Rattle.plain_text.specs.declared.refusals.LineRefusal.TheVariants as refusals

-- the number of a line, counted from 1, and what is wrong with it; line 0 where it is wrong with the whole text
pub record FirstFault (F : Type 0) : Type 0 where
  pub line : ℕ
  pub what : F

-- the first reading, and then the second with its value; the first fault counts
infixl 10 ◌>>=◌
abbrev pub ◌>>=◌ : {A B E : Type 0} → Result A E → (A → Result B E) → Result B E
(Ok x) >>= f = f x
(Err e) >>= f = Err e

-- what is read from the line with this number
abbrev pub at_line : {A F : Type 0} → ℕ → Result A F → Result A (FirstFault F)
at_line line (Ok x) = Ok x
at_line line (Err what) = Err (record { line = line; what = what })

-- what is read from these lines behind what was read before them, line by line; the first of them has this number
unfoldable pub lines_read : {A E : Type 0} → (ℕ → A → List ℕ → Result A E) → ℕ → A → List (List ℕ) → Result A E
lines_read one line before [] = Ok before
lines_read one line before (text ∷ texts) = do
  so_far ← one line before text
  lines_read one (line + 1) so_far texts

-- the refusal that an answer tells is that of the reading; want of memory may come at any time
abbrev pub Fails : {Y F : Type 0} → LineRefusal F → Result Y (FirstFault F) → Type 0
Fails refusals.NoMemory read = Unit {0}
Fails (refusals.Refused line what) read = read ≡ Err (record { line = line; what = what })

-- an answer is what is read, unless memory ran out
abbrev pub Gives : {X Y F : Type 0} → (X → Y) → Result X (LineRefusal F) → Result Y (FirstFault F) → Type 0
Gives view (Ok x) read = read ≡ Ok (view x)
Gives view (Err e) read = Fails e read
