-- What the code found the words to ask for.
use Rattle.std.specs.Prelude.{◌≤◌, ℕ, List, Option, Some, None}
use Rattle.mind_top.specs.Words.{Form, Run, Check, Make, Load, Asm, Dis, IsForm, IsNoForm}
use Rattle.mind_top.specs.declared.words.Asked.{Asked}
use Rattle.mind_top.specs.declared.words.Asked.TheVariants as asked

abbrev pub form_asked : Asked → Form
form_asked (asked.Run output rack schedule) = Run output (record { rack = rack.now; schedule = schedule.now })
form_asked (asked.Check rack schedule journal) = Check (record { rack = rack.now; schedule = schedule.now }) journal.now
form_asked (asked.Make rack drawn) = Make rack.now drawn.count drawn.seed
form_asked (asked.Load rack drawn) = Load rack.now drawn.count drawn.seed
form_asked (asked.Asm text) = Asm text.now
form_asked (asked.Dis image) = Dis image.now

-- the words ask for this, or are of no form
abbrev pub IsAskedIn : List (List ℕ) → Option Asked → Type 0
IsAskedIn words (Some asked) = IsForm words (form_asked asked)
IsAskedIn words None = IsNoForm words

-- not too many lines are to be drawn
abbrev pub IsFew : Asked → Type 0
IsFew (asked.Run output rack schedule) = Unit {0}
IsFew (asked.Check rack schedule journal) = Unit {0}
IsFew (asked.Make rack drawn) = drawn.count ≤ 200000
IsFew (asked.Load rack drawn) = drawn.count ≤ 200000
IsFew (asked.Asm text) = Unit {0}
IsFew (asked.Dis image) = Unit {0}
