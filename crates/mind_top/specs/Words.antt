-- The words that the program is started with, and what they ask for.
use Rattle.std.specs.Prelude.{◌≡◌, ℕ, ◌<◌, ◌^◌, codes, List, [], ◌∷◌, ◌++◌, length, Ok}
use Rattle.mind_base.specs.Number.{number_of}
use Rattle.mind_inputs.specs.Words.{Paths}
use Rattle.mind_top.specs.declared.words.Output.{Output}
use Rattle.mind_top.specs.declared.words.Output.TheVariants.{Report, Journal}

-- what is asked for: a run and its report or journal; the check of a journal; a schedule that the generator makes of so
-- many lines from a seed; the run of that schedule; the image of a text of instructions; or the text of an image
pub data Form : Type 0 where
  Run : (output : Output) → (paths : Paths) → Form
  Check : (paths : Paths) → (journal : List ℕ) → Form
  Make : (rack : List ℕ) → (count seed : ℕ) → Form
  Load : (rack : List ℕ) → (count seed : ℕ) → Form
  Asm : (text : List ℕ) → Form
  Dis : (image : List ℕ) → Form

-- the word for a run and what it writes
abbrev pub run_word : Output → List ℕ
run_word Report = codes "run"
run_word Journal = codes "journal"

-- a word is this number, up to the limit
pub record IsNumber (word : List ℕ) (limit n : ℕ) : Type 0 where
  pub short : length word < 2 ^ 32
  pub reads : number_of word limit ≡ Ok n

-- the words are `NAME RACK COUNT SEED`, the count being at most 200,000 and the seed a number of 32 bits
pub record IsDrawn (name : List ℕ) (words : List (List ℕ)) (rack : List ℕ) (count seed : ℕ) : Type 0 where
  pub count_word : List ℕ
  pub seed_word : List ℕ
  pub words_are : words ≡ name ∷ rack ∷ count_word ∷ seed_word ∷ []
  pub count_is : IsNumber count_word 200000 count
  pub seed_is : IsNumber seed_word 4294967295 seed

abbrev pub IsForm : List (List ℕ) → Form → Type 0
IsForm words (Run output paths) = words ≡ run_word output ∷ paths.rack ∷ paths.schedule ∷ []
IsForm words (Check paths journal) = words ≡ codes "check" ∷ paths.rack ∷ paths.schedule ∷ journal ∷ []
IsForm words (Make rack count seed) = IsDrawn (codes "make") words rack count seed
IsForm words (Load rack count seed) = IsDrawn (codes "load") words rack count seed
IsForm words (Asm text) = words ≡ codes "asm" ∷ text ∷ []
IsForm words (Dis image) = words ≡ codes "dis" ∷ image ∷ []

-- the words are `run RACK SCHEDULE`
abbrev pub IsRunForm : List (List ℕ) → Paths → Type 0
IsRunForm words paths = IsForm words (Run Report paths)

-- the words are `journal RACK SCHEDULE`
abbrev pub IsJournalForm : List (List ℕ) → Paths → Type 0
IsJournalForm words paths = IsForm words (Run Journal paths)

-- the words are `check RACK SCHEDULE JOURNAL`
abbrev pub IsCheckForm : List (List ℕ) → Paths → List ℕ → Type 0
IsCheckForm words paths journal = IsForm words (Check paths journal)

-- the words are `make RACK COUNT SEED`
abbrev pub IsMakeForm : List (List ℕ) → List ℕ → ℕ → ℕ → Type 0
IsMakeForm words rack count seed = IsForm words (Make rack count seed)

-- the words are `load RACK COUNT SEED`
abbrev pub IsLoadForm : List (List ℕ) → List ℕ → ℕ → ℕ → Type 0
IsLoadForm words rack count seed = IsForm words (Load rack count seed)

-- the words are `asm TEXT`
abbrev pub IsAsmForm : List (List ℕ) → List ℕ → Type 0
IsAsmForm words text = IsForm words (Asm text)

-- the words are `dis IMAGE`
abbrev pub IsDisForm : List (List ℕ) → List ℕ → Type 0
IsDisForm words image = IsForm words (Dis image)

-- forms that run no schedule
abbrev pub RunsNothing : Form → Type 0
RunsNothing (Run output paths) = ⊥
RunsNothing (Check paths journal) = Unit {0}
RunsNothing (Make rack count seed) = Unit {0}
RunsNothing (Load rack count seed) = ⊥
RunsNothing (Asm text) = Unit {0}
RunsNothing (Dis image) = Unit {0}

-- the words are of no form
abbrev pub IsNoForm : List (List ℕ) → Type 0
IsNoForm words = ((paths : Paths) → ¬ (IsRunForm words paths)) × ((paths : Paths) → ¬ (IsJournalForm words paths))
    × ((paths : Paths) (journal : List ℕ) → ¬ (IsCheckForm words paths journal))
    × ((rack : List ℕ) (count seed : ℕ) → ¬ (IsMakeForm words rack count seed))
    × ((rack : List ℕ) (count seed : ℕ) → ¬ (IsLoadForm words rack count seed))
    × ((text : List ℕ) → ¬ (IsAsmForm words text)) × ((image : List ℕ) → ¬ (IsDisForm words image))

abbrev pub usage_line : List ℕ
usage_line =
    codes "usage: mind run RACK SCHEDULE | journal RACK SCHEDULE | check RACK SCHEDULE JOURNAL | make RACK COUNT SEED | load RACK COUNT SEED | asm TEXT | dis IMAGE"
    ++ 10 ∷ []
