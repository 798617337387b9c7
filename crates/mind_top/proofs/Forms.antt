-- Words are of one form at most.
use Rattle.std.proofs.Common.{◌≡◌, ℕ, ◌<◌, ◌≤◌, ◌∙◌, codes, List, [], ◌∷◌, length, get_or, map, string_bytes, String, Global, Option, Result, Ok, ap, sym, refl, subst, arith}
use Rattle.std.proofs.lemmas.List.{length-map}
use Rattle.mind_inputs.specs.Words.{Paths}
use Rattle.mind_top.specs.Asked.{form_asked, IsAskedIn}
use Rattle.mind_base.specs.Number.{number_of}
use Rattle.mind_base.specs.declared.numbers.NumberFault.{NumberFault}
use Rattle.mind_top.specs.Words.{Form, Run, Check, Make, Load, Asm, Dis, run_word, IsNumber, IsDrawn, IsForm, IsNoForm}
use Rattle.mind_top.specs.declared.words.Asked.{Asked}
use Rattle.mind_top.specs.declared.words.Output.{Output}
use Rattle.mind_top.specs.declared.words.Output.TheVariants.{Report, Journal}

same-output : (a b : Output) → run_word a ≡ run_word b → a ≡ b
same-output Report Report e = refl
same-output Report Journal e = absurd (cc)
same-output Journal Report e = absurd (cc)
same-output Journal Journal e = refl

paths-by : (p q : Paths) → p.rack ≡ q.rack → p.schedule ≡ q.schedule → p ≡ q
paths-by p q rack schedule =
    ap (λ (x : List ℕ). let r : Paths = record { rack = x; schedule = p.schedule } in r) rack
    ∙ ap (λ (x : List ℕ). let r : Paths = record { rack = q.rack; schedule = x } in r) schedule

-- a word by its number, and the first letter of the first
abbrev word-at : ℕ → List (List ℕ) → List ℕ
word-at n words = get_or words n []

abbrev first-letter : List (List ℕ) → ℕ
first-letter words = get_or (word-at 0 words) 0 0

same-value : (n m : ℕ) → (let read : Result ℕ NumberFault = Ok n in read) ≡ Ok m → n ≡ m
same-value n m e = cc

-- a word is one number
same-number : (word other : List ℕ) (limit n m : ℕ) → word ≡ other → IsNumber word limit n → IsNumber other limit m → n ≡ m
same-number word other limit n m same a b = same-value n m (sym a.reads ∙ ap (λ w. number_of w limit) same ∙ b.reads)

same-drawn : (name : List ℕ) (words : List (List ℕ)) (form : List ℕ → ℕ → ℕ → Form) (rack other : List ℕ) (count counted seed seeded : ℕ)
    → IsDrawn name words rack count seed → IsDrawn name words other counted seeded → form rack count seed ≡ form other counted seeded
same-drawn name words form rack other count counted seed seeded a b =
    let e = sym a.words_are ∙ b.words_are in
    let racks : rack ≡ other = ap (word-at 1) e in
    let counts = same-number a.count_word b.count_word 200000 count counted (ap (word-at 2) e) a.count_is b.count_is in
    let seeds = same-number a.seed_word b.seed_word 4294967295 seed seeded (ap (word-at 3) e) a.seed_is b.seed_is in
    λ i. form (racks i) (counts i) (seeds i)

pub same-form : (words : List (List ℕ)) (f g : Form) → IsForm words f → IsForm words g → f ≡ g
same-form words (Run o p) (Run u q) a b =
    let e = sym a ∙ b in
    let word : run_word o ≡ run_word u = cc in let rack : p.rack ≡ q.rack = cc in let schedule : p.schedule ≡ q.schedule = cc in
    ap (λ x. Run x p) (same-output o u word) ∙ ap (λ x. Run u x) (paths-by p q rack schedule)
same-form words (Run o p) (Check q journal) a b = absurd (omega (arith, ap length (sym a ∙ b)))
same-form words (Run o p) (Make rack count seed) a b = absurd (omega (arith, ap length (sym a ∙ b.words_are)))
same-form words (Run o p) (Load rack count seed) a b = absurd (omega (arith, ap length (sym a ∙ b.words_are)))
same-form words (Check p journal) (Run u q) a b = absurd (omega (arith, ap length (sym a ∙ b)))
same-form words (Check p journal) (Check q other) a b =
    let e = sym a ∙ b in
    let rack : p.rack ≡ q.rack = cc in let schedule : p.schedule ≡ q.schedule = cc in let same : journal ≡ other = cc in
    ap (λ x. Check x journal) (paths-by p q rack schedule) ∙ ap (λ x. Check q x) same
same-form words (Check p journal) (Make rack count seed) a b = absurd (omega (arith, ap first-letter (sym a ∙ b.words_are)))
same-form words (Check p journal) (Load rack count seed) a b = absurd (omega (arith, ap first-letter (sym a ∙ b.words_are)))
same-form words (Make rack count seed) (Run u q) a b = absurd (omega (arith, ap length (sym a.words_are ∙ b)))
same-form words (Make rack count seed) (Check q journal) a b = absurd (omega (arith, ap first-letter (sym a.words_are ∙ b)))
same-form words (Make rack count seed) (Make other counted seeded) a b = same-drawn (codes "make") words Make rack other count counted seed seeded a b
same-form words (Make rack count seed) (Load other counted seeded) a b = absurd (omega (arith, ap first-letter (sym a.words_are ∙ b.words_are)))
same-form words (Load rack count seed) (Run u q) a b = absurd (omega (arith, ap length (sym a.words_are ∙ b)))
same-form words (Load rack count seed) (Check q journal) a b = absurd (omega (arith, ap first-letter (sym a.words_are ∙ b)))
same-form words (Load rack count seed) (Make other counted seeded) a b = absurd (omega (arith, ap first-letter (sym a.words_are ∙ b.words_are)))
same-form words (Load rack count seed) (Load other counted seeded) a b = same-drawn (codes "load") words Load rack other count counted seed seeded a b
same-form words (Run o p) (Asm other) a b = absurd (omega (arith, ap length (sym a ∙ b)))
same-form words (Run o p) (Dis other) a b = absurd (omega (arith, ap length (sym a ∙ b)))
same-form words (Check p journal) (Asm other) a b = absurd (omega (arith, ap length (sym a ∙ b)))
same-form words (Check p journal) (Dis other) a b = absurd (omega (arith, ap length (sym a ∙ b)))
same-form words (Make rack count seed) (Asm other) a b = absurd (omega (arith, ap length (sym a.words_are ∙ b)))
same-form words (Make rack count seed) (Dis other) a b = absurd (omega (arith, ap length (sym a.words_are ∙ b)))
same-form words (Load rack count seed) (Asm other) a b = absurd (omega (arith, ap length (sym a.words_are ∙ b)))
same-form words (Load rack count seed) (Dis other) a b = absurd (omega (arith, ap length (sym a.words_are ∙ b)))
same-form words (Asm text) (Run u q) a b = absurd (omega (arith, ap length (sym a ∙ b)))
same-form words (Asm text) (Check q other) a b = absurd (omega (arith, ap length (sym a ∙ b)))
same-form words (Asm text) (Make other counted seeded) a b = absurd (omega (arith, ap length (sym a ∙ b.words_are)))
same-form words (Asm text) (Load other counted seeded) a b = absurd (omega (arith, ap length (sym a ∙ b.words_are)))
same-form words (Asm text) (Asm other) a b = ap Asm (ap (word-at 1) (sym a ∙ b))
same-form words (Asm text) (Dis other) a b = absurd (omega (arith, ap first-letter (sym a ∙ b)))
same-form words (Dis image) (Run u q) a b = absurd (omega (arith, ap length (sym a ∙ b)))
same-form words (Dis image) (Check q other) a b = absurd (omega (arith, ap length (sym a ∙ b)))
same-form words (Dis image) (Make other counted seeded) a b = absurd (omega (arith, ap length (sym a ∙ b.words_are)))
same-form words (Dis image) (Load other counted seeded) a b = absurd (omega (arith, ap length (sym a ∙ b.words_are)))
same-form words (Dis image) (Asm other) a b = absurd (omega (arith, ap first-letter (sym a ∙ b)))
same-form words (Dis image) (Dis other) a b = ap Dis (ap (word-at 1) (sym a ∙ b))

pub no-form : (words : List (List ℕ)) (f : Form) → IsNoForm words → IsForm words f → ⊥
no-form words (Run Report p) (run, journal, check, make, load, asm, dis) is = run p is
no-form words (Run Journal p) (run, journal, check, make, load, asm, dis) is = journal p is
no-form words (Check p j) (run, journal, check, make, load, asm, dis) is = check p j is
no-form words (Make rack count seed) (run, journal, check, make, load, asm, dis) is = make rack count seed is
no-form words (Load rack count seed) (run, journal, check, make, load, asm, dis) is = load rack count seed is
no-form words (Asm text) (run, journal, check, make, load, asm, dis) is = asm text is
no-form words (Dis image) (run, journal, check, make, load, asm, dis) is = dis image is

-- what the code found, under its name
pub asked-as : (words : List (List ℕ)) (a b : Asked) → a ≡ b → IsForm words (form_asked a) → IsForm words (form_asked b)
asked-as words a b same is = let P : Asked → Type 0 = λ x. IsForm words (form_asked x) in subst P same is

-- ---- four words

-- four words by their numbers
four-are : (words : List (String Global)) (w r t f : String Global) → 4 ≤ length words → length words < 5 → w ≡ get_or words 0 w → r ≡ get_or words 1 r → t ≡ get_or words 2 t → f ≡ get_or words 3 f
    → map string_bytes words ≡ string_bytes w ∷ string_bytes r ∷ string_bytes t ∷ string_bytes f ∷ []
four-are [] w r t f least most ew er et ef = absurd (omega arith)
four-are (a ∷ []) w r t f least most ew er et ef = absurd (omega arith)
four-are (a ∷ b ∷ []) w r t f least most ew er et ef = absurd (omega arith)
four-are (a ∷ b ∷ c ∷ []) w r t f least most ew er et ef = absurd (omega arith)
four-are (a ∷ b ∷ c ∷ d ∷ []) w r t f least most ew er et ef = λ i. string_bytes (sym ew i) ∷ string_bytes (sym er i) ∷ string_bytes (sym et i) ∷ string_bytes (sym ef i) ∷ []
four-are (a ∷ b ∷ c ∷ d ∷ e ∷ more) w r t f least most ew er et ef = absurd (omega arith)

-- what they ask for, as they are read one by one
pub asked-of-four : (words : List (String Global)) (w r t f : String Global) (a b c d : List ℕ) (asked : Option Asked) → 4 ≤ length words → length words < 5
    → w ≡ get_or words 0 w → r ≡ get_or words 1 r → t ≡ get_or words 2 t → f ≡ get_or words 3 f
    → a ≡ string_bytes w → b ≡ string_bytes r → c ≡ string_bytes t → d ≡ string_bytes f → IsAskedIn (a ∷ b ∷ c ∷ d ∷ []) asked → IsAskedIn (map string_bytes words) asked
asked-of-four words w r t f a b c d asked least most ew er et ef ea eb ec ed is =
    let P : List (List ℕ) → Type 0 = λ all. IsAskedIn all asked in
    let all : a ∷ b ∷ c ∷ d ∷ [] ≡ map string_bytes words = (λ i. ea i ∷ eb i ∷ ec i ∷ ed i ∷ []) ∙ sym (four-are words w r t f least most ew er et ef) in
    subst P all is

-- ---- two words

two-are : (words : List (String Global)) (w r : String Global) → 2 ≤ length words → length words < 3 → w ≡ get_or words 0 w → r ≡ get_or words 1 r
    → map string_bytes words ≡ string_bytes w ∷ string_bytes r ∷ []
two-are [] w r least most ew er = absurd (omega arith)
two-are (a ∷ []) w r least most ew er = absurd (omega arith)
two-are (a ∷ b ∷ []) w r least most ew er = λ i. string_bytes (sym ew i) ∷ string_bytes (sym er i) ∷ []
two-are (a ∷ b ∷ c ∷ more) w r least most ew er = absurd (omega arith)

pub asked-of-two : (words : List (String Global)) (w r : String Global) (a b : List ℕ) (asked : Option Asked) → 2 ≤ length words → length words < 3 → w ≡ get_or words 0 w → r ≡ get_or words 1 r
    → a ≡ string_bytes w → b ≡ string_bytes r → IsAskedIn (a ∷ b ∷ []) asked → IsAskedIn (map string_bytes words) asked
asked-of-two words w r a b asked least most ew er ea eb is =
    let P : List (List ℕ) → Type 0 = λ all. IsAskedIn all asked in
    let all : a ∷ b ∷ [] ≡ map string_bytes words = (λ i. ea i ∷ eb i ∷ []) ∙ sym (two-are words w r least most ew er) in
    subst P all is

-- ---- words of no form

-- as many as no form has
pub wrong-length : (words : List (String Global)) → (length words ≡ 2 → ⊥) → (length words ≡ 3 → ⊥) → (length words ≡ 4 → ⊥) → IsNoForm (map string_bytes words)
wrong-length words two three four =
    let long = length-map words string_bytes in (
      (λ paths e. three (omega (arith, long, ap length e))),
      (λ paths e. three (omega (arith, long, ap length e))),
      (λ paths journal e. four (omega (arith, long, ap length e))),
      (λ rack count seed d. four (omega (arith, long, ap length d.words_are))),
      (λ rack count seed d. four (omega (arith, long, ap length d.words_are))),
      (λ text e. two (omega (arith, long, ap length e))),
      (λ image e. two (omega (arith, long, ap length e))),
    )

-- two words that are neither of the two forms
pub none-of-two : (name file : List ℕ) → (name ≡ codes "asm" → ⊥) → (name ≡ codes "dis" → ⊥) → IsNoForm (name ∷ file ∷ [])
none-of-two name file no_asm no_dis = (
  (λ paths e. omega (arith, ap length e)),
  (λ paths e. omega (arith, ap length e)),
  (λ paths journal e. omega (arith, ap length e)),
  (λ rack count seed d. omega (arith, ap length d.words_are)),
  (λ rack count seed d. omega (arith, ap length d.words_are)),
  (λ text e. no_asm (ap (word-at 0) e)),
  (λ image e. no_dis (ap (word-at 0) e)),
)

-- no numbers that a schedule could be made by
abbrev AreNoNumbers : List ℕ → List ℕ → Type 0
AreNoNumbers count seed = (n m : ℕ) → IsNumber count 200000 n → IsNumber seed 4294967295 m → ⊥

none-drawn : (name : List ℕ) (words : List (List ℕ)) (rack count seed : List ℕ) → words ≡ name ∷ rack ∷ count ∷ seed ∷ [] → AreNoNumbers count seed
    → (other : List ℕ) (n m : ℕ) → IsDrawn name words other n m → ⊥
none-drawn name words rack count seed is none other n m d =
    let e = sym d.words_are ∙ is in
    none n m (subst (λ w. IsNumber w 200000 n) (ap (word-at 2) e) d.count_is) (subst (λ w. IsNumber w 4294967295 m) (ap (word-at 3) e) d.seed_is)

-- four words of no form: they ask for no check, and nothing is drawn by them
none-of-four : (name rack count seed : List ℕ) → (name ≡ codes "check" → ⊥) → (let words : List (List ℕ) = name ∷ rack ∷ count ∷ seed ∷ [] in
    ((other : List ℕ) (n m : ℕ) → IsDrawn (codes "make") words other n m → ⊥) → ((other : List ℕ) (n m : ℕ) → IsDrawn (codes "load") words other n m → ⊥) → IsNoForm words)
none-of-four name rack count seed no_check no_make no_load = (
  (λ paths e. omega (arith, ap length e)),
  (λ paths e. omega (arith, ap length e)),
  (λ paths journal e. no_check (ap (word-at 0) e)),
  no_make,
  no_load,
  (λ text e. omega (arith, ap length e)),
  (λ image e. omega (arith, ap length e)),
)

abbrev letter : List ℕ → ℕ
letter word = get_or word 0 0

pub make-none : (word rack count seed : List ℕ) → word ≡ codes "make" → AreNoNumbers count seed → IsNoForm (word ∷ rack ∷ count ∷ seed ∷ [])
make-none word rack count seed named none =
    none-of-four word rack count seed (λ e. omega (arith, ap letter (sym named ∙ e))) (none-drawn (codes "make") _ rack count seed (ap (λ w. w ∷ rack ∷ count ∷ seed ∷ []) named) none)
    (λ other n m d. omega (arith, ap letter (sym named ∙ ap (word-at 0) d.words_are)))

pub load-none : (word rack count seed : List ℕ) → word ≡ codes "load" → AreNoNumbers count seed → IsNoForm (word ∷ rack ∷ count ∷ seed ∷ [])
load-none word rack count seed named none =
    none-of-four word rack count seed (λ e. omega (arith, ap letter (sym named ∙ e))) (λ other n m d. omega (arith, ap letter (sym named ∙ ap (word-at 0) d.words_are)))
    (none-drawn (codes "load") _ rack count seed (ap (λ w. w ∷ rack ∷ count ∷ seed ∷ []) named) none)
