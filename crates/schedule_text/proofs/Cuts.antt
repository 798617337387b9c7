-- The first word of a line.
use Rattle.std.proofs.Common.{◌≡◌, ℕ, suc, ◌+◌, ◌-◌, ◌<◌, ◌≤◌, Bool, true, false, not, cond, ltb, List, [], ◌∷◌, length, get_or, take, drop, filter, refl, sym, ap, ◌∙◌, arith, inl, inr}
use Rattle.std.specs.List.{slice_split, prefix_len, position_or_len}
use Rattle.std.proofs.lemmas.Bool.{cases_lt, lt-ltb}
use Rattle.std.proofs.lemmas.List.{take_all, drop_all, drop_more, length-take-le, take_rest}
use Rattle.std.proofs.lemmas.List.Splits.{slice_split-cons_yes, slice_split_first}
use Rattle.std.proofs.lemmas.List.Sums.{passes_at_first, prefix_len-le-length, prefix_len_stops}
use Rattle.plain_text.specs.Blank.{is_blank}
use Rattle.plain_text.proofs.Callers.{whole}
use Rattle.schedule_text.specs.Word.{words_of}

abbrev some_word : List ℕ → Bool
some_word word = ltb 0 (length word)

words_blank : (b : ℕ) (line : List ℕ) → is_blank b ≡ true → words_of (b ∷ line) ≡ words_of line
unfolding words_of
words_blank b line blank = ap (λ (parts : List (List ℕ)). filter some_word parts) (slice_split-cons_yes is_blank b line blank)

behind_blank : (b : ℕ) (line : List ℕ) (n : ℕ) (t : Bool) → is_blank b ≡ t → words_of (drop n line) ≡ words_of line → words_of (drop (cond t (1 + n) 0) (b ∷ line)) ≡ words_of (b ∷ line)
behind_blank b line n true blank same = let e : 1 + n ≡ suc n = omega arith in rw e (same ∙ sym (words_blank b line blank))
behind_blank b line n false blank same = refl

-- blanks in front change no word
pub words_behind_blanks : (line : List ℕ) → words_of (drop (prefix_len is_blank line) line) ≡ words_of line
words_behind_blanks [] = refl
words_behind_blanks (b ∷ line) = behind_blank b line (prefix_len is_blank line) (is_blank b) refl (words_behind_blanks line)

-- the first word ends at the first blank
word_before_blank : (line : List ℕ) (end : ℕ) → end ≡ position_or_len is_blank line → 0 < end → end < length line → words_of line ≡ take end line ∷ words_of (drop (end + 1) line)
unfolding words_of
word_before_blank line end is some lt =
    let first = slice_split_first is_blank line 0 (omega arith) in
    let cut : slice_split is_blank line ≡ take end line ∷ slice_split is_blank (drop (end + 1) line) = rw is first in
    let kept : ltb 0 (length (take end line)) ≡ true = lt-ltb 0 _ (omega (arith, length-take-le end line (omega arith))) in
    ap (λ (parts : List (List ℕ)). filter some_word parts) cut ∙ rw kept refl

word_at_end : (line : List ℕ) → position_or_len is_blank line ≡ length line → 0 < length line → words_of line ≡ line ∷ []
unfolding words_of
word_at_end line is some =
    let kept : ltb 0 (length line) ≡ true = lt-ltb 0 _ some in
    ap (λ (parts : List (List ℕ)). filter some_word parts) (whole is_blank line is) ∙ rw kept refl

words_nil : words_of [] ≡ []
unfolding words_of
words_nil = refl

pub words_first : (line : List ℕ) (end : ℕ) → end ≡ position_or_len is_blank line → 0 < end → words_of line ≡ take end line ∷ words_of (drop end line)
words_first line end is some =
    elim (cases_lt end (length line)) [
      | inl lt ↦
          let blank : is_blank (get_or line end 0) ≡ true = rw is (passes_at_first is_blank line 0 (omega arith)) in
          let behind : words_of (drop end line) ≡ words_of (drop (end + 1) line) = rw (drop_more line end 0 lt) (words_blank (get_or line end 0) (drop (end + 1) line) blank) in
          word_before_blank line end is some lt ∙ ap (λ (words : List (List ℕ)). take end line ∷ words) (sym behind)
      | inr le ↦
          let most = prefix_len-le-length (λ b. not (is_blank b)) line in
          let len : position_or_len is_blank line ≡ length line = omega arith in
          rw (take_all end line le, drop_all end line le, words_nil) (word_at_end line len (omega arith))
    ]

position_word : (b : ℕ) (line : List ℕ) → is_blank b ≡ false → position_or_len is_blank (b ∷ line) ≡ 1 + position_or_len is_blank line
position_word b line word = rw word refl

-- behind the blanks in front a word begins, or nothing stands
pub no_word : (line : List ℕ) → position_or_len is_blank (drop (prefix_len is_blank line) line) ≡ 0 → drop (prefix_len is_blank line) line ≡ []
no_word line none =
    let n = prefix_len is_blank line in
    elim (cases_lt n (length line)) [
      | inl lt ↦
          let one = drop_more line n 0 lt in
          let starts = position_word (get_or line n 0) (drop (n + 1) line) (prefix_len_stops is_blank line 0 lt) in
          absurd (omega (arith, none, ap (position_or_len is_blank) one, starts))
      | inr le ↦ drop_all n line le
    ]

pub no_words : words_of [] ≡ []
no_words = words_nil

-- what a split of a line into its first word and the rest tells of the words by number
pub record IsSplit (line word after : List ℕ) : Type 0 where
  pub some : 0 < length word → words_of line ≡ word ∷ words_of after
  pub none : length word ≡ 0 → words_of line ≡ []
  pub last : length word ≡ 0 → after ≡ []

-- a line without the blanks in front, split at its first blank
pub split_at_blank : (all line : List ℕ) (end : ℕ) → words_of line ≡ words_of all → (position_or_len is_blank line ≡ 0 → line ≡ []) → end ≡ position_or_len is_blank line → end ≤ length line
    → IsSplit all (take end line) (take (length line - end) (drop end line))
split_at_blank all line end same blank is within =
    let len = length-take-le end line within in
    let empty : length (take end line) ≡ 0 → line ≡ [] = λ none. blank (omega (arith, none, len)) in
    rw (take_rest line end)
    record {
      some = λ some. sym same ∙ words_first line end is (omega (arith, some, len));
      none = λ none. sym same ∙ ap words_of (empty none) ∙ words_nil;
      last = λ none. ap (drop end) (empty none) ∙ drop_all end [] (omega arith);
    }

pub first_word : (line word after : List ℕ) → IsSplit line word after → word ≡ get_or (words_of line) 0 []
first_word line [] after split = rw (split.none refl) refl
first_word line (b ∷ word) after split = rw (split.some (omega arith)) refl

pub later_word : (line word after : List ℕ) → IsSplit line word after → (k : ℕ) → get_or (words_of after) k [] ≡ get_or (words_of line) (1 + k) []
later_word line [] after split k = rw (split.none refl, split.last refl, words_nil) refl
later_word line (b ∷ word) after split k = let e : 1 + k ≡ suc k = omega arith in rw (e, split.some (omega arith)) refl
