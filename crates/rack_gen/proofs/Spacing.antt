-- Words one space apart are read as the words of a line.
use Rattle.std.proofs.Common.{◌≡◌, ℕ, ◌<◌, ◌∙◌, Bool, true, false, ◌&&◌, ◌||◌, ltb, leb, List, [], ◌∷◌, ◌++◌, length, get_or, filter, ap, refl, arith}
use Rattle.std.specs.List.{All, AllByRecursion}
use Rattle.std.proofs.Math.Bool.{or-true}
use Rattle.std.proofs.lemmas.Bool.{and_parts, and_from, leb-true, lt-ltb, ne_eqb}
use Rattle.std.proofs.lemmas.List.Folds.{list_all-append}
use Rattle.std.proofs.lemmas.List.Splits.{slice_split_none, slice_split_at}
use Rattle.std.proofs.lemmas.List.Sums.{AllPass-from_list_all}
use Rattle.mind_base.specs.Name.{each_prints}
use Rattle.plain_text.specs.Blank.{is_blank, is_text}
use Rattle.schedule_text.specs.Word.{words_of}
use Rattle.schedule_text.proofs.Callers.{no_words}
use Rattle.rack_gen.specs.Line.{spaced}

-- ---- words

-- printing characters, at least one
pub record IsWord (word : List ℕ) : Type 0 where
  pub some : 0 < length word
  pub prints : each_prints word ≡ true

no_blank : (word : List ℕ) → each_prints word ≡ true → All (λ b. is_blank b ≡ false) word
no_blank word e k d lt =
    let p = and_parts (leb 0x21 (get_or word k d)) (leb (get_or word k d) 0x7e) (AllPass-from_list_all (λ b. leb 0x21 b && leb b 0x7e) word e k d lt) in
    let above = leb-true 0x21 (get_or word k d) p.0 in
    rw (ne_eqb (get_or word k d) 32 (λ q. omega (arith, q, above)), ne_eqb (get_or word k d) 9 (λ q. omega (arith, q, above))) refl

abbrev some_word : List ℕ → Bool
some_word word = ltb 0 (length word)

one_word : (word : List ℕ) → IsWord word → words_of word ≡ word ∷ []
unfolding words_of
one_word word is =
    ap (λ (parts : List (List ℕ)). filter some_word parts) (slice_split_none is_blank word (no_blank word is.prints)) ∙ rw (lt-ltb 0 _ is.some) refl

first_word : (word rest : List ℕ) → IsWord word → words_of (word ++ 32 ∷ rest) ≡ word ∷ words_of rest
unfolding words_of
first_word word rest is =
    ap (λ (parts : List (List ℕ)). filter some_word parts) (slice_split_at is_blank word 32 rest (no_blank word is.prints) refl) ∙ rw (lt-ltb 0 _ is.some) refl

pub words_spaced : (words : List (List ℕ)) → AllByRecursion IsWord words → words_of (spaced words) ≡ words
words_spaced [] all = no_words
words_spaced (word ∷ []) all = one_word word all.0
words_spaced (word ∷ next ∷ words) all =
    first_word word (spaced (next ∷ words)) all.0 ∙ ap (λ (rest : List (List ℕ)). word ∷ rest) (words_spaced (next ∷ words) all.1)

-- ---- text

word_is_text : (word : List ℕ) → each_prints word ≡ true → is_text word ≡ true
word_is_text [] e = refl
word_is_text (b ∷ word) e =
    let p = and_parts (leb 0x21 b && leb b 0x7e) (each_prints word) e in
    and_from _ _ (ap (λ t. is_blank b || t) p.0 ∙ or-true (is_blank b)) (word_is_text word p.1)

pub text_spaced : (words : List (List ℕ)) → AllByRecursion IsWord words → is_text (spaced words) ≡ true
text_spaced [] all = refl
text_spaced (word ∷ []) all = word_is_text word all.0.prints
text_spaced (word ∷ next ∷ words) all =
    list_all-append _ word (32 ∷ spaced (next ∷ words)) ∙ and_from _ _ (word_is_text word all.0.prints) (text_spaced (next ∷ words) all.1)
