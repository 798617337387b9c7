-- The first line of a text: where it ends, and what it is where a line was written.
use Rattle.std.proofs.Common.{◌≡◌, ℕ, ◌+◌, ◌-◌, ◌<◌, Bool, true, false, cond, eqb, ◌||◌, List, [], ◌∷◌, ◌++◌, length, get_or, take, drop, refl, ap, ◌∙◌, arith}
use Rattle.std.specs.Char.{is_ascii_graphic}
use Rattle.std.specs.List.{slice_split, onto_first, position_or_len}
use Rattle.std.specs.Str.Lines.{lines, lines_of_parts, strip_carriage_return}
use Rattle.std.proofs.lemmas.Bool.{ne_eqb}
use Rattle.std.proofs.lemmas.List.{drop_all}
use Rattle.std.proofs.lemmas.List.Splits.{slice_split_none, slice_split_first, slice_split_at}
use Rattle.std.proofs.lemmas.List.Sums.{fails_before_first, AllPass-from_list_all}
use Rattle.plain_text.specs.Blank.{is_blank, is_text}

-- ---- where it ends

abbrev ends : ℕ → Bool
ends b = eqb b 10

-- a part with more parts behind it was ended
parts_more : (part : List ℕ) (parts : List (List ℕ)) → 0 < length parts → lines_of_parts (part ∷ parts) ≡ strip_carriage_return part ∷ lines_of_parts parts
parts_more part [] some = absurd (omega arith)
parts_more part (x ∷ xs) some = refl

some_onto : (x : ℕ) (parts : List (List ℕ)) → 0 < length (onto_first x parts)
some_onto x [] = omega arith
some_onto x (part ∷ parts) = omega arith

some_parts : (p : ℕ → Bool) (xs : List ℕ) → 0 < length (slice_split p xs)
some_parts p [] = omega arith
some_parts p (x ∷ xs) = elim (p x) as (λ b. 0 < length (cond b ([] ∷ slice_split p xs) (onto_first x (slice_split p xs)))) [
  | true ↦ omega arith
  | false ↦ some_onto x (slice_split p xs)
]

-- no part is cut off where nothing passes
pub whole : (p : ℕ → Bool) (xs : List ℕ) → position_or_len p xs ≡ length xs → slice_split p xs ≡ xs ∷ []
whole p xs e = slice_split_none p xs (λ k d lt. fails_before_first p xs k d (omega arith))

pub lines_ended : (text : List ℕ) (at : ℕ) → at ≡ position_or_len ends text → at < length text → lines text ≡ strip_carriage_return (take at text) ∷ lines (drop (at + 1) text)
lines_ended text at is lt =
    let first = slice_split_first ends text 0 (omega arith) in
    let cut : slice_split ends text ≡ take at text ∷ slice_split ends (drop (at + 1) text) = rw is first in
    ap lines_of_parts cut ∙ parts_more (take at text) (slice_split ends (drop (at + 1) text)) (some_parts ends (drop (at + 1) text))

one_part : (part : List ℕ) → 0 < length part → lines_of_parts (part ∷ []) ≡ part ∷ []
one_part part some = let e : eqb (length part) 0 ≡ false = ne_eqb (length part) 0 (λ e. omega (arith, e)) in rw e refl

pub lines_last : (text : List ℕ) (at : ℕ) → at ≡ position_or_len ends text → at ≡ length text → 0 < length text → lines text ≡ text ∷ lines (drop at text)
lines_last text at is len some =
    let rest : drop at text ≡ [] = drop_all at text (omega arith) in
    rw rest (ap lines_of_parts (whole ends text (omega arith)) ∙ one_part text some)

-- ---- what it is where a line was written

abbrev is_text_byte : ℕ → Bool
is_text_byte b = is_blank b || is_ascii_graphic b

ends_no_line : (b : ℕ) → is_text_byte b ≡ true → eqb b 10 ≡ false
ends_no_line b e = grind arith

returns_nowhere : (b : ℕ) → is_text_byte b ≡ true → eqb b 13 ≡ false
returns_nowhere b e = grind arith

-- nothing is stripped off a text
unstripped : (body : List ℕ) → is_text body ≡ true → strip_carriage_return body ≡ body
unstripped [] e = refl
unstripped (b ∷ bs) e =
    let last = get_or (b ∷ bs) (length (b ∷ bs) - 1) 0 in
    rw (returns_nowhere last (AllPass-from_list_all is_text_byte (b ∷ bs) e (length (b ∷ bs) - 1) 0 (omega arith))) refl

pub first_line : (body rest : List ℕ) → is_text body ≡ true → lines (body ++ 10 ∷ rest) ≡ body ∷ lines rest
first_line body rest e =
    ap lines_of_parts (slice_split_at ends body 10 rest (λ k d lt. ends_no_line (get_or body k d) (AllPass-from_list_all is_text_byte body e k d lt)) refl)
    ∙ parts_more body (slice_split ends rest) (some_parts ends rest)
    ∙ ap (λ line. line ∷ lines rest) (unstripped body e)
