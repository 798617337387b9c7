-- Lists of bytes of which all, or the last, pass a test, and where they are cut.
use Rattle.std.proofs.Common.{◌≡◌, ℕ, suc, ◌+◌, ◌-◌, ◌<◌, Bool, true, false, not, ◌&&◌, List, [], ◌∷◌, ◌++◌, length, get_or, take, drop, refl, sym, ap, ◌∙◌, arith}
use Rattle.std.specs.List.{list_all, prefix_len, suffix_len, position_or_len, before_first, after_first}
use Rattle.std.proofs.lemmas.Bool.{and_parts}
use Rattle.std.proofs.lemmas.List.{take_all, take_at, drop_at, get_or_at, length-append, append-nil, append_assoc}
use Rattle.std.proofs.lemmas.List.Folds.{list_all-append}
use Rattle.std.proofs.lemmas.List.Sums.{suffix_len-take_no}
use Rattle.plain_text.specs.Blank.{is_blank}
use Rattle.rv32_text.specs.Blank.{without_blanks_before, without_blanks_behind, trimmed}

-- ---- tests of all

pub both : (a b : Bool) → a ≡ true → b ≡ true → (a && b) ≡ true
both a b p q = rw (p, q) refl

pub all_join : (p : ℕ → Bool) (xs ys : List ℕ) → list_all p xs ≡ true → list_all p ys ≡ true → list_all p (xs ++ ys) ≡ true
all_join p xs ys a b = list_all-append p xs ys ∙ both _ _ a b

pub all_weaken : (p q : ℕ → Bool) → ((b : ℕ) → p b ≡ true → q b ≡ true) → (xs : List ℕ) → list_all p xs ≡ true → list_all q xs ≡ true
all_weaken p q weaker [] e = refl
all_weaken p q weaker (x ∷ xs) e =
    let parts = and_parts (p x) (list_all p xs) e in
    both (q x) (list_all q xs) (weaker x parts.0) (all_weaken p q weaker xs parts.1)

-- ---- cuts

pub passes_through : (p : ℕ → Bool) (xs ys : List ℕ) → list_all p xs ≡ true → prefix_len p (xs ++ ys) ≡ length xs + prefix_len p ys
passes_through p [] ys e = omega arith
passes_through p (x ∷ xs) ys e =
    let parts = and_parts (p x) (list_all p xs) e in
    let more = passes_through p xs ys parts.1 in
    rw parts.0 (omega (arith, more))

-- no byte of these is one at which q cuts
abbrev pub Lacks : (ℕ → Bool) → List ℕ → Type 0
Lacks q xs = list_all (λ b. not (q b)) xs ≡ true

stops_at : (q : ℕ → Bool) (y : ℕ) (ys : List ℕ) → q y ≡ true → position_or_len q (y ∷ ys) ≡ 0
stops_at q y ys e = rw e refl

pub cut_place : (q : ℕ → Bool) (xs : List ℕ) (y : ℕ) (ys : List ℕ) → Lacks q xs → q y ≡ true → position_or_len q (xs ++ y ∷ ys) ≡ length xs
cut_place q xs y ys lacks e = omega (arith, passes_through (λ b. not (q b)) xs (y ∷ ys) lacks, stops_at q y ys e)

pub cut_before : (q : ℕ → Bool) (xs : List ℕ) (y : ℕ) (ys : List ℕ) → Lacks q xs → q y ≡ true → before_first q (xs ++ y ∷ ys) ≡ xs
cut_before q xs y ys lacks e = take_at xs (y ∷ ys) _ (sym (cut_place q xs y ys lacks e))

drop_more : (xs : List ℕ) (y : ℕ) (ys : List ℕ) → drop (length xs + 1) (xs ++ y ∷ ys) ≡ ys
drop_more xs y ys =
    let e : xs ++ y ∷ ys ≡ (xs ++ y ∷ []) ++ ys = sym (append_assoc xs (y ∷ []) ys) in
    rw e (drop_at (xs ++ y ∷ []) ys _ (length-append xs (y ∷ [])))

pub cut_behind : (q : ℕ → Bool) (xs : List ℕ) (y : ℕ) (ys : List ℕ) → Lacks q xs → q y ≡ true → after_first q (xs ++ y ∷ ys) ≡ ys
cut_behind q xs y ys lacks e = rw (cut_place q xs y ys lacks e) (drop_more xs y ys)

pub uncut_place : (q : ℕ → Bool) (xs : List ℕ) → Lacks q xs → position_or_len q xs ≡ length xs
uncut_place q xs lacks =
    let all = passes_through (λ b. not (q b)) xs [] lacks in
    omega (arith, ap (position_or_len q) (append-nil xs), all)

pub uncut : (q : ℕ → Bool) (xs : List ℕ) → Lacks q xs → before_first q xs ≡ xs
uncut q xs lacks = take_all _ xs (omega (arith, uncut_place q xs lacks))

-- ---- blanks at the ends

-- the first byte, and the last
pub record Starts (p : ℕ → Bool) (xs : List ℕ) : Type 0 where
  pub first : ℕ
  pub behind : List ℕ
  pub is : xs ≡ first ∷ behind
  pub passes : p first ≡ true

pub record Ends (p : ℕ → Bool) (xs : List ℕ) : Type 0 where
  pub before : List ℕ
  pub last : ℕ
  pub is : xs ≡ before ++ last ∷ []
  pub passes : p last ≡ true

pub starts : (p : ℕ → Bool) (xs : List ℕ) → list_all p xs ≡ true → 0 < length xs → Starts p xs
starts p [] all some = absurd (omega arith)
starts p (x ∷ xs) all some = record { first = x; behind = xs; is = refl; passes = (and_parts (p x) (list_all p xs) all).0 }

pub starts_more : (p : ℕ → Bool) (xs ys : List ℕ) → Starts p xs → Starts p (xs ++ ys)
starts_more p xs ys s = record { first = s.first; behind = s.behind ++ ys; is = ap (λ (zs : List ℕ). zs ++ ys) s.is; passes = s.passes }

pub ends_behind : (p : ℕ → Bool) (xs ys : List ℕ) → Ends p ys → Ends p (xs ++ ys)
ends_behind p xs ys e = record { before = xs ++ e.before; last = e.last; is = ap (λ (zs : List ℕ). xs ++ zs) e.is ∙ sym (append_assoc xs e.before (e.last ∷ [])); passes = e.passes }

pub ends_cons : (p : ℕ → Bool) (x : ℕ) (ys : List ℕ) → Ends p ys → Ends p (x ∷ ys)
ends_cons p x ys e = ends_behind p (x ∷ []) ys e

pub ends : (p : ℕ → Bool) (xs : List ℕ) → list_all p xs ≡ true → 0 < length xs → Ends p xs
ends p [] all some = absurd (omega arith)
ends p (x ∷ []) all some = record { before = []; last = x; is = refl; passes = (and_parts (p x) true all).0 }
ends p (x ∷ y ∷ xs) all some =
    ends_cons p x (y ∷ xs) (ends p (y ∷ xs) (and_parts (p x) (list_all p (y ∷ xs)) all).1 (omega arith))

abbrev pub is_solid : ℕ → Bool
is_solid b = not (is_blank b)

pub not_true : (b : Bool) → not b ≡ true → b ≡ false
not_true true e = cc
not_true false e = refl

solid_first : (x : ℕ) (xs : List ℕ) → is_solid x ≡ true → without_blanks_before (x ∷ xs) ≡ x ∷ xs
unfolding without_blanks_before
solid_first x xs e = rw (not_true (is_blank x) e) refl

pub kept_front : (xs : List ℕ) → Starts is_solid xs → without_blanks_before xs ≡ xs
kept_front xs s = rw s.is (solid_first s.first s.behind s.passes)

pub space_gone : (xs : List ℕ) → without_blanks_before (32 ∷ xs) ≡ without_blanks_before xs
unfolding without_blanks_before
space_gone xs = let e : 1 + prefix_len is_blank xs ≡ suc (prefix_len is_blank xs) = omega arith in rw e refl

solid_last : (xs : List ℕ) (x : ℕ) → is_solid x ≡ true → without_blanks_behind (xs ++ x ∷ []) ≡ xs ++ x ∷ []
unfolding without_blanks_behind
solid_last xs x e =
    let all = xs ++ x ∷ [] in
    let size : length all ≡ length xs + 1 = length-append xs (x ∷ []) in
    let place : length all - 1 ≡ length xs = omega arith in
    let last : get_or all (length all - 1) 0 ≡ x = rw place (get_or_at xs x [] 0 _ refl) in
    let none : is_blank (get_or all (length all - 1) 0) ≡ false = rw last (not_true (is_blank x) e) in
    let zero_len = suffix_len-take_no is_blank all (length all) 0 (omega arith) (omega arith) none in
    let whole : take (length all) all ≡ all = take_all (length all) all (omega arith) in
    let zero_suffix : suffix_len is_blank all ≡ 0 = ap (suffix_len is_blank) (sym whole) ∙ zero_len in
    take_all _ all (omega (arith, zero_suffix))

pub kept_end : (xs : List ℕ) → Ends is_solid xs → without_blanks_behind xs ≡ xs
kept_end xs e = rw e.is (solid_last e.before e.last e.passes)

pub kept : (xs : List ℕ) → Starts is_solid xs → Ends is_solid xs → trimmed xs ≡ xs
kept xs s e = ap without_blanks_behind (kept_front xs s) ∙ kept_end xs e

pub space_trimmed : (xs : List ℕ) → Starts is_solid xs → Ends is_solid xs → trimmed (32 ∷ xs) ≡ xs
space_trimmed xs s e = ap without_blanks_behind (space_gone xs) ∙ kept xs s e
