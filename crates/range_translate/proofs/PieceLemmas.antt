-- Pieces are what their places make: so they are known, and few.
use Rattle.std.proofs.Common.{◌≡◌, ℕ, zero, suc, ◌+◌, ◌<◌, ◌≤◌, true, cond, ◌&&◌, ◌==◌, inl, inr, List, [], ◌∷◌, ◌++◌, length, map, drop, slice_get, get_or, Option, Some, refl, sym, ap, subst, ◌∙◌, arith}
use Rattle.std.specs.List.{All, range_with_len, flat_map, filter_map, cons_option}
use Rattle.std.proofs.lemmas.Bool.{cases_Bool}
use Rattle.std.proofs.lemmas.Bool.Decides.{nat_tests}
use Rattle.std.proofs.lemmas.List.{length-map, length-append}
use Rattle.std.proofs.lemmas.List.FromFn.{length-map-range_with_len}
use Rattle.std.proofs.lemmas.Option.{same_Some}
use Rattle.mind_base.specs.Page.{PageView}
use Rattle.mind_base.specs.Span.{SpanView}
use Rattle.range_translate.specs.Piece.{pages_in, places_in, IsLast, AreLongest, with_place, pieces_from, pieces_of}
use Rattle.range_translate.specs.declared.outliers.Piece.{Piece}

abbrev piece : ℕ → ℕ → ℕ → Piece
piece memory first pages = record { memory = memory; first = first; pages = pages }

-- ---- exactly

goes-on : (m f : ℕ) → (m == m && f + 1 == f + 1) ≡ true
goes-on m f = grind (arith, nat_tests)

parts : (m f n g : ℕ) → (m == n && f + 1 == g) ≡ true → (m ≡ n) × (f + 1 ≡ g)
parts m f n g t = (grind (arith, nat_tests), grind (arith, nat_tests))

-- a place in front of pieces of which the first does not go on there
starts : (m f : ℕ) (ps : List Piece) → IsLast (piece m f 1) ps → with_place (m, f) ps ≡ piece m f 1 ∷ ps
starts m f [] h = refl
starts m f (p ∷ ps) h =
    elim (cases_Bool (m == p.memory && f + 1 == p.first)) [
      | inl t ↦ absurd (h (parts m f p.memory p.first t))
      | inr t ↦ ap (λ b. cond b (piece m f (p.pages + 1) ∷ ps) (piece m f 1 ∷ p ∷ ps)) t
    ]

-- and one in front of a piece that goes on
lengthens : (m f n : ℕ) (ps : List Piece) → with_place (m, f) (piece m (f + 1) n ∷ ps) ≡ piece m f (n + 1) ∷ ps
lengthens m f n ps = ap (λ b. cond b (piece m f (n + 1) ∷ ps) (piece m f 1 ∷ piece m (f + 1) n ∷ ps)) (goes-on m f)

last-on : (m f n : ℕ) (ps : List Piece) → IsLast (piece m f (suc (suc n))) ps → IsLast (piece m (f + 1) (suc n)) ps
last-on m f n [] h = tt
last-on m f n (p ∷ ps) h = λ follows. h (follows.0, omega (arith, follows.1))

run : (m n f : ℕ) (ps : List Piece) (places : List (ℕ × ℕ)) → pieces_from places ≡ ps → IsLast (piece m f (suc n)) ps
    → pieces_from (map (λ k. (m, k)) (range_with_len f (suc n)) ++ places) ≡ piece m f (suc n) ∷ ps
run m zero f ps places e last = ap (with_place (m, f)) e ∙ starts m f ps last
run m (suc n) f ps places e last =
    let one : suc n + 1 ≡ suc (suc n) = omega arith in
    ap (with_place (m, f)) (run m n (f + 1) ps places e (last-on m f n ps last)) ∙ lengthens m f (suc n) ps ∙ ap (λ k. piece m f k ∷ ps) one

whole : (p : Piece) (n : ℕ) (ps : List Piece) (places : List (ℕ × ℕ)) → p.pages ≡ n → 0 < n → pieces_from places ≡ ps → IsLast p ps → pieces_from (places_in p ++ places) ≡ p ∷ ps
whole p zero ps places e some made last = absurd (omega arith)
whole p (suc n) ps places e some made last =
    let same : piece p.memory p.first (suc n) ≡ p = ap (piece p.memory p.first) (sym e) in
    ap (λ k. pieces_from (map (λ i. (p.memory, i)) (range_with_len p.first k) ++ places)) e
    ∙ run p.memory n p.first ps places made (subst (λ q. IsLast q ps) (sym same) last) ∙ ap (λ q. q ∷ ps) same

-- longest pieces are those that their places make
made : (ps : List Piece) → AreLongest ps → pieces_from (flat_map places_in ps) ≡ ps
made [] h = refl
made (p ∷ ps) h = whole p p.pages ps (flat_map places_in ps) refl h.0 (made ps h.2) h.1

-- the places of pages that all have one
kept : (place : PageView → Option (ℕ × ℕ)) (pages : List PageView) (places : List (ℕ × ℕ)) → map Some places ≡ map place pages → filter_map place pages ≡ places
kept place [] [] e = refl
kept place [] (x ∷ places) e = absurd (omega (arith, ap length e))
kept place (p ∷ pages) [] e = absurd (omega (arith, ap length e))
kept place (p ∷ pages) (x ∷ places) e =
    let here : Some x ≡ place p = same_Some (Some x) (place p) (ap (λ os. slice_get os 0) e) in
    let later : map Some places ≡ map place pages = ap (drop 1) e in
    ap (λ o. cons_option o (filter_map place pages)) (sym here) ∙ ap (λ xs. x ∷ xs) (kept place pages places later)

pub exactly : (place : PageView → Option (ℕ × ℕ)) (span : SpanView) (ps : List Piece) → map Some (flat_map places_in ps) ≡ map place (pages_in span) → AreLongest ps → ps ≡ pieces_of place span
exactly place span ps places longest =
    sym (ap pieces_from (kept place (pages_in span) (flat_map places_in ps) places) ∙ made ps longest)

-- the places of all pages of a run, when as many were seen as it has
pub all-seen : (place : PageView → Option (ℕ × ℕ)) (span : SpanView) (seen : ℕ) (ps : List Piece) → map Some (flat_map places_in ps) ≡ map place (pages_in (record { domain = span.domain; base = span.base; pages = seen })) → seen ≡ span.pages
    → map Some (flat_map places_in ps) ≡ map place (pages_in span)
all-seen place span seen ps e same = e ∙ ap (λ n. map place (pages_in (record { domain = span.domain; base = span.base; pages = n }))) same

-- ---- few

places-count : (p : Piece) → length (places_in p) ≡ p.pages
places-count p = length-map-range_with_len (λ n. (p.memory, n)) p.first p.pages

-- each piece has a place, and no more than there are
count : (ps : List Piece) → AreLongest ps → length ps ≤ length (flat_map places_in ps)
count [] h = omega arith
count (p ∷ ps) h = omega (arith, h.0, count ps h.2, places-count p, length-append (places_in p) (flat_map places_in ps))

fit : (ps : List Piece) (n : ℕ) → AreLongest ps → length (flat_map places_in ps) ≤ n → All (λ p. (0 < p.pages) × (p.pages ≤ n)) ps
fit [] n h le = λ k d lt. absurd (omega arith)
fit (p ∷ ps) n h le = λ k d. elim k as (λ k. k < suc (length ps) → (0 < (get_or (p ∷ ps) k d).pages) × ((get_or (p ∷ ps) k d).pages ≤ n)) [
  | zero ↦ λ lt. (h.0, omega (arith, le, places-count p, length-append (places_in p) (flat_map places_in ps)))
  | suc i ↦ λ lt. fit ps n h.2 (omega (arith, le, length-append (places_in p) (flat_map places_in ps))) i d (omega arith)
]

all-pages : (place : PageView → Option (ℕ × ℕ)) (span : SpanView) (places : List (ℕ × ℕ)) → map Some places ≡ map place (pages_in span) → length places ≡ span.pages
all-pages place span places e =
    sym (length-map places Some) ∙ ap length e ∙ length-map (pages_in span) place ∙ length-map-range_with_len (λ n. record { domain = span.domain; number = n }) span.base span.pages

pub few : (place : PageView → Option (ℕ × ℕ)) (span : SpanView) (ps : List Piece) → map Some (flat_map places_in ps) ≡ map place (pages_in span) → AreLongest ps → length ps ≤ span.pages
few place span ps places longest = omega (arith, count ps longest, all-pages place span (flat_map places_in ps) places)

pub short : (place : PageView → Option (ℕ × ℕ)) (span : SpanView) (ps : List Piece) → map Some (flat_map places_in ps) ≡ map place (pages_in span) → AreLongest ps → All (λ p. (0 < p.pages) × (p.pages ≤ span.pages)) ps
short place span ps places longest = fit ps span.pages longest (omega (arith, all-pages place span (flat_map places_in ps) places))
