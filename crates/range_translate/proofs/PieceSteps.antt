-- Steps of the search for longest runs: one more page, one more place.
use Rattle.std.proofs.Common.{◌≡◌, ℕ, zero, suc, ◌+◌, ◌<◌, List, [], ◌∷◌, ◌++◌, length, take, get_or, set, map, Option, Some, refl, sym, ap, ◌∙◌, subst, arith, add-one, append_assoc}
use Rattle.std.specs.List.{range_with_len, flat_map}
use Rattle.std.proofs.lemmas.List.{map-append, append-nil, take_more, take_more_set, take_all, length-set}
use Rattle.std.proofs.lemmas.List.FromFn.{map-range_with_len_more}
use Rattle.mind_base.specs.Page.{PageView}
use Rattle.range_translate.specs.Piece.{pages_in, places_in, Follows, IsLast, AreLongest}
use Rattle.range_translate.specs.declared.outliers.Piece.{Piece}

range_more : (a n : ℕ) → range_with_len a (suc n) ≡ range_with_len a n ++ (a + n) ∷ []
range_more a zero = ap (λ (x : ℕ). x ∷ []) (omega arith)
range_more a (suc n) = ap (λ (xs : List ℕ). a ∷ xs) (range_more (a + 1) n ∙ ap (λ (x : ℕ). range_with_len (a + 1) n ++ x ∷ []) (omega arith))

pub range_one_more : (a n : ℕ) → range_with_len a (n + 1) ≡ range_with_len a n ++ (a + n) ∷ []
range_one_more a n = rw add-one (range_more a n)

flat_map-push : (xs : List Piece) (p : Piece) → flat_map places_in (xs ++ p ∷ []) ≡ flat_map places_in xs ++ places_in p
flat_map-push [] p = append-nil (places_in p)
flat_map-push (x ∷ xs) p = ap (λ (zs : List (ℕ × ℕ)). places_in x ++ zs) (flat_map-push xs p) ∙ sym (append_assoc (places_in x) (flat_map places_in xs) (places_in p))

-- a piece that is one page longer
abbrev pub longer : Piece → Piece
longer p = record { memory = p.memory; first = p.first; pages = p.pages + 1 }

places_in-longer : (p : Piece) → places_in (longer p) ≡ places_in p ++ (p.memory, p.first + p.pages) ∷ []
places_in-longer p = ap (map (λ (n : ℕ). (p.memory, n))) (range_one_more p.first p.pages) ∙ map-append (λ (n : ℕ). (p.memory, n)) (range_with_len p.first p.pages) ((p.first + p.pages) ∷ [])

one_place : (memory number : ℕ) → places_in (record { memory = memory; first = number; pages = 1 }) ≡ (memory, number) ∷ []
one_place memory number = refl

IsLast-longer : (x p : Piece) (front : List Piece) → IsLast x (front ++ p ∷ []) → IsLast x (front ++ longer p ∷ [])
IsLast-longer x p [] h = h
IsLast-longer x p (y ∷ front) h = h

longest-longer : (p : Piece) (front : List Piece) → AreLongest (front ++ p ∷ []) → AreLongest (front ++ longer p ∷ [])
longest-longer p [] h = (omega arith, tt, tt)
longest-longer p (x ∷ front) h = (h.0, IsLast-longer x p front h.1, longest-longer p front h.2)

IsLast-push : (x p q : Piece) (front : List Piece) → IsLast x (front ++ p ∷ []) → IsLast x ((front ++ p ∷ []) ++ q ∷ [])
IsLast-push x p q [] h = h
IsLast-push x p q (y ∷ front) h = h

longest-push : (p q : Piece) (front : List Piece) → AreLongest (front ++ p ∷ []) → 0 < q.pages → (Follows p q → ⊥) → AreLongest ((front ++ p ∷ []) ++ q ∷ [])
longest-push p q [] h some apart = (h.0, apart, (some, tt, tt))
longest-push p q (x ∷ front) h some apart = (h.0, IsLast-push x p q front h.1, longest-push p q front h.2 some apart)

-- a list that is not empty ends in its last element
ends : (xs : List Piece) (n : ℕ) (d : Piece) → n + 1 ≡ length xs → xs ≡ take n xs ++ get_or xs n d ∷ []
ends xs n d e = sym (take_all (n + 1) xs (omega arith)) ∙ take_more xs n d (omega arith)

pub record Adds (old new : List Piece) (memory number : ℕ) : Type 0 where
  pub places : flat_map places_in new ≡ flat_map places_in old ++ (memory, number) ∷ []
  pub longest : AreLongest new

-- the last piece takes the place that follows it
pub adds_to_last : (xs : List Piece) (n : ℕ) (p : Piece) (memory number : ℕ) → AreLongest xs → n + 1 ≡ length xs → p ≡ get_or xs n p → p.memory ≡ memory → p.first + p.pages ≡ number →
    Adds xs (set xs n (longer p)) memory number
adds_to_last xs n p memory number h len read m e =
    let front = take n xs in
    let old : xs ≡ front ++ p ∷ [] = ends xs n p len ∙ ap (λ (x : Piece). front ++ x ∷ []) (sym read) in
    let new : set xs n (longer p) ≡ front ++ longer p ∷ []
    = sym (take_all (n + 1) (set xs n (longer p)) (omega (arith, length-set xs n (longer p)))) ∙ take_more_set xs n (longer p) (omega arith) in
    let place : ◌≡◌ {A = ℕ × ℕ} (p.memory, p.first + p.pages) (memory, number) = cc in
    record {
      places = ap (flat_map places_in) new ∙ flat_map-push front (longer p) ∙ ap (λ (zs : List (ℕ × ℕ)). flat_map places_in front ++ zs) (places_in-longer p)
          ∙ sym (append_assoc (flat_map places_in front) (places_in p) ((p.memory, p.first + p.pages) ∷ []))
          ∙ ap (λ (zs : List (ℕ × ℕ)). zs ++ (p.memory, p.first + p.pages) ∷ []) (sym (flat_map-push front p) ∙ sym (ap (flat_map places_in) old))
          ∙ ap (λ (z : ℕ × ℕ). flat_map places_in xs ++ z ∷ []) place;
      longest = subst AreLongest (sym new) (longest-longer p front (subst AreLongest old h));
    }

abbrev pub one : ℕ → ℕ → Piece
one memory number = record { memory = memory; first = number; pages = 1 }

-- else it is a piece of its own
pub adds_after_last : (xs : List Piece) (n : ℕ) (p : Piece) (memory number : ℕ) → AreLongest xs → n + 1 ≡ length xs → p ≡ get_or xs n p → ((p.memory ≡ memory) × (p.first + p.pages ≡ number) → ⊥) →
    Adds xs (xs ++ one memory number ∷ []) memory number
adds_after_last xs n p memory number h len read apart =
    let front = take n xs in
    let old : xs ≡ front ++ p ∷ [] = ends xs n p len ∙ ap (λ (x : Piece). front ++ x ∷ []) (sym read) in
    record {
      places = flat_map-push xs (one memory number);
      longest = subst (λ (ys : List Piece). AreLongest (ys ++ one memory number ∷ [])) (sym old) (longest-push p (one memory number) front (subst AreLongest old h) (omega arith) apart);
    }

pub adds_first : (xs : List Piece) (memory number : ℕ) → length xs ≡ 0 → Adds xs (xs ++ one memory number ∷ []) memory number
adds_first [] memory number e = record { places = refl; longest = (omega arith, tt, tt) }
adds_first (x ∷ xs) memory number e = absurd (omega (arith, e))

-- the places so far, and that of one more page
pub one_page_more : (place : PageView → Option (ℕ × ℕ)) (domain base n memory number : ℕ) (before after : List (ℕ × ℕ)) →
    map Some before ≡ map place (pages_in (record { domain = domain; base = base; pages = n })) → after ≡ before ++ (memory, number) ∷ [] →
    place (record { domain = domain; number = base + n }) ≡ Some (memory, number) →
    map Some after ≡ map place (pages_in (record { domain = domain; base = base; pages = n + 1 }))
one_page_more place domain base n memory number before after so_far e here =
    let f : ℕ → PageView = λ k. record { domain = domain; number = k } in
    ap (map Some) e ∙ map-append Some before ((memory, number) ∷ [])
    ∙ ap (λ (zs : List (Option (ℕ × ℕ))). zs ++ Some (memory, number) ∷ []) so_far
    ∙ ap (λ (z : Option (ℕ × ℕ)). map place (map f (range_with_len base n)) ++ z ∷ []) (sym here)
    ∙ sym (map-append place (map f (range_with_len base n)) (f (base + n) ∷ []))
    ∙ sym (ap (map place) (map-range_with_len_more f base n (base + n) refl))
