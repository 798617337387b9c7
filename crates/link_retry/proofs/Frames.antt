-- What holds of the frames of a wire when one is taken out or put.
use Rattle.std.proofs.Common.{◌≡◌, ℕ, ◌+◌, ◌<◌, ◌≤◌, ◌%◌, zero, suc, List, [], ◌∷◌, ◌++◌, length, take, drop, map, refl, subst, sym, ap, ◌∙◌, arith, Bool, true, false, cond, length-append, length-take, length-drop}
use Rattle.std.specs.Prelude.{All, Option, Some, None, option_map, remove, slice_get, nat_lt}
use Rattle.std.specs.List.{range_with_len}
use Rattle.std.specs.List.Sorted.{IsStrictlyIncreasing}
use Rattle.std.proofs.lemmas.List.Elements.{All-append, All-take, All-drop, All-push}
use Rattle.std.proofs.lemmas.List.FromFn.{length-range_with_len, get_or-range_with_len}
use Rattle.std.proofs.lemmas.List.{map-append, take-map, drop-map, length-map}
use Rattle.std.proofs.lemmas.Option.{get_or_from_slice_get, slice_get_within, slice_get-map}
use Rattle.link_retry.specs.Wire.{frame_at, without_frame, with_frame, with_any, with_copy}

pub All-without : (P : ℕ → Type 0) (wire : List ℕ) (k : ℕ) → All P wire → All P (without_frame wire k)
All-without P wire k h =
    let i : ℕ = k % length wire in
    All-append P (take i wire) (drop (suc i) wire) (All-take P i wire h) (All-drop P (suc i) wire h)

pub length-without : (wire : List ℕ) (k : ℕ) → length (without_frame wire k) ≤ length wire
length-without wire k =
    omega (arith, length-append (take (k % length wire) wire) (drop (suc (k % length wire)) wire), length-take (k % length wire) wire, length-drop (suc (k % length wire)) wire)

All-put : (P : ℕ → Type 0) (wire : List ℕ) (n : ℕ) (fits : Bool) → All P wire → P n → All P (cond fits (wire ++ n ∷ []) wire)
All-put P wire n true h p = All-push P wire n h p
All-put P wire n false h p = h

pub All-with_frame : (P : ℕ → Type 0) (wire : List ℕ) (n : ℕ) → All P wire → P n → All P (with_frame wire n)
All-with_frame P wire n h p = All-put P wire n (nat_lt (length wire) 64) h p

pub length-with_frame : (wire : List ℕ) (n : ℕ) → length wire ≤ 64 → length (with_frame wire n) ≤ 64
length-with_frame wire n h = grind (arith, length-append {A = ℕ})

-- a frame that is named is one of the wire's
pub at_frame : (P : ℕ → Type 0) (wire : List ℕ) (k n : ℕ) → All P wire → frame_at wire k ≡ Some n → P n
at_frame P wire k n h e =
    subst P (get_or_from_slice_get wire (k % length wire) n 0 e) (h (k % length wire) 0 (slice_get_within wire (k % length wire) n e))

-- one more number in a row
pub range_more : (a n : ℕ) → range_with_len a (n + 1) ≡ range_with_len a n ++ (a + n) ∷ []
range_more a zero = ap (λ (x : ℕ). x ∷ []) (omega arith)
range_more a (suc n) =
    let step : range_with_len (a + 1) (n + 1) ≡ range_with_len (a + 1) n ++ (a + 1 + n) ∷ [] = range_more (a + 1) n in
    let first : suc n + 1 ≡ suc (n + 1) = omega arith in
    let last : a + 1 + n ≡ a + suc n = omega arith in
    ap (range_with_len a) first ∙ ap (λ (xs : List ℕ). a ∷ xs) step ∙ ap (λ (x : ℕ). a ∷ (range_with_len (a + 1) n ++ x ∷ [])) last

-- the numbers of a row
pub All-range : (P : ℕ → Type 0) (a n : ℕ) → ((x : ℕ) → a ≤ x → x < a + n → P x) → All P (range_with_len a n)
All-range P a n h = λ k d b.
    let inside : k < n = omega (arith, length-range_with_len a n) in
    subst P (sym (get_or-range_with_len a n k d inside)) (h (a + k) (omega arith) (omega arith))

pub IsStrictlyIncreasing-range : (a n : ℕ) → IsStrictlyIncreasing (range_with_len a n)
IsStrictlyIncreasing-range a n = λ k b.
    let later : k + 1 < n = omega (arith, length-range_with_len a n) in
    let here : k < n = omega arith in
    omega (arith, get_or-range_with_len a n k 0 here, get_or-range_with_len a n (k + 1) 0 later)

-- ---- what is read of each frame, on the wire with another frame or without one

pub map-without : {A : Type 0} (f : A → ℕ) (wire : List A) (k : ℕ) → map f (without_frame wire k) ≡ without_frame (map f wire) k
map-without {A} f wire k =
    map-append f (take (k % length wire) wire) (drop (suc (k % length wire)) wire)
    ∙ (λ i. sym (take-map f (k % length wire) wire) i ++ sym (drop-map f (suc (k % length wire)) wire) i)
    ∙ ap (λ (n : ℕ). remove (map f wire) (k % n)) (sym (length-map wire f))

pub map-with : {A : Type 0} (f : A → ℕ) (wire : List A) (frame : A) → map f (with_frame wire frame) ≡ with_frame (map f wire) (f frame)
map-with {A} f wire frame = by (nat_lt (length wire) 64) ∙ ap (λ (n : ℕ). cond (nat_lt n 64) (map f wire ++ f frame ∷ []) (map f wire)) (sym (length-map wire f)) where
  by : (fits : Bool) → map f (cond fits (wire ++ frame ∷ []) wire) ≡ cond fits (map f wire ++ f frame ∷ []) (map f wire)
  by true = map-append f wire (frame ∷ [])
  by false = refl

pub map-frame : {A : Type 0} (f : A → ℕ) (wire : List A) (k : ℕ) → frame_at (map f wire) k ≡ option_map f (frame_at wire k)
map-frame {A} f wire k = ap (λ (n : ℕ). slice_get (map f wire) (k % n)) (length-map wire f) ∙ slice_get-map f wire (k % length wire)

map-any : {A : Type 0} (f : A → ℕ) (wire : List A) (frame : Option A) → map f (with_any wire frame) ≡ with_any (map f wire) (option_map f frame)
map-any {A} f wire None = refl
map-any {A} f wire (Some frame) = map-with f wire frame

pub map-copy : {A : Type 0} (f : A → ℕ) (wire : List A) (k : ℕ) → map f (with_copy wire k) ≡ with_copy (map f wire) k
map-copy {A} f wire k = map-any f wire (frame_at wire k) ∙ ap (with_any (map f wire)) (sym (map-frame f wire k))

-- a copy of a frame is one of the wire's
pub All-copy : (P : ℕ → Type 0) (wire : List ℕ) (k : ℕ) → All P wire → All P (with_copy wire k)
All-copy P wire k h = by (frame_at wire k) refl where
  by : (frame : Option ℕ) → frame_at wire k ≡ frame → All P (with_any wire frame)
  by None is = h
  by (Some n) is = All-with_frame P wire n h (at_frame P wire k n h is)

pub length-copy : (wire : List ℕ) (k : ℕ) → length wire ≤ 64 → length (with_copy wire k) ≤ 64
length-copy wire k h = by (frame_at wire k) where
  by : (frame : Option ℕ) → length (with_any wire frame) ≤ 64
  by None = h
  by (Some n) = length-with_frame wire n h
