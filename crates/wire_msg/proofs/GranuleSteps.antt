-- The granules of an image one after another, as code writes and reads them.
use Rattle.std.proofs.Common.{◌≡◌, ℕ, suc, ◌+◌, ◌-◌, ◌*◌, ◌/◌, ◌%◌, ◌^◌, ◌<◌, ◌≤◌, cond, ◌==◌, List, [], ◌∷◌, ◌++◌, length, take, drop, get_or, Option, Some, None, refl, sym, ap, subst, ◌∙◌, arith, append_assoc, append-nil, drop-cons, length-drop}
use Rattle.std.proofs.Common.{inl, inr, Result, Ok, Err, OnErr}
use Rattle.std.specs.Option.{option_map}
use Rattle.std.proofs.Common.{drop_of_length-le}
use Rattle.std.proofs.lemmas.List.{drop-drop}
use Rattle.std.proofs.lemmas.Bool.{cases_lt}
use Rattle.std.proofs.lemmas.Nat.{pow_below}
use Rattle.wire_msg.proofs.Images.{mask-below}
use Rattle.wire_msg.specs.Spelling.{is_blank, granule_bytes, granules_bytes, mask_of}
use Rattle.wire_msg.specs.Reading.{◌>>=◌, granule_read, granules_read, FailsRead}
use Rattle.wire_msg.specs.declared.refusals.WireRefusal.{WireRefusal}
use Rattle.wire_msg.specs.declared.refusals.WireRefusal.TheVariants.{BadFrame, NoMemory}

-- ---- what is written: the granule with a number, and those behind it

pub granule-next : (bytes tags : List ℕ) (g d : ℕ) → g < length tags
    → granules_bytes (drop (64 * g) bytes) (drop g tags) ≡ granule_bytes (take 64 (drop (64 * g) bytes)) (get_or tags g d) ++ granules_bytes (drop (64 * (g + 1)) bytes) (drop (g + 1) tags)
unfolding granules_bytes
granule-next bytes tags g d h =
    let at : 64 * g + 64 ≡ 64 * (g + 1) = omega arith in
    let behind : drop 64 (drop (64 * g) bytes) ≡ drop (64 * (g + 1)) bytes = drop-drop 64 (64 * g) bytes ∙ ap (λ (n : ℕ). drop n bytes) at in
    let tag = get_or tags g d in
    ap (granules_bytes (drop (64 * g) bytes)) (drop-cons tags g d h)
    ∙ (let next : suc g ≡ g + 1 = omega arith in λ i. granule_bytes (take 64 (drop (64 * g) bytes)) tag ++ granules_bytes (behind i) (drop (next i) tags))

pub mask-next : (bytes tags : List ℕ) (g d : ℕ) → g < length tags
    → mask_of (drop (64 * g) bytes) (drop g tags) ≡ cond (is_blank (take 64 (drop (64 * g) bytes)) (get_or tags g d)) 0 1 + 2 * mask_of (drop (64 * (g + 1)) bytes) (drop (g + 1) tags)
unfolding mask_of
mask-next bytes tags g d h =
    let at : 64 * g + 64 ≡ 64 * (g + 1) = omega arith in
    let behind : drop 64 (drop (64 * g) bytes) ≡ drop (64 * (g + 1)) bytes = drop-drop 64 (64 * g) bytes ∙ ap (λ (n : ℕ). drop n bytes) at in
    let tag = get_or tags g d in
    ap (mask_of (drop (64 * g) bytes)) (drop-cons tags g d h)
    ∙ (let next : suc g ≡ g + 1 = omega arith in λ i. cond (is_blank (take 64 (drop (64 * g) bytes)) tag) 0 1 + 2 * mask_of (behind i) (drop (next i) tags))

pub mask-none : (bytes tags : List ℕ) → length tags ≡ 64 → 0 ≡ mask_of (drop 4096 bytes) (drop 64 tags)
unfolding mask_of
mask-none bytes tags h = sym (ap (mask_of (drop 4096 bytes)) (drop_of_length-le tags (let l : length tags ≤ 64 = omega (arith, h) in l)))

-- a bit more before those of the granules behind it
pub mask-more : (bytes tags : List ℕ) (i bit mask : ℕ) → i < 64 → length tags ≡ 64 → bit ≡ cond (is_blank (take 64 (drop (64 * (63 - i)) bytes)) (get_or tags (63 - i) 0)) 0 1
    → mask ≡ mask_of (drop (64 * (64 - i)) bytes) (drop (64 - i) tags) → 2 * mask + bit ≡ mask_of (drop (64 * (64 - (i + 1))) bytes) (drop (64 - (i + 1)) tags)
mask-more bytes tags i bit mask h len is so_far =
    let at : ℕ → ℕ = λ g. mask_of (drop (64 * g) bytes) (drop g tags) in
    let here : 64 - (i + 1) ≡ 63 - i = omega arith in
    let next : 63 - i + 1 ≡ 64 - i = omega (arith, h) in
    let step : at (63 - i) ≡ cond (is_blank (take 64 (drop (64 * (63 - i)) bytes)) (get_or tags (63 - i) 0)) 0 1 + 2 * at (63 - i + 1) = mask-next bytes tags (63 - i) 0 (omega (arith, len)) in
    let whole : at (64 - (i + 1)) ≡ bit + 2 * mask = ap at here ∙ step ∙ (λ j. sym is j + 2 * at (next j)) ∙ ap (λ (m : ℕ). bit + 2 * m) (sym so_far) in
    (let turned : 2 * mask + bit ≡ bit + 2 * mask = omega arith in turned) ∙ sym whole

power-top : (k : ℕ) → k < 64 → 2 ^ suc k ≤ 2 ^ 64
power-top k h = elim (cases_lt (suc k) 64) [
  | inl lt ↦ (let p : 2 ^ suc k < 2 ^ 64 = pow_below (suc k) 64 lt in omega (arith, p))
  | inr le ↦ (let same : suc k ≡ 64 = omega (arith, h, le) in subst (λ n. 2 ^ n ≤ 2 ^ 64) (sym same) (omega arith))
]

pub mask-fits : (bytes tags : List ℕ) (i mask : ℕ) → i < 64 → length tags ≡ 64 → mask ≡ mask_of (drop (64 * (64 - i)) bytes) (drop (64 - i) tags) → 2 * mask + 1 < 2 ^ 64
mask-fits bytes tags i mask h len is =
    let count : length (drop (64 - i) tags) ≡ i = omega (arith, length-drop (64 - i) tags, len, h) in
    let below : mask < 2 ^ i = rw is (mask-below i (drop (64 * (64 - i)) bytes) (drop (64 - i) tags) count) in
    let top = power-top i h in
    omega (arith, below, top)

-- ---- what is read: the granules so far, and those that are still to be read

abbrev pub joined : List ℕ → List ℕ → Option ((List ℕ × List ℕ) × List ℕ) → Option ((List ℕ × List ℕ) × List ℕ)
joined page tags others = option_map (λ x. ((page ++ x.0.0, tags ++ x.0.1), x.1)) others

pub joined-none : (o : Option ((List ℕ × List ℕ) × List ℕ)) → o ≡ joined [] [] o
joined-none None = refl
joined-none (Some x) = refl

joined-more : (page tags granule : List ℕ) (tag : ℕ) (o : Option ((List ℕ × List ℕ) × List ℕ))
    → joined page tags (o >>= λ others. Some ((granule ++ others.0.0, tag ∷ others.0.1), others.1)) ≡ joined (page ++ granule) (tags ++ tag ∷ []) o
joined-more page tags granule tag None = refl
joined-more page tags granule tag (Some x) =
    let front = sym (append_assoc page granule x.0.0) in
    let labels = sym (append_assoc tags (tag ∷ []) x.0.1) in
    λ i. Some ((front i, labels i), x.1)

pub granules-more : (n left : ℕ) (rest page tags granule : List ℕ) (tag : ℕ) (behind : List ℕ) → n < 64 → granule_read (left % 2 == 1) rest ≡ Some ((granule, tag), behind)
    → joined page tags (granules_read (64 - n) left rest) ≡ joined (page ++ granule) (tags ++ tag ∷ []) (granules_read (64 - (n + 1)) (left / 2) behind)
unfolding granules_read
granules-more n left rest page tags granule tag behind h e =
    let m = 64 - (n + 1) in
    let one : 64 - n ≡ suc m = omega (arith, h) in
    ap (λ (k : ℕ). joined page tags (granules_read k left rest)) one
    ∙ ap (λ (o : Option ((List ℕ × ℕ) × List ℕ)). joined page tags (o >>= λ granule. granules_read m (left / 2) granule.1 >>= λ others. Some ((granule.0.0 ++ others.0.0, granule.0.1 ∷ others.0.1), others.1))) e
    ∙ joined-more page tags granule tag (granules_read m (left / 2) behind)

granules-none : (n left : ℕ) (rest page tags : List ℕ) → n < 64 → granule_read (left % 2 == 1) rest ≡ None → joined page tags (granules_read (64 - n) left rest) ≡ None
unfolding granules_read
granules-none n left rest page tags h e =
    let m = 64 - (n + 1) in
    let one : 64 - n ≡ suc m = omega (arith, h) in
    ap (λ (k : ℕ). joined page tags (granules_read k left rest)) one
    ∙ ap (λ (o : Option ((List ℕ × ℕ) × List ℕ)). joined page tags (o >>= λ granule. granules_read m (left / 2) granule.1 >>= λ others. Some ((granule.0.0 ++ others.0.0, granule.0.1 ∷ others.0.1), others.1))) e

pub granules-fail : (e : WireRefusal) (whole : Option ((List ℕ × List ℕ) × List ℕ)) (n left : ℕ) (rest page tags : List ℕ) → n < 64 → whole ≡ joined page tags (granules_read (64 - n) left rest)
    → FailsRead e (granule_read (left % 2 == 1) rest) → FailsRead e whole
granules-fail NoMemory whole n left rest page tags h is f = tt
granules-fail BadFrame whole n left rest page tags h is f = is ∙ granules-none n left rest page tags h f

pub granules-done : (n left : ℕ) (rest page tags : List ℕ) → 64 ≤ n → joined page tags (granules_read (64 - n) left rest) ≡ Some ((page, tags), rest)
unfolding granules_read
granules-done n left rest page tags h =
    let none : 64 - n ≡ 0 = omega (arith, h) in
    ap (λ (k : ℕ). joined page tags (granules_read k left rest)) none
    ∙ (let front = append-nil page in let labels = append-nil tags in λ i. Some ((front i, labels i), rest))

-- ---- what is still to be written stays the same

pub written-more : (bytes tags : List ℕ) (g : ℕ) (old now next : List ℕ) → g < length tags → now ++ granules_bytes (drop (64 * g) bytes) (drop g tags) ≡ old ++ granules_bytes bytes tags
    → next ≡ now ++ granule_bytes (take 64 (drop (64 * g) bytes)) (get_or tags g 0) → next ++ granules_bytes (drop (64 * (g + 1)) bytes) (drop (g + 1) tags) ≡ old ++ granules_bytes bytes tags
written-more bytes tags g old now next h so_far is =
    let here = granule_bytes (take 64 (drop (64 * g) bytes)) (get_or tags g 0) in
    let behind = granules_bytes (drop (64 * (g + 1)) bytes) (drop (g + 1) tags) in
    ap (λ (w : List ℕ). w ++ behind) is ∙ append_assoc now here behind ∙ ap (λ (w : List ℕ). now ++ w) (sym (granule-next bytes tags g 0 h)) ∙ so_far

pub for-err : {A E : Type 0} (P : Type 0) (r : Result A E) → P → OnErr r P
for-err P (Ok x) p = tt
for-err P (Err e) p = p

pub more-behind : (old now next here : List ℕ) → next ≡ now ++ here → (more : List ℕ) × (now ≡ old ++ more) → (more : List ℕ) × (next ≡ old ++ more)
more-behind old now next here is m = (m.0 ++ here, is ∙ ap (λ (w : List ℕ). w ++ here) m.1 ∙ append_assoc old m.0 here)

pub written-all : (bytes tags : List ℕ) (g : ℕ) (old now : List ℕ) → length tags ≤ g → now ++ granules_bytes (drop (64 * g) bytes) (drop g tags) ≡ old ++ granules_bytes bytes tags → now ≡ old ++ granules_bytes bytes tags
unfolding granules_bytes
written-all bytes tags g old now h so_far =
    sym (append-nil now) ∙ ap (λ (ts : List ℕ). now ++ granules_bytes (drop (64 * g) bytes) ts) (sym (drop_of_length-le tags h)) ∙ so_far
