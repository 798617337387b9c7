-- An image is spelled by a mask of its granules and by these, and is read again by the bits of the mask.
use Rattle.std.proofs.Common.{◌≡◌, ℕ, zero, suc, ◌+◌, ◌*◌, ◌/◌, ◌%◌, ◌^◌, ◌<◌, Bool, true, false, cond, not, ◌==◌, List, [], ◌∷◌, ◌++◌, length, replicate, take, drop, get_or, Option, Some, refl, sym, ap, subst, ◌∙◌, arith, length-drop, length-append, append_assoc}
use Rattle.std.specs.Prelude.{All}
use Rattle.std.specs.Int.{w64, to_be_bytes, from_be_bytes}
use Rattle.std.specs.List.{list_all}
use Rattle.std.proofs.lemmas.Bool.{eqb-true}
use Rattle.std.proofs.lemmas.List.{take_at, drop_at, take-append-drop, length-take-le}
use Rattle.std.proofs.lemmas.List.Elements.{All-nil, All-cons, All-head, All-tail}
use Rattle.std.proofs.lemmas.Nat.{be_bytes_8, from_be_bytes-to_be_bytes_8}
use Rattle.std.proofs.lemmas.Grind.{get_or_default_zero}
use Rattle.mind_base.proofs.Callers.{and_parts, not-true, some-is}
use Rattle.page_image.specs.PageImage.{PageImageView, IsPageImage}
use Rattle.wire_msg.specs.Spelling.{image_bytes, is_blank, granule_bytes, granules_bytes, mask_of}
use Rattle.wire_msg.specs.Reading.{◌>>=◌, long_read, spelled_read, granule_read, granules_read, image_read, bytes_read}
use Rattle.wire_msg.proofs.Fields.{IsBytes, IsBytes-take, IsBytes-drop, IsField, Takes, bytes_takes, bytes_again, then_field, where_field, bind_some}

-- ---- numbers of 8 bytes, and runs of so many bytes

long_takes : (bytes : List ℕ) (x : ℕ × List ℕ) → IsBytes bytes → long_read bytes ≡ Some x → Takes bytes (to_be_bytes w64 x.0) x.1 × (x.0 < 2 ^ 64)
unfolding long_read
long_takes bytes x h e =
    let first = bind_some (bytes_read 8 bytes) (λ x. Some (from_be_bytes w64 x.0, x.1)) x e in
    let t = bytes_takes 8 bytes first.0 h first.1 in
    let run = first.0.0 in
    let bound : from_be_bytes w64 run < 2 ^ 64 = omega (arith, t.2 0, t.2 1, t.2 2, t.2 3, t.2 4, t.2 5, t.2 6, t.2 7) in
    let spelled : to_be_bytes w64 (from_be_bytes w64 run) ≡ run = be_bytes_8 run (from_be_bytes w64 run) t.1 t.2 refl in
    subst (λ (z : ℕ × List ℕ). Takes bytes (to_be_bytes w64 z.0) z.1 × (z.0 < 2 ^ 64)) (some-is (from_be_bytes w64 run, first.0.1) x first.2)
    (record { parts = t.0.parts ∙ ap (λ (w : List ℕ). w ++ first.0.1) (sym spelled); rest_fits = t.0.rest_fits }, bound)

long_again : (n : ℕ) (rest : List ℕ) → n < 2 ^ 64 → long_read (to_be_bytes w64 n ++ rest) ≡ Some (n, rest)
unfolding long_read
long_again n rest h =
    ap (λ (o : Option (List ℕ × List ℕ)). o >>= λ x. Some (from_be_bytes w64 x.0, x.1)) (bytes_again (to_be_bytes w64 n) rest)
    ∙ ap (λ (m : ℕ). Some (m, rest)) (from_be_bytes-to_be_bytes_8 n h)

long_field : IsField long_read (λ (n : ℕ). to_be_bytes w64 n) (λ n. n < 2 ^ 64)
long_field = record { takes = long_takes; again = long_again }

abbrev IsRun : List ℕ → Type 0
IsRun run = (length run ≡ 64) × IsBytes run

run_again : (run rest : List ℕ) → IsRun run → bytes_read 64 (run ++ rest) ≡ Some (run, rest)
run_again run rest h = ap (λ (n : ℕ). bytes_read n (run ++ rest)) (sym h.0) ∙ bytes_again run rest

run_field : IsField (bytes_read 64) (λ (run : List ℕ). run) IsRun
run_field = record { takes = λ bytes x h e. (let t = bytes_takes 64 bytes x h e in (t.0, (t.1, t.2))); again = run_again }

-- ---- one granule

abbrev pub IsGranule : List ℕ → ℕ → Type 0
IsGranule bytes tag = IsRun bytes × (tag < 2 ^ 64)

spelled_field : IsField spelled_read (λ (granule : List ℕ × ℕ). granule.0 ++ to_be_bytes w64 granule.1) (λ (granule : List ℕ × ℕ). IsGranule granule.0 granule.1 × (not (is_blank granule.0 granule.1) ≡ true))
unfolding spelled_read
spelled_field = where_field (then_field run_field long_field) (λ granule. not (is_blank granule.0 granule.1))

zeros : ℕ → List ℕ
zeros n = replicate n 0

zeros-at : (n i : ℕ) → get_or (zeros n) i 0 ≡ 0
unfolding zeros
zeros-at zero i = refl
zeros-at (suc n) zero = refl
zeros-at (suc n) (suc i) = zeros-at n i

zero_bytes : IsBytes (replicate 64 0)
unfolding zeros
zero_bytes i = let none : get_or (zeros 64) i 0 ≡ 0 = zeros-at 64 i in omega (arith, none)

all-zeros : (bytes : List ℕ) → list_all (λ byte. byte == 0) bytes ≡ true → bytes ≡ replicate (length bytes) 0
all-zeros [] e = refl
all-zeros (b ∷ bytes) e =
    let both = and_parts (b == 0) (list_all (λ byte. byte == 0) bytes) e in
    let first : b ≡ 0 = eqb-true b 0 both.0 in
    let others = all-zeros bytes both.1 in
    λ i. first i ∷ others i

blank-is : (bytes : List ℕ) (tag : ℕ) → length bytes ≡ 64 → is_blank bytes tag ≡ true → (bytes ≡ replicate 64 0) × (tag ≡ 0)
unfolding is_blank
blank-is bytes tag len e =
    let both = and_parts (tag == 0) (list_all (λ byte. byte == 0) bytes) e in
    (all-zeros bytes both.1 ∙ ap (λ (n : ℕ). replicate n 0) len, eqb-true tag 0 both.0)

zeros-blank : is_blank (replicate 64 0) 0 ≡ true
unfolding is_blank
zeros-blank = refl

-- what is read by a bit is spelled so, and is blank where the bit is not set
pub record ReadsGranule (bytes : List ℕ) (bit : Bool) (granule : List ℕ × ℕ) (rest : List ℕ) : Type 0 where
  pub taken : Takes bytes (granule_bytes granule.0 granule.1) rest
  pub fits : IsGranule granule.0 granule.1
  pub blank : is_blank granule.0 granule.1 ≡ not bit

granule_takes : (bit : Bool) (bytes : List ℕ) (x : (List ℕ × ℕ) × List ℕ) → IsBytes bytes → granule_read bit bytes ≡ Some x → ReadsGranule bytes bit x.0 x.1
unfolding granule_read
granule_takes false bytes x h e =
    subst (λ (z : (List ℕ × ℕ) × List ℕ). ReadsGranule bytes false z.0 z.1) (some-is ((replicate 64 0, 0), bytes) x e)
    (record {
      taken = record { parts = ap (λ (b : Bool). cond b [] (replicate 64 0 ++ to_be_bytes w64 0) ++ bytes) (sym zeros-blank); rest_fits = h };
      fits = ((refl, zero_bytes), omega arith);
      blank = zeros-blank;
    })
granule_takes true bytes x h e =
    let t = spelled_field.takes bytes x h e in
    let seen : is_blank x.0.0 x.0.1 ≡ false = not-true (is_blank x.0.0 x.0.1) t.1.1 in
    let spelled : x.0.0 ++ to_be_bytes w64 x.0.1 ≡ granule_bytes x.0.0 x.0.1 = ap (λ (b : Bool). cond b [] (x.0.0 ++ to_be_bytes w64 x.0.1)) (sym seen) in
    record {
      taken = record { parts = t.0.parts ∙ ap (λ (w : List ℕ). w ++ x.1) spelled; rest_fits = t.0.rest_fits };
      fits = t.1.0;
      blank = seen;
    }

granule_again : (bytes : List ℕ) (tag : ℕ) (rest : List ℕ) → IsGranule bytes tag → granule_read (not (is_blank bytes tag)) (granule_bytes bytes tag ++ rest) ≡ Some ((bytes, tag), rest)
unfolding granule_read
granule_again bytes tag rest h = by (is_blank bytes tag) refl where
  by : (blank : Bool) → is_blank bytes tag ≡ blank → granule_read (not blank) (cond blank [] (bytes ++ to_be_bytes w64 tag) ++ rest) ≡ Some ((bytes, tag), rest)
  by true e = let zeros = blank-is bytes tag h.0.0 e in λ i. Some ((sym zeros.0 i, sym zeros.1 i), rest)
  by false e = spelled_field.again (bytes, tag) rest (h, ap not e)

-- ---- all granules of a page

pub record AreGranules (bytes tags : List ℕ) (count : ℕ) : Type 0 where
  pub counted : length tags ≡ count
  pub sized : length bytes ≡ 64 * count
  pub each : IsBytes bytes
  pub range : All (λ tag. tag < 2 ^ 64) tags

IsBytes-append : (xs ys : List ℕ) → IsBytes xs → IsBytes ys → (i : ℕ) → get_or (xs ++ ys) i 0 < 256
IsBytes-append [] ys h k i = k i
IsBytes-append (x ∷ xs) ys h k zero = h 0
IsBytes-append (x ∷ xs) ys h k (suc i) = IsBytes-append xs ys (λ j. h (suc j)) k i

bit-of : (mask : ℕ) (blank : Bool) → blank ≡ not (mask % 2 == 1) → cond blank 0 1 ≡ mask % 2
bit-of mask blank e = ap (λ (b : Bool). cond b 0 1) e ∙ by (mask % 2) (let small : mask % 2 < 2 = omega arith in small) where
  by : (m : ℕ) → m < 2 → cond (not (m == 1)) 0 1 ≡ m
  by zero h = refl
  by (suc zero) h = refl
  by (suc (suc m)) h = absurd (omega arith)

pub record ReadsGranules (bytes : List ℕ) (count bits : ℕ) (parts : List ℕ × List ℕ) (rest : List ℕ) : Type 0 where
  pub taken : Takes bytes (granules_bytes parts.0 parts.1) rest
  pub fits : AreGranules parts.0 parts.1 count
  pub mask : mask_of parts.0 parts.1 ≡ bits

-- one granule more before those that were read
one-more : (bytes between rest : List ℕ) (count mask : ℕ) (granule : List ℕ × ℕ) (parts : List ℕ × List ℕ) → ReadsGranule bytes (mask % 2 == 1) granule between → ReadsGranules between count (mask / 2) parts rest
    → ReadsGranules bytes (suc count) mask (granule.0 ++ parts.0, granule.1 ∷ parts.1) rest
unfolding granules_bytes mask_of
one-more bytes between rest count mask granule parts one others =
    let here = granule.0 in
    let tag = granule.1 in
    let front : take 64 (here ++ parts.0) ≡ here = take_at here parts.0 64 one.fits.0.0 in
    let back : drop 64 (here ++ parts.0) ≡ parts.0 = drop_at here parts.0 64 one.fits.0.0 in
    let spelled : granule_bytes here tag ++ granules_bytes parts.0 parts.1 ≡ granules_bytes (here ++ parts.0) (tag ∷ parts.1) =
    λ i. granule_bytes (sym front i) tag ++ granules_bytes (sym back i) parts.1 in
    let masked : mask_of (here ++ parts.0) (tag ∷ parts.1) ≡ mask % 2 + 2 * (mask / 2) =
    (λ i. cond (is_blank (front i) tag) 0 1 + 2 * mask_of (back i) parts.1)
    ∙ ap (λ (n : ℕ). n + 2 * mask_of parts.0 parts.1) (bit-of mask (is_blank here tag) one.blank)
    ∙ ap (λ (n : ℕ). mask % 2 + 2 * n) others.mask in
    record {
      taken = record {
        parts = one.taken.parts
            ∙ ap (λ (w : List ℕ). granule_bytes here tag ++ w) others.taken.parts
            ∙ sym (append_assoc (granule_bytes here tag) (granules_bytes parts.0 parts.1) rest)
            ∙ ap (λ (w : List ℕ). w ++ rest) spelled;
        rest_fits = others.taken.rest_fits;
      };
      fits = record {
        counted = ap suc others.fits.counted;
        sized = omega (arith, length-append here parts.0, one.fits.0.0, others.fits.sized);
        each = IsBytes-append here parts.0 one.fits.0.1 others.fits.each;
        range = All-cons (λ tag. tag < 2 ^ 64) tag parts.1 one.fits.1 others.fits.range;
      };
      mask = masked ∙ (let whole : mask % 2 + 2 * (mask / 2) ≡ mask = omega arith in whole);
    }

granules_take : (count mask : ℕ) (bytes : List ℕ) (x : (List ℕ × List ℕ) × List ℕ) → IsBytes bytes → mask < 2 ^ count → granules_read count mask bytes ≡ Some x → ReadsGranules bytes count mask x.0 x.1
unfolding granules_read granules_bytes mask_of
granules_take zero mask bytes x h small e =
    subst (λ (z : (List ℕ × List ℕ) × List ℕ). ReadsGranules bytes 0 mask z.0 z.1) (some-is (([], []), bytes) x e)
    (record {
      taken = record { parts = refl; rest_fits = h };
      fits = record { counted = refl; sized = refl; each = λ i. omega arith; range = All-nil (λ tag. tag < 2 ^ 64) };
      mask = omega (arith, small);
    })
granules_take (suc count) mask bytes x h small e =
    let first = bind_some (granule_read (mask % 2 == 1) bytes) (λ granule. granules_read count (mask / 2) granule.1 >>= λ others. Some ((granule.0.0 ++ others.0.0, granule.0.1 ∷ others.0.1), others.1)) x e in
    let granule = first.0 in
    let second = bind_some (granules_read count (mask / 2) granule.1) (λ others. Some ((granule.0.0 ++ others.0.0, granule.0.1 ∷ others.0.1), others.1)) x first.2 in
    let one = granule_takes (mask % 2 == 1) bytes granule h first.1 in
    let half : mask / 2 < 2 ^ count = omega (arith, small) in
    let others = granules_take count (mask / 2) granule.1 second.0 one.taken.rest_fits half second.1 in
    subst (λ (z : (List ℕ × List ℕ) × List ℕ). ReadsGranules bytes (suc count) mask z.0 z.1) (some-is ((granule.0.0 ++ second.0.0.0, granule.0.1 ∷ second.0.0.1), second.0.1) x second.2)
    (one-more bytes granule.1 second.0.1 count mask granule.0 second.0.0 one others)

-- the granule at the front, and those behind it
front-fits : (bytes : List ℕ) (tag : ℕ) (tags : List ℕ) (count : ℕ) → AreGranules bytes (tag ∷ tags) (suc count) → IsGranule (take 64 bytes) tag × AreGranules (drop 64 bytes) tags count
front-fits bytes tag tags count h = (
  ((length-take-le 64 bytes (omega (arith, h.sized)), IsBytes-take 64 bytes h.each), All-head (λ tag. tag < 2 ^ 64) tag tags h.range),
  record {
    counted = (let c : suc (length tags) ≡ suc count = h.counted in omega (arith, c));
    sized = omega (arith, length-drop 64 bytes, h.sized);
    each = IsBytes-drop 64 bytes h.each;
    range = All-tail (λ tag. tag < 2 ^ 64) tag tags h.range;
  },
)

odd-of : (blank : Bool) (m : ℕ) → ((cond blank 0 1 + 2 * m) % 2 == 1) ≡ not blank
odd-of true m = let even : (0 + 2 * m) % 2 ≡ 0 = omega arith in ap (λ (n : ℕ). n == 1) even
odd-of false m = let odd : (1 + 2 * m) % 2 ≡ 1 = omega arith in ap (λ (n : ℕ). n == 1) odd

half-of : (blank : Bool) (m : ℕ) → (cond blank 0 1 + 2 * m) / 2 ≡ m
half-of true m = omega arith
half-of false m = omega arith

granules_again : (count : ℕ) (bytes tags rest : List ℕ) → AreGranules bytes tags count → granules_read count (mask_of bytes tags) (granules_bytes bytes tags ++ rest) ≡ Some ((bytes, tags), rest)
unfolding granules_read granules_bytes mask_of
granules_again zero [] [] rest h = refl
granules_again zero (b ∷ bytes) [] rest h = absurd (omega (arith, h.sized))
granules_again zero bytes (tag ∷ tags) rest h = absurd (omega (arith, h.counted))
granules_again (suc count) bytes [] rest h = absurd (omega (arith, h.counted))
granules_again (suc count) bytes (tag ∷ tags) rest h =
    let here = take 64 bytes in
    let behind = drop 64 bytes in
    let fits = front-fits bytes tag tags count h in
    let text : List ℕ = granules_bytes behind tags ++ rest in
    let blank = is_blank here tag in
    let m = mask_of behind tags in
    let mask : ℕ = cond blank 0 1 + 2 * m in
    let whole : (granule_bytes here tag ++ granules_bytes behind tags) ++ rest ≡ granule_bytes here tag ++ text = append_assoc (granule_bytes here tag) (granules_bytes behind tags) rest in
    let one : granule_read (mask % 2 == 1) ((granule_bytes here tag ++ granules_bytes behind tags) ++ rest) ≡ Some ((here, tag), text) =
    (λ i. granule_read (odd-of blank m i) (whole i)) ∙ granule_again here tag text fits.0 in
    let others : granules_read count (mask / 2) text ≡ Some ((behind, tags), rest) =
    ap (λ (n : ℕ). granules_read count n text) (half-of blank m) ∙ granules_again count behind tags rest fits.1 in
    ap (λ (o : Option ((List ℕ × ℕ) × List ℕ)). o >>= λ granule. granules_read count (mask / 2) granule.1 >>= λ others. Some ((granule.0.0 ++ others.0.0, granule.0.1 ∷ others.0.1), others.1)) one
    ∙ ap (λ (o : Option ((List ℕ × List ℕ) × List ℕ)). o >>= λ others. Some ((here ++ others.0.0, tag ∷ others.0.1), others.1)) others
    ∙ ap (λ (bs : List ℕ). Some ((bs, tag ∷ tags), rest)) (take-append-drop 64 bytes)

pub mask-below : (count : ℕ) (bytes tags : List ℕ) → length tags ≡ count → mask_of bytes tags < 2 ^ count
unfolding mask_of
mask-below zero bytes [] h = omega arith
mask-below zero bytes (tag ∷ tags) h = absurd (omega (arith, h))
mask-below (suc count) bytes [] h = absurd (omega (arith, h))
mask-below (suc count) bytes (tag ∷ tags) h =
    by (is_blank (take 64 bytes) tag) (mask-below count (drop 64 bytes) tags (let c : suc (length tags) ≡ suc count = h in omega (arith, c))) where
      by : (blank : Bool) → mask_of (drop 64 bytes) tags < 2 ^ count → cond blank 0 1 + 2 * mask_of (drop 64 bytes) tags < 2 ^ suc count
      by true k = omega (arith, k)
      by false k = omega (arith, k)

-- ---- the image

image_of-granules : (bytes tags : List ℕ) → AreGranules bytes tags 64 → IsPageImage (record { bytes = bytes; tags = tags })
image_of-granules bytes tags h = record {
  byte_count = h.sized;
  tag_count = h.counted;
  byte_range = λ k d lt. rw (get_or_default_zero bytes k d lt) (h.each k);
  tag_range = h.range;
}

granules_of-image : (image : PageImageView) → IsPageImage image → IsBytes image.bytes → AreGranules image.bytes image.tags 64
granules_of-image image h each = record { counted = h.tag_count; sized = h.byte_count; each = each; range = h.tag_range }

image_bytes-fit : (image : PageImageView) → IsPageImage image → IsBytes image.bytes
image_bytes-fit image h i = by image.bytes i h.byte_range where
  by : (bytes : List ℕ) (i : ℕ) → All (λ byte. byte < 256) bytes → get_or bytes i 0 < 256
  by [] i all = omega arith
  by (b ∷ bytes) zero all = All-head (λ byte. byte < 256) b bytes all
  by (b ∷ bytes) (suc i) all = by bytes i (All-tail (λ byte. byte < 256) b bytes all)

image_takes : (bytes : List ℕ) (x : PageImageView × List ℕ) → IsBytes bytes → image_read bytes ≡ Some x → Takes bytes (image_bytes x.0) x.1 × IsPageImage x.0
unfolding image_read image_bytes
image_takes bytes x h e =
    let first = bind_some (long_read bytes) (λ mask. granules_read 64 mask.0 mask.1 >>= λ parts. Some (record { bytes = parts.0.0; tags = parts.0.1 }, parts.1)) x e in
    let mask = first.0 in
    let second = bind_some (granules_read 64 mask.0 mask.1) (λ parts. Some (record { bytes = parts.0.0; tags = parts.0.1 }, parts.1)) x first.2 in
    let t = long_takes bytes mask h first.1 in
    let parts = second.0 in
    let r = granules_take 64 mask.0 mask.1 parts t.0.rest_fits t.1 second.1 in
    let image : PageImageView = record { bytes = parts.0.0; tags = parts.0.1 } in
    let text : List ℕ = granules_bytes parts.0.0 parts.0.1 in
    let whole : bytes ≡ (to_be_bytes w64 (mask_of parts.0.0 parts.0.1) ++ text) ++ parts.1 =
    t.0.parts
    ∙ ap (λ (w : List ℕ). to_be_bytes w64 mask.0 ++ w) r.taken.parts
    ∙ sym (append_assoc (to_be_bytes w64 mask.0) text parts.1)
    ∙ ap (λ (n : ℕ). (to_be_bytes w64 n ++ text) ++ parts.1) (sym r.mask) in
    subst (λ (z : PageImageView × List ℕ). Takes bytes (image_bytes z.0) z.1 × IsPageImage z.0) (some-is (image, parts.1) x second.2)
    (record { parts = whole; rest_fits = r.taken.rest_fits }, image_of-granules parts.0.0 parts.0.1 r.fits)

image_again : (image : PageImageView) (rest : List ℕ) → IsPageImage image → image_read (image_bytes image ++ rest) ≡ Some (image, rest)
unfolding image_read image_bytes
image_again image rest h =
    let mask = mask_of image.bytes image.tags in
    let text : List ℕ = granules_bytes image.bytes image.tags in
    let fits = granules_of-image image h (image_bytes-fit image h) in
    let split : (to_be_bytes w64 mask ++ text) ++ rest ≡ to_be_bytes w64 mask ++ (text ++ rest) = append_assoc (to_be_bytes w64 mask) text rest in
    ap image_read split
    ∙ ap (λ (o : Option (ℕ × List ℕ)). o >>= λ mask. granules_read 64 mask.0 mask.1 >>= λ parts. Some (record { bytes = parts.0.0; tags = parts.0.1 }, parts.1)) (long_again mask (text ++ rest) (mask-below 64 image.bytes image.tags h.tag_count))
    ∙ ap (λ (o : Option ((List ℕ × List ℕ) × List ℕ)). o >>= λ parts. Some (record { bytes = parts.0.0; tags = parts.0.1 }, parts.1)) (granules_again 64 image.bytes image.tags rest fits)

pub image_field : IsField image_read image_bytes IsPageImage
image_field = record { takes = image_takes; again = image_again }
