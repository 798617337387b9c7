-- The fields of messages: what is parsed of a number or a byte is spelled as that number or byte.
use Rattle.std.proofs.Common.{◌≡◌, ℕ, ◌+◌, ◌%◌, ◌^◌, ◌<◌, ◌≤◌, Bool, true, false, ◌&&◌, cond, ltb, eqb, leb, List, [], ◌∷◌, ◌++◌, Option, Some, None, refl, sym, ap, subst, ◌∙◌, arith, inl, inr}
use Rattle.std.specs.Prelude.{◌⊎◌, option_map}
use Rattle.std.proofs.lemmas.Bool.{ltb-true, lt-ltb, leb-true, le-leb, eqb-true, eq-eqb, ne_eqb, cases_eq}
use Rattle.std.proofs.lemmas.Option.{cond_some}
use Rattle.mind_base.specs.Page.{PageView}
use Rattle.mind_base.specs.Range.{RangeView, InRange, in_range}
use Rattle.mind_base.specs.Span.{SpanView}
use Rattle.mind_base.specs.declared.commands.Perm.{Perm}
use Rattle.mind_base.specs.declared.commands.Perm.TheVariants.{No, R, Rw}
use Rattle.wire_msg.specs.Spelling.{number_bytes, page_number, page_bytes, range_bytes, span_bytes, asked_bytes, flag_bytes, fill_bytes, blade_bytes}
use Rattle.wire_msg.specs.WellFormed.{IsPageView, IsRangeView, IsSpanView, IsAsked, AsksIn, CanFill, IsBladeOrNone}
use Rattle.wire_msg.specs.Reading.{page_from, page_numbered, asked_numbered, range_numbered, span_numbered, flag_of, fill_of, blade_of, page_read, asked_read, range_read, span_read, flag_read, fill_read, blade_read, asks_in}
use Rattle.wire_msg.proofs.Fields.{IsField, Parses, parsed_field, then_field, number_field, byte_field, some_is}

pub and_both : (a b : Bool) → a && b ≡ true → (a ≡ true) × (b ≡ true)
and_both true b e = (refl, e)
and_both false b e = absurd cc

pub both_and : (a b : Bool) → a ≡ true → b ≡ true → a && b ≡ true
both_and a b p q = ap (λ (x : Bool). x && b) p ∙ q

-- which way a test went
pub chosen : {A : Type 0} (b : Bool) (x y z : A) → cond b x y ≡ z → ((b ≡ true) × (x ≡ z)) ⊎ ((b ≡ false) × (y ≡ z))
chosen true x y z e = inl (refl, e)
chosen false x y z e = inr (refl, e)

-- ---- pages

same_page : {d d' n n' : ℕ} → d ≡ d' → n ≡ n' → (let page : PageView = record { domain = d; number = n } in page) ≡ record { domain = d'; number = n' }
same_page p q = λ i. record { domain = p i; number = q i }

page_number-page_from : (n : ℕ) → page_number (page_from n) ≡ n
page_number-page_from n = omega arith

page_from-page_number : (page : PageView) → IsPageView page → page_from (page_number page) ≡ page
page_from-page_number page h = let low : page.number < 1048576 = h.1 in same_page (omega arith) (omega arith)

page_takes : (n : ℕ) (page : PageView) → n < 2 ^ 32 → page_numbered n ≡ Some page → (page_bytes page ≡ number_bytes n) × IsPageView page
unfolding page_numbered
page_takes n page h e =
    let made = cond_some (ltb n 16777216) (page_from n) page e in
    let low : n < 16777216 = ltb-true n 16777216 made.0 in
    subst (λ (p : PageView). (page_bytes p ≡ number_bytes n) × IsPageView p) made.1 (ap number_bytes (page_number-page_from n), (omega arith, omega arith))

page_again : (page : PageView) → IsPageView page → (page_number page < 2 ^ 32) × (page_numbered (page_number page) ≡ Some page) × (page_bytes page ≡ number_bytes (page_number page))
unfolding page_numbered
page_again page h =
    let domain : page.domain < 16 = h.0 in
    let number : page.number < 1048576 = h.1 in
    let low : ltb (page_number page) 16777216 ≡ true = lt-ltb _ _ (omega arith) in
    (omega arith, ap (λ (b : Bool). cond b (Some (page_from (page_number page))) None) low ∙ ap (λ (p : PageView). Some p) (page_from-page_number page h), refl)

page_parses : Parses number_bytes (λ n. n < 2 ^ 32) page_numbered page_bytes IsPageView
page_parses = record { takes = page_takes; back = page_number; again = page_again }

pub page_field : IsField page_read page_bytes IsPageView
unfolding page_read
page_field = parsed_field number_field page_parses

-- ---- pages that were asked for, or none

asked_from : (n : ℕ) (found : Option PageView) (asked : Option PageView) → n < 2 ^ 32 → page_numbered n ≡ found → option_map (λ page. Some page) found ≡ Some asked → (asked_bytes asked ≡ number_bytes n) × IsAsked asked
asked_from n None asked h p e = absurd cc
asked_from n (Some page) asked h p e = subst (λ (a : Option PageView). (asked_bytes a ≡ number_bytes n) × IsAsked a) (some_is (Some page) asked e) (page_takes n page h p)

asked_takes : (n : ℕ) (asked : Option PageView) → n < 2 ^ 32 → asked_numbered n ≡ Some asked → (asked_bytes asked ≡ number_bytes n) × IsAsked asked
unfolding asked_numbered
asked_takes n asked h e = elim (chosen (eqb n 4294967295) (Some None) (option_map (λ page. Some page) (page_numbered n)) (Some asked) e) [
  | inl w ↦ subst (λ (a : Option PageView). (asked_bytes a ≡ number_bytes n) × IsAsked a) (some_is None asked w.1) (ap number_bytes (sym (eqb-true n 4294967295 w.0)), tt)
  | inr w ↦ asked_from n (page_numbered n) asked h refl w.1
]

abbrev asked_number : Option PageView → ℕ
asked_number None = 4294967295
asked_number (Some page) = page_number page

asked_again : (asked : Option PageView) → IsAsked asked → (asked_number asked < 2 ^ 32) × (asked_numbered (asked_number asked) ≡ Some asked) × (asked_bytes asked ≡ number_bytes (asked_number asked))
unfolding asked_numbered
asked_again None h = (omega arith, refl, refl)
asked_again (Some page) h =
    let domain : page.domain < 16 = h.0 in
    let number : page.number < 1048576 = h.1 in
    let some = page_again page h in
    let other : eqb (page_number page) 4294967295 ≡ false = ne_eqb _ _ (λ e. absurd (omega arith)) in
    (some.0, ap (λ (b : Bool). cond b (Some None) (option_map (λ page. Some page) (page_numbered (page_number page)))) other ∙ ap (λ (p : Option PageView). option_map (λ page. Some page) p) some.1, refl)

asked_parses : Parses number_bytes (λ n. n < 2 ^ 32) asked_numbered asked_bytes IsAsked
asked_parses = record { takes = asked_takes; back = asked_number; again = asked_again }

pub asked_field : IsField asked_read asked_bytes IsAsked
unfolding asked_read
asked_field = parsed_field number_field asked_parses

-- ---- ranges

abbrev range_parts : PageView × ℕ → List ℕ
range_parts f = page_bytes f.0 ++ f.1 ∷ []

abbrev range_from : PageView × ℕ → RangeView
range_from f = record { domain = f.0.domain; base = f.0.number; log = f.1 }

range_takes : (f : PageView × ℕ) (range : RangeView) → (IsPageView f.0 × (f.1 < 256)) → range_numbered f ≡ Some range → (range_bytes range ≡ range_parts f) × IsRangeView range
unfolding range_numbered
range_takes f range h e =
    let made = cond_some (leb f.1 9 && eqb (f.0.number % 2 ^ f.1) 0) (range_from f) range e in
    let tests = and_both (leb f.1 9) (eqb (f.0.number % 2 ^ f.1) 0) made.0 in
    subst (λ (r : RangeView). (range_bytes r ≡ range_parts f) × IsRangeView r) made.1 (refl, (h.0.0, h.0.1, leb-true f.1 9 tests.0, eqb-true _ 0 tests.1))

abbrev range_back : RangeView → PageView × ℕ
range_back range = (record { domain = range.domain; number = range.base }, range.log)

range_again : (range : RangeView) → IsRangeView range → (IsPageView (range_back range).0 × (range.log < 256)) × (range_numbered (range_back range) ≡ Some range) × (range_bytes range ≡ range_parts (range_back range))
unfolding range_numbered
range_again range h =
    let small : range.log ≤ 9 = h.2 in
    let test : leb range.log 9 && eqb (range.base % 2 ^ range.log) 0 ≡ true = both_and _ _ (le-leb range.log 9 small) (eq-eqb _ 0 h.3) in
    (((h.0, h.1), omega arith), ap (λ (b : Bool). cond b (Some range) None) test, refl)

range_parses : Parses range_parts (λ (f : PageView × ℕ). IsPageView f.0 × (f.1 < 256)) range_numbered range_bytes IsRangeView
range_parses = record { takes = range_takes; back = range_back; again = range_again }

pub range_field : IsField range_read range_bytes IsRangeView
unfolding range_read
range_field = parsed_field (then_field page_field byte_field) range_parses

-- ---- spans

abbrev span_parts : PageView × ℕ → List ℕ
span_parts f = page_bytes f.0 ++ number_bytes f.1

abbrev span_from : PageView × ℕ → SpanView
span_from f = record { domain = f.0.domain; base = f.0.number; pages = f.1 }

span_takes : (f : PageView × ℕ) (span : SpanView) → (IsPageView f.0 × (f.1 < 2 ^ 32)) → span_numbered f ≡ Some span → (span_bytes span ≡ span_parts f) × IsSpanView span
unfolding span_numbered
span_takes f span h e =
    let made = cond_some (ltb 0 f.1 && leb (f.0.number + f.1) 1048576) (span_from f) span e in
    let tests = and_both (ltb 0 f.1) (leb (f.0.number + f.1) 1048576) made.0 in
    subst (λ (s : SpanView). (span_bytes s ≡ span_parts f) × IsSpanView s) made.1 (refl, (h.0.0, ltb-true 0 f.1 tests.0, leb-true (f.0.number + f.1) 1048576 tests.1))

abbrev span_back : SpanView → PageView × ℕ
span_back span = (record { domain = span.domain; number = span.base }, span.pages)

span_again : (span : SpanView) → IsSpanView span → (IsPageView (span_back span).0 × (span.pages < 2 ^ 32)) × (span_numbered (span_back span) ≡ Some span) × (span_bytes span ≡ span_parts (span_back span))
unfolding span_numbered
span_again span h =
    let some : 0 < span.pages = h.1 in
    let inside : span.base + span.pages ≤ 1048576 = h.2 in
    let test : ltb 0 span.pages && leb (span.base + span.pages) 1048576 ≡ true = both_and _ _ (lt-ltb 0 span.pages some) (le-leb _ _ inside) in
    (((h.0, omega arith), omega arith), ap (λ (b : Bool). cond b (Some span) None) test, refl)

span_parses : Parses span_parts (λ (f : PageView × ℕ). IsPageView f.0 × (f.1 < 2 ^ 32)) span_numbered span_bytes IsSpanView
span_parses = record { takes = span_takes; back = span_back; again = span_again }

pub span_field : IsField span_read span_bytes IsSpanView
unfolding span_read
span_field = parsed_field (then_field page_field number_field) span_parses

-- ---- flags, permissions and blades

flag_takes : (b : ℕ) (flag : Bool) → b < 256 → flag_of b ≡ Some flag → (flag_bytes flag ≡ b ∷ []) × Unit {0}
unfolding flag_of
flag_takes b flag h e =
    let made = cond_some (ltb b 2) (eqb b 1) flag e in
    let low : b < 2 = ltb-true b 2 made.0 in
    subst (λ (f : Bool). (flag_bytes f ≡ b ∷ []) × Unit {0}) made.1 (
      elim (cases_eq b 1) [
        | inl one ↦ ap flag_bytes (eq-eqb b 1 one) ∙ ap (λ (n : ℕ). n ∷ []) (sym one)
        | inr other ↦ let none : 0 ≡ b = omega (arith, other) in ap flag_bytes (ne_eqb b 1 other) ∙ ap (λ (n : ℕ). n ∷ []) none
      ],
      tt,
    )

abbrev flag_byte : Bool → ℕ
flag_byte true = 1
flag_byte false = 0

flag_again : (flag : Bool) → Unit {0} → (flag_byte flag < 256) × (flag_of (flag_byte flag) ≡ Some flag) × (flag_bytes flag ≡ flag_byte flag ∷ [])
unfolding flag_of
flag_again true h = (omega arith, refl, refl)
flag_again false h = (omega arith, refl, refl)

flag_parses : Parses (λ b. b ∷ []) (λ b. b < 256) flag_of flag_bytes (λ _. Unit {0})
flag_parses = record { takes = flag_takes; back = flag_byte; again = flag_again }

pub flag_field : IsField flag_read flag_bytes (λ _. Unit {0})
unfolding flag_read
flag_field = parsed_field byte_field flag_parses

abbrev fill_pair : Perm × Bool → List ℕ
fill_pair p = fill_bytes p.0 p.1

abbrev can_fill : Perm × Bool → Type 0
can_fill p = CanFill p.0 p.1

abbrev fits_fill : ℕ → Perm × Bool → Type 0
fits_fill b p = (fill_pair p ≡ b ∷ []) × can_fill p

fill_takes : (b : ℕ) (p : Perm × Bool) → b < 256 → fill_of b ≡ Some p → (fill_pair p ≡ b ∷ []) × can_fill p
unfolding fill_of
fill_takes b p h e = elim (chosen (eqb b 0) (Some (R, false)) (cond (eqb b 2) (Some (Rw, false)) (cond (eqb b 3) (Some (Rw, true)) None)) (Some p) e) [
  | inl w ↦ subst (fits_fill b) (some_is (R, false) p w.1) (ap (λ (n : ℕ). n ∷ []) (sym (eqb-true b 0 w.0)), (λ e. absurd cc, λ e. absurd cc))
  | inr w ↦ elim (chosen (eqb b 2) (Some (Rw, false)) (cond (eqb b 3) (Some (Rw, true)) None) (Some p) w.1) [
    | inl v ↦ subst (fits_fill b) (some_is (Rw, false) p v.1) (ap (λ (n : ℕ). n ∷ []) (sym (eqb-true b 2 v.0)), (λ e. absurd cc, λ e. absurd cc))
    | inr v ↦ let made = cond_some (eqb b 3) (Rw, true) p v.1 in
        subst (fits_fill b) made.1 (ap (λ (n : ℕ). n ∷ []) (sym (eqb-true b 3 made.0)), (λ e. absurd cc, λ e. refl))
  ]
]

abbrev fill_byte : Perm × Bool → ℕ
fill_byte (No, writable) = 0
fill_byte (R, writable) = 0
fill_byte (Rw, false) = 2
fill_byte (Rw, true) = 3

fill_again_at : (perm : Perm) (writable : Bool) → CanFill perm writable → (fill_byte (perm, writable) < 256) × (fill_of (fill_byte (perm, writable)) ≡ Some (perm, writable)) × (fill_bytes perm writable ≡ fill_byte (perm, writable) ∷ [])
unfolding fill_of
fill_again_at No writable h = absurd (h.0 refl)
fill_again_at R true h = let bad : R ≡ Rw = h.1 refl in absurd cc
fill_again_at R false h = (omega arith, refl, refl)
fill_again_at Rw true h = (omega arith, refl, refl)
fill_again_at Rw false h = (omega arith, refl, refl)

fill_again : (p : Perm × Bool) → can_fill p → (fill_byte p < 256) × (fill_of (fill_byte p) ≡ Some p) × (fill_pair p ≡ fill_byte p ∷ [])
fill_again p h = fill_again_at p.0 p.1 h

fill_parses : Parses (λ b. b ∷ []) (λ b. b < 256) fill_of fill_pair can_fill
fill_parses = record { takes = fill_takes; back = fill_byte; again = fill_again }

pub fill_field : IsField fill_read (λ (p : Perm × Bool). fill_bytes p.0 p.1) (λ (p : Perm × Bool). CanFill p.0 p.1)
unfolding fill_read
fill_field = parsed_field byte_field fill_parses

abbrev fits_blade : ℕ → Option ℕ → Type 0
fits_blade b blade = (blade_bytes blade ≡ b ∷ []) × IsBladeOrNone blade

blade_takes : (b : ℕ) (blade : Option ℕ) → b < 256 → blade_of b ≡ Some blade → (blade_bytes blade ≡ b ∷ []) × IsBladeOrNone blade
unfolding blade_of
blade_takes b blade h e = elim (chosen (ltb b 8) (Some (Some b)) (cond (eqb b 255) (Some None) None) (Some blade) e) [
  | inl w ↦ subst (fits_blade b) (some_is (Some b) blade w.1) (refl, ltb-true b 8 w.0)
  | inr w ↦ let made = cond_some (eqb b 255) None blade w.1 in
      subst (fits_blade b) made.1 (ap (λ (n : ℕ). n ∷ []) (sym (eqb-true b 255 made.0)), tt)
]

abbrev blade_byte : Option ℕ → ℕ
blade_byte None = 255
blade_byte (Some blade) = blade

blade_again : (blade : Option ℕ) → IsBladeOrNone blade → (blade_byte blade < 256) × (blade_of (blade_byte blade) ≡ Some blade) × (blade_bytes blade ≡ blade_byte blade ∷ [])
unfolding blade_of
blade_again None h = (omega arith, refl, refl)
blade_again (Some blade) h = (omega arith, ap (λ (t : Bool). cond t (Some (Some blade)) (cond (eqb blade 255) (Some None) None)) (lt-ltb blade 8 h), refl)

blade_parses : Parses (λ b. b ∷ []) (λ b. b < 256) blade_of blade_bytes IsBladeOrNone
blade_parses = record { takes = blade_takes; back = blade_byte; again = blade_again }

pub blade_field : IsField blade_read blade_bytes IsBladeOrNone
unfolding blade_read
blade_field = parsed_field byte_field blade_parses

-- ---- a page in a range

pub has-InRange : (range : RangeView) (page : PageView) → in_range range page ≡ true → InRange range page
has-InRange range page e =
    let outer = and_both (eqb page.domain range.domain && leb range.base page.number) (ltb page.number (range.base + 2 ^ range.log)) e in
    let inner = and_both (eqb page.domain range.domain) (leb range.base page.number) outer.0 in
    record { domain = eqb-true _ _ inner.0; from = leb-true _ _ inner.1; below = ltb-true _ _ outer.1 }

pub lies_there : (range : RangeView) (page : PageView) → InRange range page → in_range range page ≡ true
lies_there range page h = both_and _ _ (both_and _ _ (eq-eqb _ _ h.domain) (le-leb _ _ h.from)) (lt-ltb _ _ h.below)

pub asks_inside : (range : RangeView) (asked : Option PageView) → asks_in range asked ≡ true → AsksIn range asked
asks_inside range None e = tt
asks_inside range (Some page) e = has-InRange range page e

pub asks_there : (range : RangeView) (asked : Option PageView) → AsksIn range asked → asks_in range asked ≡ true
asks_there range None h = refl
asks_there range (Some page) h = lies_there range page h
