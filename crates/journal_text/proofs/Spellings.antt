-- No line of a note begins another, whatever follows them.
use Rattle.std.proofs.Common.{◌≡◌, ℕ, ◌<◌, ◌^◌, ◌∙◌, true, false, Bool, List, [], ◌∷◌, ◌++◌, drop, get_or, append_assoc, ap, sym, refl, arith}
use Rattle.std.specs.Char.{is_digit}
use Rattle.std.specs.List.{prefix_len}
use Rattle.std.proofs.lemmas.Fmt.{decimal_injective}
use Rattle.mind_base.specs.Page.{PageView}
use Rattle.mind_base.specs.Range.{RangeView}
use Rattle.mind_base.specs.declared.commands.Outcome.{Outcome}
use Rattle.mind_base.specs.declared.commands.Outcome.TheVariants.{Fine, Unplaced, Overlap, Unmapped, Slots, Same, Room}
use Rattle.mind_base.specs.declared.notes.State.{State}
use Rattle.mind_base.specs.declared.notes.State.TheVariants as state
use Rattle.mind_base.specs.declared.notes.Note.{Note}
use Rattle.mind_base.specs.declared.notes.Note.TheVariants.{Event, Exec, Drain, Command, Moved, Take, Give, Down, Region, Gone, Split, Merge}
use Rattle.mind_base.specs.OutcomeWord.{outcome_word}
use Rattle.std.specs.Fmt.{decimal}
use Rattle.journal_text.specs.Journal.{page_text, range_text, access_word, state_text, note_line, IsNotedPage, IsBlock, IsJournalState, IsJournalNote}
use Rattle.journal_text.proofs.Decimals.{ends}

-- ---- the parts of a line

behind-first : (a b : ℕ) (x y : List ℕ) → a ∷ x ≡ b ∷ y → x ≡ y
behind-first a b x y e = ap (drop 1) e

same-number : (n m end : ℕ) (x y : List ℕ) → n < 2 ^ 20 → m < 2 ^ 20 → is_digit end 10 ≡ false → decimal n ++ end ∷ x ≡ decimal m ++ end ∷ y → (n ≡ m) × (x ≡ y)
same-number n m end x y small few stop e =
    let text = decimal n ++ end ∷ x in
    let count = prefix_len (λ b. is_digit b 10) text in
    let one = ends text count n end x small stop refl refl in
    let other = ends text count m end y few stop refl e in (
      decimal_injective n m (omega arith) (omega arith) (sym one.front ∙ other.front),
      behind-first end end x y (sym one.behind ∙ other.behind),
    )

-- two parts, one space apart, and what follows
join : (p q x : List ℕ) → ((p ++ (32 ∷ [])) ++ q) ++ x ≡ p ++ (32 ∷ (q ++ x))
join p q x = append_assoc (p ++ (32 ∷ [])) q x ∙ append_assoc p (32 ∷ []) (q ++ x)

same-page : (p q : PageView) (end : ℕ) (x y : List ℕ) → IsNotedPage p → IsNotedPage q → is_digit end 10 ≡ false → page_text p ++ (end ∷ x) ≡ page_text q ++ (end ∷ y) → (p ≡ q) × (x ≡ y)
same-page p q end x y a b stop e =
    let domain = same-number p.domain q.domain 32 (decimal p.number ++ (end ∷ x)) (decimal q.number ++ (end ∷ y)) (omega (arith, a.0)) (omega (arith, b.0)) refl
    (sym (join (decimal p.domain) (decimal p.number) (end ∷ x)) ∙ e ∙ join (decimal q.domain) (decimal q.number) (end ∷ y)) in
    let number = same-number p.number q.number end x y a.1 b.1 stop domain.1 in
    ((λ i. record { domain = domain.0 i; number = number.0 i }), number.1)

range-front : (r : RangeView) (x : List ℕ) → range_text r ++ x ≡ decimal r.domain ++ (32 ∷ (decimal r.base ++ (32 ∷ (decimal r.log ++ x))))
range-front r x = join ((decimal r.domain ++ (32 ∷ [])) ++ decimal r.base) (decimal r.log) x ∙ join (decimal r.domain) (decimal r.base) (32 ∷ (decimal r.log ++ x))

same-range : (r s : RangeView) (end : ℕ) (x y : List ℕ) → IsBlock r → IsBlock s → is_digit end 10 ≡ false → range_text r ++ (end ∷ x) ≡ range_text s ++ (end ∷ y) → (r ≡ s) × (x ≡ y)
same-range r s end x y a b stop e =
    let domain = same-number r.domain s.domain 32 (decimal r.base ++ (32 ∷ (decimal r.log ++ (end ∷ x)))) (decimal s.base ++ (32 ∷ (decimal s.log ++ (end ∷ y)))) (omega (arith, a.0)) (omega (arith, b.0)) refl
    (sym (range-front r (end ∷ x)) ∙ e ∙ range-front s (end ∷ y)) in
    let base = same-number r.base s.base 32 (decimal r.log ++ (end ∷ x)) (decimal s.log ++ (end ∷ y)) a.1 b.1 refl domain.1 in
    let log = same-number r.log s.log end x y (omega (arith, a.2)) (omega (arith, b.2)) stop base.1 in
    ((λ i. record { domain = domain.0 i; base = base.0 i; log = log.0 i }), log.1)

same-outcome : (a b : Outcome) (x y : List ℕ) → outcome_word a ++ 10 ∷ x ≡ outcome_word b ++ 10 ∷ y → (a ≡ b) × (x ≡ y)
same-outcome Fine Fine x y e = (refl, ap (drop 3) e)
same-outcome Unplaced Unplaced x y e = (refl, ap (drop 9) e)
same-outcome Overlap Overlap x y e = (refl, ap (drop 8) e)
same-outcome Unmapped Unmapped x y e = (refl, ap (drop 9) e)
same-outcome Slots Slots x y e = (refl, ap (drop 6) e)
same-outcome Same Same x y e = (refl, ap (drop 5) e)
same-outcome Room Room x y e = (refl, ap (drop 5) e)
same-outcome a b x y e = absurd (omega (arith, ap (λ l. get_or l 0 0) e, ap (λ l. get_or l 1 0) e, ap (λ l. get_or l 2 0) e))

same-access : (a b : Bool) (x y : List ℕ) → access_word a ++ 10 ∷ x ≡ access_word b ++ 10 ∷ y → (a ≡ b) × (x ≡ y)
same-access true true x y e = (refl, ap (drop 2) e)
same-access false false x y e = (refl, ap (drop 2) e)
same-access a b x y e = absurd (omega (arith, ap (λ l. get_or l 0 0) e))

same-state : (a b : State) (x y : List ℕ) → IsJournalState a → IsJournalState b → state_text a ++ 10 ∷ x ≡ state_text b ++ 10 ∷ y → (a ≡ b) × (x ≡ y)
same-state state.I state.I x y p q e = (refl, ap (drop 2) e)
same-state (state.S n) (state.S m) x y p q e = let r = same-number n m 10 x y (omega (arith, p.1)) (omega (arith, q.1)) refl (ap (drop 2) e) in (ap (λ n. state.S n) r.0, r.1)
same-state (state.M n) (state.M m) x y p q e = let r = same-number n m 10 x y (omega (arith, p)) (omega (arith, q)) refl (ap (drop 2) e) in (ap (λ n. state.M n) r.0, r.1)
same-state a b x y p q e = absurd (omega (arith, ap (λ l. get_or l 0 0) e))

-- ---- lines, each part with what follows it

-- the line of a note and what follows
abbrev spelled : Note → List ℕ → List ℕ
spelled (Event index) x = 101 ∷ 32 ∷ (decimal index ++ 10 ∷ x)
spelled (Exec hart) x = 120 ∷ 32 ∷ (decimal hart ++ 10 ∷ x)
spelled (Drain hart) x = 100 ∷ 32 ∷ (decimal hart ++ 10 ∷ x)
spelled (Command index) x = 99 ∷ 32 ∷ (decimal index ++ 10 ∷ x)
spelled (Moved index outcome) x = 109 ∷ 32 ∷ (decimal index ++ 32 ∷ (outcome_word outcome ++ 10 ∷ x))
spelled (Take blade page writable) x = 116 ∷ 32 ∷ (decimal blade ++ 32 ∷ (page_text page ++ 32 ∷ (access_word writable ++ 10 ∷ x)))
spelled (Give blade page) x = 103 ∷ 32 ∷ (decimal blade ++ 32 ∷ (page_text page ++ 10 ∷ x))
spelled (Down blade page) x = 108 ∷ 32 ∷ (decimal blade ++ 32 ∷ (page_text page ++ 10 ∷ x))
spelled (Region range state) x = 114 ∷ 32 ∷ (range_text range ++ 32 ∷ (state_text state ++ 10 ∷ x))
spelled (Gone range) x = 111 ∷ 32 ∷ (range_text range ++ 10 ∷ x)
spelled (Split range) x = 115 ∷ 32 ∷ (range_text range ++ 10 ∷ x)
spelled (Merge range) x = 106 ∷ 32 ∷ (range_text range ++ 10 ∷ x)

one-part : (p x : List ℕ) (a b : ℕ) → a ∷ b ∷ ((p ++ (10 ∷ [])) ++ x) ≡ a ∷ b ∷ (p ++ (10 ∷ x))
one-part p x a b = ap (λ t. a ∷ b ∷ t) (append_assoc p (10 ∷ []) x)

two-parts : (p q x : List ℕ) (a b : ℕ) → a ∷ b ∷ ((((p ++ (32 ∷ [])) ++ q) ++ (10 ∷ [])) ++ x) ≡ a ∷ b ∷ (p ++ (32 ∷ (q ++ (10 ∷ x))))
two-parts p q x a b = ap (λ t. a ∷ b ∷ t) (append_assoc ((p ++ (32 ∷ [])) ++ q) (10 ∷ []) x ∙ join p q (10 ∷ x))

three-parts : (p q r x : List ℕ) (a b : ℕ) → a ∷ b ∷ ((((((p ++ (32 ∷ [])) ++ q) ++ (32 ∷ [])) ++ r) ++ (10 ∷ [])) ++ x) ≡ a ∷ b ∷ (p ++ (32 ∷ (q ++ (32 ∷ (r ++ (10 ∷ x))))))
three-parts p q r x a b = ap (λ t. a ∷ b ∷ t) (append_assoc ((((p ++ (32 ∷ [])) ++ q) ++ (32 ∷ [])) ++ r) (10 ∷ []) x
    ∙ join ((p ++ (32 ∷ [])) ++ q) r (10 ∷ x) ∙ join p q (32 ∷ (r ++ (10 ∷ x))))

line-spelled : (note : Note) (x : List ℕ) → note_line note ++ x ≡ spelled note x
line-spelled (Event index) x = one-part (decimal index) x 101 32
line-spelled (Exec hart) x = one-part (decimal hart) x 120 32
line-spelled (Drain hart) x = one-part (decimal hart) x 100 32
line-spelled (Command index) x = one-part (decimal index) x 99 32
line-spelled (Moved index outcome) x = two-parts (decimal index) (outcome_word outcome) x 109 32
line-spelled (Take blade page writable) x = three-parts (decimal blade) (page_text page) (access_word writable) x 116 32
line-spelled (Give blade page) x = two-parts (decimal blade) (page_text page) x 103 32
line-spelled (Down blade page) x = two-parts (decimal blade) (page_text page) x 108 32
line-spelled (Region range state) x = two-parts (range_text range) (state_text state) x 114 32
line-spelled (Gone range) x = one-part (range_text range) x 111 32
line-spelled (Split range) x = one-part (range_text range) x 115 32
line-spelled (Merge range) x = one-part (range_text range) x 106 32

same-spelled : (a b : Note) (x y : List ℕ) → IsJournalNote a → IsJournalNote b → spelled a x ≡ spelled b y → (a ≡ b) × (x ≡ y)
same-spelled (Event n) (Event m) x y p q e = let r = same-number n m 10 x y (omega (arith, p)) (omega (arith, q)) refl (ap (drop 2) e) in (ap (λ z. Event z) r.0, r.1)
same-spelled (Exec n) (Exec m) x y p q e = let r = same-number n m 10 x y (omega (arith, p)) (omega (arith, q)) refl (ap (drop 2) e) in (ap (λ z. Exec z) r.0, r.1)
same-spelled (Drain n) (Drain m) x y p q e = let r = same-number n m 10 x y (omega (arith, p)) (omega (arith, q)) refl (ap (drop 2) e) in (ap (λ z. Drain z) r.0, r.1)
same-spelled (Command n) (Command m) x y p q e = let r = same-number n m 10 x y (omega (arith, p)) (omega (arith, q)) refl (ap (drop 2) e) in (ap (λ z. Command z) r.0, r.1)
same-spelled (Moved n o) (Moved m u) x y p q e =
    let r = same-number n m 32 (outcome_word o ++ 10 ∷ x) (outcome_word u ++ 10 ∷ y) (omega (arith, p)) (omega (arith, q)) refl (ap (drop 2) e) in
    let s = same-outcome o u x y r.1 in
    ((λ i. Moved (r.0 i) (s.0 i)), s.1)
same-spelled (Take n f v) (Take m g w) x y p q e =
    let r = same-number n m 32 (page_text f ++ 32 ∷ (access_word v ++ 10 ∷ x)) (page_text g ++ 32 ∷ (access_word w ++ 10 ∷ y)) (omega (arith, p.0)) (omega (arith, q.0)) refl (ap (drop 2) e) in
    let s = same-page f g 32 (access_word v ++ 10 ∷ x) (access_word w ++ 10 ∷ y) p.1 q.1 refl r.1 in
    let t = same-access v w x y s.1 in
    ((λ i. Take (r.0 i) (s.0 i) (t.0 i)), t.1)
same-spelled (Give n f) (Give m g) x y p q e =
    let r = same-number n m 32 (page_text f ++ 10 ∷ x) (page_text g ++ 10 ∷ y) (omega (arith, p.0)) (omega (arith, q.0)) refl (ap (drop 2) e) in
    let s = same-page f g 10 x y p.1 q.1 refl r.1 in
    ((λ i. Give (r.0 i) (s.0 i)), s.1)
same-spelled (Down n f) (Down m g) x y p q e =
    let r = same-number n m 32 (page_text f ++ 10 ∷ x) (page_text g ++ 10 ∷ y) (omega (arith, p.0)) (omega (arith, q.0)) refl (ap (drop 2) e) in
    let s = same-page f g 10 x y p.1 q.1 refl r.1 in
    ((λ i. Down (r.0 i) (s.0 i)), s.1)
same-spelled (Region f v) (Region g w) x y p q e =
    let r = same-range f g 32 (state_text v ++ 10 ∷ x) (state_text w ++ 10 ∷ y) p.0 q.0 refl (ap (drop 2) e) in
    let s = same-state v w x y p.1 q.1 r.1 in
    ((λ i. Region (r.0 i) (s.0 i)), s.1)
same-spelled (Gone f) (Gone g) x y p q e = let r = same-range f g 10 x y p q refl (ap (drop 2) e) in (ap (λ z. Gone z) r.0, r.1)
same-spelled (Split f) (Split g) x y p q e = let r = same-range f g 10 x y p q refl (ap (drop 2) e) in (ap (λ z. Split z) r.0, r.1)
same-spelled (Merge f) (Merge g) x y p q e = let r = same-range f g 10 x y p q refl (ap (drop 2) e) in (ap (λ z. Merge z) r.0, r.1)
same-spelled a b x y p q e = absurd (omega (arith, ap (λ l. get_or l 0 0) e))

pub same-line : (a b : Note) (x y : List ℕ) → IsJournalNote a → IsJournalNote b → note_line a ++ x ≡ note_line b ++ y → (a ≡ b) × (x ≡ y)
same-line a b x y p q e = same-spelled a b x y p q (sym (line-spelled a x) ∙ e ∙ line-spelled b y)
