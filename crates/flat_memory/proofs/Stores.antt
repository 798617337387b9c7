-- The bytes of a domain after a store, and after some of its pages become zero.
use Rattle.std.proofs.Common.{◌≡◌, ℕ, zero, ◌+◌, ◌-◌, ◌/◌, ◌%◌, ◌<◌, ◌≤◌, ◌⊎◌, inl, inr, Bool, true, false, ◌||◌, cond, eqb, leb, ltb, nat_cmp, List, length, take, replicate, get_or, Option, Some, None, refl, ap, sym, ◌∙◌, arith}
use Rattle.std.specs.Int.{w32, to_le_bytes}
use Rattle.std.specs.Map.{lookup}
use Rattle.std.specs.List.{filter}
use Rattle.std.specs.BTreeMap.{is_at}
use Rattle.std.proofs.Math.Path.{fun_ext}
use Rattle.std.proofs.lemmas.Bool.{cases_lt, cases_eq}
use Rattle.std.proofs.lemmas.Bool.Decides.{nat_tests}
use Rattle.std.proofs.lemmas.List.{get_or-take, get_or-replicate, get_or_past, length-take-le, length-replicate}
use Rattle.std.proofs.lemmas.Map.Entries.{lookup-filter-keys}
use Rattle.mind_base.specs.Page.{page_number_at, page_offset_at}
use Rattle.mind_base.specs.Pending.{PendingView, IsPending, byte_number}
use Rattle.mind_base.proofs.Callers.{end_inside, size_le_4, get_or-to_le_bytes}
use Rattle.flat_memory.specs.FlatMemory.{byte_among, stored_among, zeroed_among, written}
use Rattle.flat_memory.proofs.Pages.{between-in, between-out}

-- a byte of a page over which the bytes of a store are written
written-stored : (byte : ℕ → ℕ) (store : PendingView) (page bytes : List ℕ) (a : ℕ) → IsPending store.address store.size → bytes ≡ take store.size (to_le_bytes w32 store.value) → a / 4096 ≡ store.address / 4096 → get_or page (a % 4096) 0 ≡ byte a → written page (store.address % 4096) bytes (a % 4096) ≡ stored_among byte store a
written-stored byte store page bytes a is e one same =
    let end : store.address % 4096 + store.size ≤ 4096 = end_inside store.address store.size is in
    let short : store.size ≤ 4 = size_le_4 store.address store.size is in
    let count : length bytes ≡ store.size = ap length e ∙ length-take-le store.size (to_le_bytes w32 store.value) short in
    let old = get_or page (a % 4096) 0 in
    let new = get_or bytes (a % 4096 - store.address % 4096) 0 in
    elim (cases_lt a store.address) [
      | inl low ↦
          between-out (store.address % 4096) (store.address % 4096 + length bytes) (a % 4096) new old (inl (omega arith))
          ∙ (same ∙ sym (between-out store.address (store.address + store.size) a (byte_number store.value (a - store.address)) (byte a) (inl low)))
      | inr from ↦ elim (cases_lt a (store.address + store.size)) [
        | inl below ↦
            let place : a % 4096 - store.address % 4096 ≡ a - store.address = omega arith in
            between-in (store.address % 4096) (store.address % 4096 + length bytes) (a % 4096) new old (omega arith) (omega arith)
            ∙ (rw (place, e) (get_or-take store.size (to_le_bytes w32 store.value) (a - store.address) 0 (omega arith) ∙ get_or-to_le_bytes store.value (a - store.address) (omega arith))
            ∙ sym (between-in store.address (store.address + store.size) a (byte_number store.value (a - store.address)) (byte a) from below))
        | inr high ↦
            between-out (store.address % 4096) (store.address % 4096 + length bytes) (a % 4096) new old (inr (omega arith))
            ∙ (same ∙ sym (between-out store.address (store.address + store.size) a (byte_number store.value (a - store.address)) (byte a) (inr high)))
      ]
    ]

-- a byte of another page is not one of the store's
stored-apart : (byte : ℕ → ℕ) (store : PendingView) (a : ℕ) → IsPending store.address store.size → (store.address / 4096 ≡ a / 4096 → ⊥) → stored_among byte store a ≡ byte a
stored-apart byte store a is ne =
    let end : store.address % 4096 + store.size ≤ 4096 = end_inside store.address store.size is in
    between-out store.address (store.address + store.size) a (byte_number store.value (a - store.address)) (byte a) (elim (cases_lt a store.address) [ inl low ↦ inl low | inr from ↦ inr (omega arith) ])

-- the bytes of a domain in which the page of a store is kept with the bytes of the store written over it
pub byte_among-stored : (old new : List (ℕ × List ℕ)) (store : PendingView) (page after bytes : List ℕ) → IsPending store.address store.size → bytes ≡ take store.size (to_le_bytes w32 store.value)
    → ((a : ℕ) → a / 4096 ≡ store.address / 4096 → get_or page (a % 4096) 0 ≡ byte_among old a)
    → ((k : ℕ) → get_or after k 0 ≡ written page (store.address % 4096) bytes k)
    → ((q : ℕ) → lookup (eqb q) new ≡ cond (eqb (store.address / 4096) q) (Some after) (lookup (eqb q) old))
    → byte_among new ≡ stored_among (byte_among old) store
byte_among-stored old new store page after bytes is e same over kept = fun_ext (λ a. at a) where
  at : (a : ℕ) → byte_among new a ≡ stored_among (byte_among old) store a
  at a = elim (cases_eq (store.address / 4096) (a / 4096)) [
    | inl one ↦
        let test : eqb (store.address / 4096) (a / 4096) ≡ true = grind (arith, nat_tests) in
        let found : lookup (eqb (a / 4096)) new ≡ Some after = kept (a / 4096) ∙ rw test refl in
        rw found (over (a % 4096) ∙ written-stored (byte_among old) store page bytes a is e (sym one) (same a (sym one)))
    | inr ne ↦
        let test : eqb (store.address / 4096) (a / 4096) ≡ false = grind (arith, nat_tests) in
        let found : lookup (eqb (a / 4096)) new ≡ lookup (eqb (a / 4096)) old = kept (a / 4096) ∙ rw test refl in
        rw found (sym (stored-apart (byte_among old) store a is ne))
  ]

-- the test by which a map finds a key is equality
is_at-number : (q : ℕ) → is_at (nat_cmp q) ≡ eqb q
is_at-number q = fun_ext (λ k. at k) where
  at : (k : ℕ) → is_at (nat_cmp q) k ≡ eqb q k
  at k = grind (arith, nat_tests)

lookup-number : (pages : List (ℕ × List ℕ)) (q : ℕ) → lookup (is_at (nat_cmp q)) pages ≡ lookup (eqb q) pages
lookup-number pages q = ap (λ (t : ℕ → Bool). lookup t pages) (is_at-number q)

-- in the pages of a domain, one with this number is put in place of what was there
abbrev pub Puts : List (ℕ × List ℕ) → List (ℕ × List ℕ) → ℕ → List ℕ → Type 0
Puts old new number page = (q : ℕ) → lookup (is_at (nat_cmp q)) new ≡ cond (is_at (nat_cmp number) q) (Some page) (lookup (is_at (nat_cmp q)) old)

puts-number : (old new : List (ℕ × List ℕ)) (number : ℕ) (page : List ℕ) → Puts old new number page → (q : ℕ) → lookup (eqb q) new ≡ cond (eqb number q) (Some page) (lookup (eqb q) old)
puts-number old new number page h q =
    sym (lookup-number new q) ∙ (h q ∙ (ap (λ (b : Bool). cond b (Some page) (lookup (is_at (nat_cmp q)) old)) (ap (λ (t : ℕ → Bool). t q) (is_at-number number)) ∙ ap (λ (o : Option (List ℕ)). cond (eqb number q) (Some page) o) (lookup-number old q)))

-- a store in a page that is kept
pub stored-kept : (old new : List (ℕ × List ℕ)) (store : PendingView) (page after bytes : List ℕ) → IsPending store.address store.size → bytes ≡ take store.size (to_le_bytes w32 store.value)
    → lookup (is_at (nat_cmp (store.address / 4096))) old ≡ Some page
    → ((k : ℕ) → get_or after k 0 ≡ written page (store.address % 4096) bytes k)
    → Puts old new (store.address / 4096) after → byte_among new ≡ stored_among (byte_among old) store
stored-kept old new store page after bytes is e found over puts =
    byte_among-stored old new store page after bytes is e same over (puts-number old new (store.address / 4096) after puts) where
      same : (a : ℕ) → a / 4096 ≡ store.address / 4096 → get_or page (a % 4096) 0 ≡ byte_among old a
      same a one = let here : lookup (eqb (store.address / 4096)) old ≡ Some page = sym (lookup-number old (store.address / 4096)) ∙ found in rw (one, here) refl

get_or-zeros : (n k : ℕ) → let zeros : List ℕ = replicate n 0 in get_or zeros k 0 ≡ 0
get_or-zeros n k = elim (cases_lt k n) [
  | inl below ↦ get_or-replicate {A = ℕ} n k 0 0 below
  | inr past ↦ let zeros : List ℕ = replicate n 0 in get_or_past zeros k 0 (rw (length-replicate {A = ℕ} n 0) past)
]

-- a store in a page that was not kept
pub stored-new : (old new : List (ℕ × List ℕ)) (store : PendingView) (page after bytes : List ℕ) → IsPending store.address store.size → bytes ≡ take store.size (to_le_bytes w32 store.value)
    → lookup (is_at (nat_cmp (store.address / 4096))) old ≡ None → page ≡ replicate 4096 0
    → ((k : ℕ) → get_or after k 0 ≡ written page (store.address % 4096) bytes k)
    → Puts old new (store.address / 4096) after → byte_among new ≡ stored_among (byte_among old) store
stored-new old new store page after bytes is e found zeros over puts =
    byte_among-stored old new store page after bytes is e same over (puts-number old new (store.address / 4096) after puts) where
      same : (a : ℕ) → a / 4096 ≡ store.address / 4096 → get_or page (a % 4096) 0 ≡ byte_among old a
      same a one =
          let here : lookup (eqb (store.address / 4096)) old ≡ None = sym (lookup-number old (store.address / 4096)) ∙ found in
          rw (one, here, zeros) (get_or-zeros 4096 (a % 4096))

-- the same where the page's number and the store's place in it were worked out before
pub stored-kept-at : (old new : List (ℕ × List ℕ)) (store : PendingView) (number offset : ℕ) (page after bytes : List ℕ)
    → number ≡ page_number_at store.address → offset ≡ page_offset_at store.address
    → IsPending store.address store.size → bytes ≡ take store.size (to_le_bytes w32 store.value)
    → lookup (is_at (nat_cmp number)) old ≡ Some page
    → ((k : ℕ) → get_or after k 0 ≡ written page offset bytes k)
    → Puts old new number after → byte_among new ≡ stored_among (byte_among old) store
stored-kept-at old new store number offset page after bytes n o is e found over puts =
    stored-kept old new store page after bytes is e (rw (← n) found) (λ k. rw (← o) (over k)) (λ q. rw (← n) (puts q))

pub stored-new-at : (old new : List (ℕ × List ℕ)) (store : PendingView) (number offset : ℕ) (page after bytes : List ℕ)
    → number ≡ page_number_at store.address → offset ≡ page_offset_at store.address
    → IsPending store.address store.size → bytes ≡ take store.size (to_le_bytes w32 store.value)
    → lookup (is_at (nat_cmp number)) old ≡ None → page ≡ replicate 4096 0
    → ((k : ℕ) → get_or after k 0 ≡ written page offset bytes k)
    → Puts old new number after → byte_among new ≡ stored_among (byte_among old) store
stored-new-at old new store number offset page after bytes n o is e found zeros over puts =
    stored-new old new store page after bytes is e (rw (← n) found) zeros (λ k. rw (← o) (over k)) (λ q. rw (← n) (puts q))

-- the pages that are kept when so many are dropped
abbrev pub stays : ℕ → ℕ → ℕ → Bool
stays base pages number = ltb number base || leb pages (number - base)

number-is : (n k : ℕ) → eqb n k ≡ true → k ≡ n
number-is n k h = grind (arith, nat_tests)

stays-out : (base pages n : ℕ) → (n < base) ⊎ (base + pages ≤ n) → stays base pages n ≡ true
stays-out base pages n h = grind (arith, nat_tests)

stays-in : (base pages n : ℕ) → base ≤ n → n < base + pages → stays base pages n ≡ false
stays-in base pages n from below = grind (arith, nat_tests)

-- the bytes of a domain that no longer keeps some pages
pub zeroed-dropped : (old new : List (ℕ × List ℕ)) (base pages : ℕ) → new ≡ filter (λ e. stays base pages e.0) old → byte_among new ≡ zeroed_among (byte_among old) base pages
zeroed-dropped old new base pages e = fun_ext (λ a. at a) where
  kept : (n : ℕ) → lookup (eqb n) new ≡ cond (stays base pages n) (lookup (eqb n) old) None
  kept n = ap (λ (es : List (ℕ × List ℕ)). lookup (eqb n) es) e ∙ lookup-filter-keys (eqb n) (stays base pages) (stays base pages n) (λ k t. ap (stays base pages) (number-is n k t)) old

  out : (a : ℕ) → (a / 4096 < base) ⊎ (base + pages ≤ a / 4096) → byte_among new a ≡ zeroed_among (byte_among old) base pages a
  out a h =
      let found : lookup (eqb (a / 4096)) new ≡ lookup (eqb (a / 4096)) old = kept (a / 4096) ∙ rw (stays-out base pages (a / 4096) h) refl in
      rw found (sym (between-out base (base + pages) (a / 4096) 0 (byte_among old a) h))

  at : (a : ℕ) → byte_among new a ≡ zeroed_among (byte_among old) base pages a
  at a = elim (cases_lt (a / 4096) base) [
    | inl low ↦ out a (inl low)
    | inr from ↦ elim (cases_lt (a / 4096) (base + pages)) [
      | inr high ↦ out a (inr high)
      | inl below ↦
          let found : lookup (eqb (a / 4096)) new ≡ None = kept (a / 4096) ∙ rw (stays-in base pages (a / 4096) from below) refl in
          rw found (sym (between-in base (base + pages) (a / 4096) 0 (byte_among old a) from below))
    ]
  ]
