-- What a thread sees: the byte of the last that covers an address, among stores and among writes.
use Rattle.std.proofs.Common.{◌≡◌, ◌≢◌, ℕ, zero, suc, ◌+◌, ◌-◌, ◌<◌, ◌≤◌, Bool, true, false, cond, eqb, leb, ltb, eq-eqb, ne_eqb, ◌∙◌, ap, sym, refl, List, [], ◌∷◌, ◌++◌, All, IsTrue, IsFalse, Option, Some, None, unwrap_or, inl, inr, ◌⊎◌, arith}
use Rattle.std.proofs.lemmas.List.Elements.{All-nil, All-cons, All-head, All-tail}
use Rattle.std.proofs.lemmas.Bool.{and_parts, and_cases, and_from, and_right, leb-true, leb-false, ltb-true, ltb-false}
use Rattle.std.specs.List.{flat_map}
use Rattle.std.proofs.lemmas.List.Concat.{flat_map-cons}
use Rattle.std.proofs.lemmas.Bool.Decides.{eqb_tells}
use Rattle.mind_base.specs.Pending.{PendingView, covers, byte_at, byte_number, newest_from, newest_byte}
use Rattle.hart_effect.specs.Thread.{Thread}
use Rattle.tso_machine.specs.State.{State, Write, Byte, Zeros}
use Rattle.tso_machine.specs.Memory.{byte_after, byte_from, byte_of}
use Rattle.tso_machine.specs.Step.{bytes_from, bytes_of}
use Rattle.tso_machine.specs.Laws.{IsLastWith, IsNewestStore, NoneCovers, write_covers, byte_written, IsLastWrite, HasSource, sees}

-- ---- the last of a list that passes a test

-- the value of the last that passes a test, over the value that there was
overlaid : {X Y : Type 0} → (X → Bool) → (X → Y) → Y → List X → Y
overlaid test value y [] = y
overlaid test value y (x ∷ xs) = overlaid test value (cond (test x) (value x) y) xs

overlaid-append : {X Y : Type 0} (test : X → Bool) (value : X → Y) (y : Y) (xs zs : List X)
    → overlaid test value y (xs ++ zs) ≡ overlaid test value (overlaid test value y xs) zs
unfolding overlaid
overlaid-append test value y [] zs = refl
overlaid-append test value y (x ∷ xs) zs = overlaid-append test value (cond (test x) (value x) y) xs zs

overlaid-none : {X Y : Type 0} (test : X → Bool) (value : X → Y) (y : Y) (xs : List X) → All (λ x. IsFalse (test x)) xs → overlaid test value y xs ≡ y
unfolding overlaid
overlaid-none test value y [] none = refl
overlaid-none test value y (x ∷ xs) none =
    overlaid-none test value (cond (test x) (value x) y) xs (All-tail (λ x. IsFalse (test x)) x xs none)
    ∙ ap (λ b. cond b (value x) y) (All-head (λ x. IsFalse (test x)) x xs none)

overlaid-last : {X Y : Type 0} (test : X → Bool) (value : X → Y) (y : Y) (xs : List X) (x : X) → IsLastWith test xs x → overlaid test value y xs ≡ value x
unfolding overlaid
overlaid-last test value y xs x is = ap (overlaid test value y) is.split
    ∙ overlaid-append test value y is.before (x ∷ is.behind)
    ∙ overlaid-none test value (cond (test x) (value x) (overlaid test value y is.before)) is.behind is.none_later
    ∙ ap (λ b. cond b (value x) (overlaid test value y is.before)) is.passes

-- none passes, or there is a last that does
abbrev Found : {X : Type 0} → (X → Bool) → List X → Type 0
Found {X = X} test xs = All (λ x. IsFalse (test x)) xs ⊎ ((x : X) × IsLastWith test xs x)

last-found : {X : Type 0} (test : X → Bool) (xs : List X) → Found test xs
last-found test [] = inl (All-nil (λ x. IsFalse (test x)))
last-found {X = X} test (x ∷ xs) = by_test (test x) refl (last-found test xs) where
  by_test : (b : Bool) → test x ≡ b → Found test xs → Found test (x ∷ xs)
  by_test b is (inr found) = inr (
    found.0,
    record {
      before = x ∷ found.1.before;
      behind = found.1.behind;
      split = ap (λ ys. x ∷ ys) found.1.split;
      passes = found.1.passes;
      none_later = found.1.none_later;
    },
  )
  by_test true is (inl none) = inr (x, record { before = []; behind = xs; split = refl; passes = is; none_later = none })
  by_test false is (inl none) = inl (All-cons (λ x. IsFalse (test x)) x xs is none)

-- ---- stores of a buffer

newest-overlaid : (byte : Option ℕ) (stores : List PendingView) (address : ℕ)
    → newest_from byte stores address ≡ overlaid (λ s. covers s address) (λ s. Some (byte_at s address)) byte stores
unfolding overlaid
newest-overlaid byte [] address = refl
newest-overlaid byte (s ∷ stores) address = newest-overlaid (cond (covers s address) (Some (byte_at s address)) byte) stores address

newest-last : (stores : List PendingView) (address : ℕ) (s : PendingView) → IsNewestStore stores address s → newest_byte stores address ≡ Some (byte_at s address)
newest-last stores address s is = newest-overlaid None stores address ∙ overlaid-last (λ s. covers s address) (λ s. Some (byte_at s address)) None stores s is

newest-none : (stores : List PendingView) (address : ℕ) → NoneCovers stores address → newest_byte stores address ≡ None
newest-none stores address none = newest-overlaid None stores address ∙ overlaid-none (λ s. covers s address) (λ s. Some (byte_at s address)) None stores none

-- ---- writes to memory

after-cond : (write : Write) (domain address byte : ℕ) → byte_after write domain address byte ≡ cond (write_covers write domain address) (byte_written write) byte
after-cond (Byte d a value) domain address byte = refl
after-cond (Zeros span) domain address byte = refl

byte-overlaid : (byte : ℕ) (writes : List Write) (domain address : ℕ)
    → byte_from byte writes domain address ≡ overlaid (λ w. write_covers w domain address) byte_written byte writes
unfolding overlaid
byte-overlaid byte [] domain address = refl
byte-overlaid byte (w ∷ writes) domain address = ap (λ b. byte_from b writes domain address) (after-cond w domain address byte)
    ∙ byte-overlaid (cond (write_covers w domain address) (byte_written w) byte) writes domain address

byte-last : (writes : List Write) (domain address : ℕ) (w : Write) → IsLastWrite writes domain address w → byte_of writes domain address ≡ byte_written w
byte-last writes domain address w is = byte-overlaid 0 writes domain address ∙ overlaid-last (λ w. write_covers w domain address) byte_written 0 writes w is

byte-none : (writes : List Write) (domain address : ℕ) → All (λ w. IsFalse (write_covers w domain address)) writes → byte_of writes domain address ≡ 0
byte-none writes domain address none = byte-overlaid 0 writes domain address ∙ overlaid-none (λ w. write_covers w domain address) byte_written 0 writes none

-- ---- what a thread sees

-- the byte of its newest store that covers the address
pub sees-newest : (state : State) (domain : ℕ) (thread : Thread) (address : ℕ) (s : PendingView) → IsNewestStore thread.buffer address s
    → sees state domain thread address ≡ byte_at s address
sees-newest state domain thread address s is = ap (λ o. unwrap_or o (byte_of state.writes domain address)) (newest-last thread.buffer address s is)

-- memory's where none of its stores covers it
pub sees-memory : (state : State) (domain : ℕ) (thread : Thread) (address : ℕ) → NoneCovers thread.buffer address
    → sees state domain thread address ≡ byte_of state.writes domain address
sees-memory state domain thread address none = ap (λ o. unwrap_or o (byte_of state.writes domain address)) (newest-none thread.buffer address none)

pub has-source : (state : State) (domain : ℕ) (thread : Thread) (address : ℕ) → HasSource state domain thread address (sees state domain thread address)
has-source state domain thread address =
    by_store (last-found (λ s. covers s address) thread.buffer) (last-found (λ w. write_covers w domain address) state.writes) where
      by_store : Found (λ s. covers s address) thread.buffer → Found (λ w. write_covers w domain address) state.writes
          → HasSource state domain thread address (sees state domain thread address)
      by_store (inr own) writes = inl (own.0, own.1, sees-newest state domain thread address own.0 own.1)
      by_store (inl none) (inr write) =
          inr (inl (none, write.0, write.1, sees-memory state domain thread address none ∙ byte-last state.writes domain address write.0 write.1))
      by_store (inl none) (inl nothing) =
          inr (inr (none, nothing, sees-memory state domain thread address none ∙ byte-none state.writes domain address nothing))

-- ---- memory right after a store took effect

-- its bytes from number i on leave what lies beside them
bytes-beside : (byte domain at value i left address : ℕ) → ((k : ℕ) → k < left → at + i + k ≢ address)
    → byte_from byte (bytes_from domain at value i left) domain address ≡ byte
bytes-beside byte domain at value i zero address beside = refl
bytes-beside byte domain at value i (suc left) address beside =
    ap (λ b. byte_from (cond b (byte_number value i) byte) (bytes_from domain at value (suc i) left) domain address)
    (and_right (eqb domain domain) (eqb (at + i) address) (ne_eqb (at + i) address (λ e. beside 0 (omega arith) (omega (arith, e)))))
    ∙ bytes-beside byte domain at value (suc i) left address (λ k in_left e. beside (suc k) (omega arith) (omega (arith, e)))

-- what they cover is theirs
bytes-within : (byte domain at value i left address : ℕ) → at + i ≤ address → address < at + i + left
    → byte_from byte (bytes_from domain at value i left) domain address ≡ byte_number value (address - at)
bytes-within byte domain at value i zero address low high = absurd (omega arith)
bytes-within byte domain at value i (suc left) address low high =
    by_place (eqb_tells (at + i) address) (λ h. bytes-within byte domain at value (suc i) left address h (omega arith)) where
      head : Bool → ℕ
      head b = byte_from (cond b (byte_number value i) byte) (bytes_from domain at value (suc i) left) domain address

      by_place : ((eqb (at + i) address ≡ true) × (at + i ≡ address)) ⊎ ((eqb (at + i) address ≡ false) × (at + i ≢ address))
          → (at + suc i ≤ address → byte_from byte (bytes_from domain at value (suc i) left) domain address ≡ byte_number value (address - at))
          → byte_from byte (bytes_from domain at value i (suc left)) domain address ≡ byte_number value (address - at)
      by_place (inl same) later = ap head (and_from (eqb domain domain) (eqb (at + i) address) (eq-eqb domain domain refl) same.0)
          ∙ bytes-beside (byte_number value i) domain at value (suc i) left address (λ k in_left e. omega (arith, same.1))
          ∙ ap (byte_number value) (omega (arith, same.1))
      by_place (inr apart) later = ap head (and_right (eqb domain domain) (eqb (at + i) address) apart.0) ∙ later (omega (arith, apart.1))

byte_from-append : (byte : ℕ) (xs ys : List Write) (domain address : ℕ) → byte_from byte (xs ++ ys) domain address ≡ byte_from (byte_from byte xs domain address) ys domain address
byte_from-append byte [] ys domain address = refl
byte_from-append byte (x ∷ xs) ys domain address = byte_from-append (byte_after x domain address byte) xs ys domain address

-- memory holds its bytes
stored-covered : (byte domain : ℕ) (s : PendingView) (address : ℕ) → IsTrue (covers s address) → byte_from byte (bytes_of domain s) domain address ≡ byte_at s address
stored-covered byte domain s address covered =
    let parts = and_parts (leb s.address address) (ltb address (s.address + s.size)) covered in
    let low = leb-true s.address address parts.0 in
    let high = ltb-true address (s.address + s.size) parts.1 in
    bytes-within byte domain s.address s.value 0 s.size address (omega (arith, low)) (omega (arith, high))

-- and it leaves what it does not cover
stored-apart : (byte domain : ℕ) (s : PendingView) (address : ℕ) → IsFalse (covers s address) → byte_from byte (bytes_of domain s) domain address ≡ byte
stored-apart byte domain s address apart = bytes-beside byte domain s.address s.value 0 s.size address (λ k in_size e.
    elim (and_cases (leb s.address address) (ltb address (s.address + s.size)) apart) [
      | inl low ↦ let h = leb-false s.address address low in omega (arith, h)
      | inr high ↦ let h = ltb-false address (s.address + s.size) high in omega (arith, h)
    ])

pub byte-stored : (writes : List Write) (domain : ℕ) (s : PendingView) (address : ℕ) → IsTrue (covers s address)
    → byte_of (writes ++ bytes_of domain s) domain address ≡ byte_at s address
byte-stored writes domain s address covered =
    byte_from-append 0 writes (bytes_of domain s) domain address ∙ stored-covered (byte_of writes domain address) domain s address covered

-- the byte after a store
after-store : (byte domain : ℕ) (s : PendingView) (address : ℕ) → byte_from byte (bytes_of domain s) domain address ≡ cond (covers s address) (byte_at s address) byte
after-store byte domain s address = by_cover (covers s address) refl where
  by_cover : (b : Bool) → covers s address ≡ b → byte_from byte (bytes_of domain s) domain address ≡ cond b (byte_at s address) byte
  by_cover true is = stored-covered byte domain s address is
  by_cover false is = stored-apart byte domain s address is

-- the byte after all stores of a buffer is that of the newest
after-buffer : (found : Option ℕ) (byte domain : ℕ) (buffer : List PendingView) (address : ℕ)
    → byte_from (unwrap_or found byte) (flat_map (bytes_of domain) buffer) domain address ≡ unwrap_or (newest_from found buffer address) byte
after-buffer found byte domain [] address = refl
after-buffer found byte domain (s ∷ buffer) address =
    ap (λ ws. byte_from (unwrap_or found byte) ws domain address) (flat_map-cons (bytes_of domain) s buffer)
    ∙ byte_from-append (unwrap_or found byte) (bytes_of domain s) (flat_map (bytes_of domain) buffer) domain address
    ∙ ap (λ b. byte_from b (flat_map (bytes_of domain) buffer) domain address)
    (after-store (unwrap_or found byte) domain s address ∙ either (covers s address))
    ∙ after-buffer (cond (covers s address) (Some (byte_at s address)) found) byte domain buffer address where
      either : (b : Bool) → cond b (byte_at s address) (unwrap_or found byte) ≡ unwrap_or (cond b (Some (byte_at s address)) found) byte
      either true = refl
      either false = refl

pub sees-as_if_drained : (state : State) (domain : ℕ) (thread : Thread) (address : ℕ)
    → sees state domain thread address ≡ byte_of (state.writes ++ flat_map (bytes_of domain) thread.buffer) domain address
sees-as_if_drained state domain thread address = sym (
    byte_from-append 0 state.writes (flat_map (bytes_of domain) thread.buffer) domain address
    ∙ after-buffer None (byte_of state.writes domain address) domain thread.buffer address)
