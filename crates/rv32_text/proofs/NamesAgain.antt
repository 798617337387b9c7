-- The names that are written are read again.
use Rattle.std.proofs.Common.{◌≡◌, ℕ, zero, suc, ◌<◌, ◌≤◌, Bool, true, false, not, ◌&&◌, ◌==◌, List, [], ◌∷◌, ◌++◌, length, get_or, refl, subst, arith, inl, inr, Some, Ok}
use Rattle.std.specs.Prelude.{nat_lt, nat_le}
use Rattle.std.specs.List.{list_all}
use Rattle.std.proofs.lemmas.Bool.{and_parts, cases_lt, ltb-true, leb-true}
use Rattle.rv32_decode.specs.declared.instruction.BranchKind.TheVariants as branch
use Rattle.rv32_decode.specs.declared.instruction.LoadKind.TheVariants as load
use Rattle.rv32_decode.specs.declared.instruction.StoreKind.TheVariants as store
use Rattle.rv32_decode.specs.declared.instruction.OpImmKind.TheVariants as op_imm
use Rattle.rv32_decode.specs.declared.instruction.OpKind.TheVariants as op
use Rattle.rv32_decode.specs.declared.instruction.AmoKind.TheVariants as amo
use Rattle.rv32_text.specs.declared.rows.Atomic.{Atomic}
use Rattle.rv32_text.specs.declared.rows.Atomic.TheVariants as atomic
use Rattle.rv32_text.specs.declared.rows.Row.{Row}
use Rattle.rv32_text.specs.declared.rows.Row.TheVariants as row
use Rattle.rv32_text.specs.Blank.{without_blanks_before, without_blanks_behind}
use Rattle.rv32_text.specs.Name.{number_named, use_named, named_among, register_of, register_name, set_of, set_name, row_named, row_name, plain_of, atomic_named, ordered_of}
use Rattle.rv32_text.specs.Operand.{enclosed_in, address_in}
use Rattle.rv32_text.specs.Written.{address_text}

-- a byte that may stand in a name or an operand: it prints, and is no blank, #, comma or colon
abbrev pub is_clean : ℕ → Bool
is_clean b = nat_lt 32 b && nat_lt b 127 && not (b == 35) && not (b == 44) && not (b == 58)

-- a name or an operand as it is written: clean, not empty, and of at most 16 bytes
pub record IsPiece (text : List ℕ) : Type 0 where
  pub some : 0 < length text
  pub short : length text ≤ 16
  pub clean : list_all is_clean text ≡ true

-- a fact of each number below a bound, one by one
abbrev pub EachBelow : (ℕ → Type 0) → ℕ → Type 0
EachBelow P zero = Unit {0}
EachBelow P (suc n) = EachBelow P n × P n

pub each_below : (P : ℕ → Type 0) (n k : ℕ) → EachBelow P n → k < n → P k
each_below P zero k all lt = absurd (omega arith)
each_below P (suc n) k all lt =
    elim (cases_lt k n) [
      | inl below ↦ each_below P n k all.0 below
      | inr rest ↦ let e : n ≡ k = omega arith in subst P e all.1
    ]

abbrev pub is_sized : List ℕ → Bool
is_sized text = nat_lt 0 (length text) && nat_le (length text) 16

pub piece : (text : List ℕ) → is_sized text ≡ true → list_all is_clean text ≡ true → IsPiece text
piece text sized c =
    let parts = and_parts (nat_lt 0 (length text)) (nat_le (length text) 16) sized in
    record { some = ltb-true 0 (length text) parts.0; short = leb-true (length text) 16 parts.1; clean = c }

-- a name of a table of names that are so short
pub at_most : (size : ℕ) (names : List (List ℕ)) (place : ℕ) → list_all (λ name. nat_le (length name) size) names ≡ true → length (get_or names place []) ≤ size
at_most size [] place e = omega arith
at_most size (name ∷ names) zero e = leb-true (length name) size (and_parts (nat_le (length name) size) (list_all (λ other. nat_le (length other) size) names) e).0
at_most size (name ∷ names) (suc place) e =
    at_most size names place (and_parts (nat_le (length name) size) (list_all (λ other. nat_le (length other) size) names) e).1

-- ---- registers

abbrev pub IsRegister : ℕ → Type 0
IsRegister n =
    (register_of (register_name n) ≡ Some n) × (is_sized (register_name n) ≡ true) × (list_all is_clean (register_name n) ≡ true)
    × (enclosed_in (register_name n ++ 41 ∷ []) ≡ Ok n) × (address_in (address_text n) ≡ Ok n) × (is_sized (address_text n) ≡ true) × (list_all is_clean (address_text n) ≡ true)

registers : EachBelow IsRegister 32
unfolding register_of number_named use_named enclosed_in address_in without_blanks_before without_blanks_behind
registers =
    ((((((((((((((((((((((((((((((((tt, (refl, refl, refl, refl, refl, refl, refl)), (refl, refl, refl, refl, refl, refl, refl)), (refl, refl, refl, refl, refl, refl, refl)), (refl, refl, refl, refl, refl, refl, refl)), (refl, refl, refl, refl, refl, refl, refl)), (refl, refl, refl, refl, refl, refl, refl)), (refl, refl, refl, refl, refl, refl, refl)), (refl, refl, refl, refl, refl, refl, refl)), (refl, refl, refl, refl, refl, refl, refl)), (refl, refl, refl, refl, refl, refl, refl)), (refl, refl, refl, refl, refl, refl, refl)), (refl, refl, refl, refl, refl, refl, refl)), (refl, refl, refl, refl, refl, refl, refl)), (refl, refl, refl, refl, refl, refl, refl)), (refl, refl, refl, refl, refl, refl, refl)), (refl, refl, refl, refl, refl, refl, refl)), (refl, refl, refl, refl, refl, refl, refl)), (refl, refl, refl, refl, refl, refl, refl)), (refl, refl, refl, refl, refl, refl, refl)), (refl, refl, refl, refl, refl, refl, refl)), (refl, refl, refl, refl, refl, refl, refl)), (refl, refl, refl, refl, refl, refl, refl)), (refl, refl, refl, refl, refl, refl, refl)), (refl, refl, refl, refl, refl, refl, refl)), (refl, refl, refl, refl, refl, refl, refl)), (refl, refl, refl, refl, refl, refl, refl)), (refl, refl, refl, refl, refl, refl, refl)), (refl, refl, refl, refl, refl, refl, refl)), (refl, refl, refl, refl, refl, refl, refl)), (refl, refl, refl, refl, refl, refl, refl)), (refl, refl, refl, refl, refl, refl, refl)), (refl, refl, refl, refl, refl, refl, refl))

pub register_again : (n : ℕ) → n < 32 → IsRegister n
register_again n lt = each_below IsRegister 32 n registers lt

-- ---- sets of accesses

abbrev pub IsSet : ℕ → Type 0
IsSet n = (set_of (set_name n) ≡ Some n) × (is_sized (set_name n) ≡ true) × (list_all is_clean (set_name n) ≡ true)

sets : EachBelow IsSet 16
unfolding set_of
sets = ((((((((((((((((tt, (refl, refl, refl)), (refl, refl, refl)), (refl, refl, refl)), (refl, refl, refl)), (refl, refl, refl)), (refl, refl, refl)), (refl, refl, refl)), (refl, refl, refl)), (refl, refl, refl)), (refl, refl, refl)), (refl, refl, refl)), (refl, refl, refl)), (refl, refl, refl)), (refl, refl, refl)), (refl, refl, refl)), (refl, refl, refl))

pub set_again : (n : ℕ) → n < 16 → IsSet n
set_again n lt = each_below IsSet 16 n sets lt

-- ---- rows

abbrev pub IsRow : Row → Type 0
IsRow r = (row_named (row_name r) ≡ Some r) × (is_sized (row_name r) ≡ true) × (list_all is_clean (row_name r) ≡ true)

-- one clause for one kind of a row, and one for the others
atomic_again : (aq rl : Bool) (kind : Atomic) → IsRow (row.Atomic kind aq rl)
unfolding row_named plain_of named_among atomic_named ordered_of
atomic_again true true (atomic.Amo amo.Swap) = (refl, refl, refl)
atomic_again true true _ = (refl, refl, refl)
atomic_again true false (atomic.Amo amo.Swap) = (refl, refl, refl)
atomic_again true false _ = (refl, refl, refl)
atomic_again false true (atomic.Amo amo.Swap) = (refl, refl, refl)
atomic_again false true _ = (refl, refl, refl)
atomic_again false false (atomic.Amo amo.Swap) = (refl, refl, refl)
atomic_again false false _ = (refl, refl, refl)

pub row_again : (r : Row) → IsRow r
unfolding row_named plain_of named_among atomic_named ordered_of
row_again (row.Branch branch.Beq) = (refl, refl, refl)
row_again (row.Load load.Lb) = (refl, refl, refl)
row_again (row.Store store.Sb) = (refl, refl, refl)
row_again (row.OpImm op_imm.Addi) = (refl, refl, refl)
row_again (row.Op op.Add) = (refl, refl, refl)
row_again (row.Atomic kind aq rl) = atomic_again aq rl kind
row_again _ = (refl, refl, refl)
