-- The kinds that have a code: a kind is found exactly at its code.
use Rattle.std.proofs.Common.{◌≡◌, ℕ, Bool, true, false, cond, ◌&&◌, eqb, List, [], ◌∷◌, Option, Some, None, refl, ap, subst}
use Rattle.std.specs.List.{find}
use Rattle.std.specs.Option.{option_map}
use Rattle.std.proofs.lemmas.Bool.{eqb-true, and_parts}
use Rattle.std.proofs.lemmas.Option.{none-some, same_Some}
use Rattle.rv32_decode.specs.declared.instruction.BranchKind.{BranchKind}
use Rattle.rv32_decode.specs.declared.instruction.BranchKind.TheVariants as branch
use Rattle.rv32_decode.specs.declared.instruction.LoadKind.{LoadKind}
use Rattle.rv32_decode.specs.declared.instruction.LoadKind.TheVariants as load
use Rattle.rv32_decode.specs.declared.instruction.StoreKind.{StoreKind}
use Rattle.rv32_decode.specs.declared.instruction.StoreKind.TheVariants as store
use Rattle.rv32_decode.specs.declared.instruction.OpImmKind.{OpImmKind}
use Rattle.rv32_decode.specs.declared.instruction.OpImmKind.TheVariants as op_imm
use Rattle.rv32_decode.specs.declared.instruction.OpKind.{OpKind}
use Rattle.rv32_decode.specs.declared.instruction.OpKind.TheVariants as op
use Rattle.rv32_decode.specs.declared.instruction.AmoKind.{AmoKind}
use Rattle.rv32_decode.specs.declared.instruction.AmoKind.TheVariants as amo
use Rattle.rv32_decode.specs.Kinds.{branch_funct3, load_funct3, store_funct3, op_imm_funct3, is_shift, shift_funct7, allows_funct7, op_funct3, op_funct7, amo_funct5, branch_kind, load_kind, store_kind, op_imm_kind, op_kind, amo_kind, op_imm_kinds, op_kinds}

-- which way a choice went
pub chosen : {A : Type 0} {P : Type 0} (t : Bool) (x y z : A) → cond t x y ≡ z → (t ≡ true → x ≡ z → P) → (y ≡ z → P) → P
chosen true x y z e f g = f refl e
chosen false x y z e f g = g e

-- what is found passes the test
pub find_passes : {X : Type 0} (p : X → Bool) (xs : List X) (x : X) → find p xs ≡ Some x → p x ≡ true
find_passes p [] x e = absurd (none-some x e)
find_passes p (y ∷ ys) x e =
    chosen (p y) (Some y) (find p ys) (Some x) e (λ t s. subst (λ z. p z ≡ true) (same_Some y x s) t) (λ f. find_passes p ys x f)

-- what a kind was made into
pub option_map_some : {A B P : Type 0} (f : A → B) (o : Option A) (y : B) → option_map f o ≡ Some y → ((x : A) → o ≡ Some x → f x ≡ y → P) → P
option_map_some f None y e g = absurd (none-some y e)
option_map_some f (Some x) y e g = g x refl (same_Some (f x) y e)

-- what is found by its code has that code
pub code_found : {X : Type 0} (code : X → ℕ) (xs : List X) (c : ℕ) (x : X) → find (λ y. eqb c (code y)) xs ≡ Some x → c ≡ code x
code_found code xs c x e = eqb-true c (code x) (find_passes (λ y. eqb c (code y)) xs x e)

-- what is found by two tests passes both
pub both_found : {X : Type 0} (p q : X → Bool) (xs : List X) (x : X) → find (λ y. p y && q y) xs ≡ Some x → (p x ≡ true) × (q x ≡ true)
both_found p q xs x e = and_parts (p x) (q x) (find_passes (λ y. p y && q y) xs x e)

pub op_imm_kind-code : (f g : ℕ) (k : OpImmKind) → op_imm_kind f g ≡ Some k → (f ≡ op_imm_funct3 k) × (allows_funct7 k g ≡ true)
op_imm_kind-code f g k e =
    let parts = both_found (λ kind. eqb f (op_imm_funct3 kind)) (λ kind. allows_funct7 kind g) op_imm_kinds k e in
    (eqb-true f (op_imm_funct3 k) parts.0, parts.1)

pub op_kind-code : (f g : ℕ) (k : OpKind) → op_kind f g ≡ Some k → (f ≡ op_funct3 k) × (g ≡ op_funct7 k)
op_kind-code f g k e =
    let parts = both_found (λ kind. eqb f (op_funct3 kind)) (λ kind. eqb g (op_funct7 kind)) op_kinds k e in
    (eqb-true f (op_funct3 k) parts.0, eqb-true g (op_funct7 k) parts.1)

-- ---- each kind stands at its code: one clause for one kind, and one for the others

pub branch_kind-at : (k : BranchKind) → branch_kind (branch_funct3 k) ≡ Some k
branch_kind-at branch.Beq = refl
branch_kind-at _ = refl

pub load_kind-at : (k : LoadKind) → load_kind (load_funct3 k) ≡ Some k
load_kind-at load.Lb = refl
load_kind-at _ = refl

pub store_kind-at : (k : StoreKind) → store_kind (store_funct3 k) ≡ Some k
store_kind-at store.Sb = refl
store_kind-at _ = refl

pub op_imm_kind-at : (k : OpImmKind) (g : ℕ) → allows_funct7 k g ≡ true → op_imm_kind (op_imm_funct3 k) g ≡ Some k
op_imm_kind-at op_imm.Slli g h = ap (op_imm_kind (op_imm_funct3 op_imm.Slli)) (eqb-true g 0 h)
op_imm_kind-at op_imm.Srli g h = ap (op_imm_kind (op_imm_funct3 op_imm.Srli)) (eqb-true g 0 h)
op_imm_kind-at op_imm.Srai g h = ap (op_imm_kind (op_imm_funct3 op_imm.Srai)) (eqb-true g 32 h)
op_imm_kind-at _ g h = refl

pub op_kind-at : (k : OpKind) → op_kind (op_funct3 k) (op_funct7 k) ≡ Some k
op_kind-at op.Add = refl
op_kind-at _ = refl

pub amo_kind-at : (k : AmoKind) → amo_kind (amo_funct5 k) ≡ Some k
amo_kind-at amo.Swap = refl
amo_kind-at _ = refl

-- ---- a shift's funct7 is its own

pub allows_funct7-shift : (k : OpImmKind) (g : ℕ) → is_shift k ≡ true → allows_funct7 k g ≡ true → g ≡ shift_funct7 k
allows_funct7-shift op_imm.Slli g s h = eqb-true g 0 h
allows_funct7-shift op_imm.Srli g s h = eqb-true g 0 h
allows_funct7-shift op_imm.Srai g s h = eqb-true g 32 h
allows_funct7-shift _ g s h = cc

pub allows_funct7-at : (k : OpImmKind) → allows_funct7 k (shift_funct7 k) ≡ true
allows_funct7-at op_imm.Addi = refl
allows_funct7-at _ = refl

pub allows_funct7-other : (k : OpImmKind) (g : ℕ) → is_shift k ≡ false → allows_funct7 k g ≡ true
allows_funct7-other op_imm.Slli g s = cc
allows_funct7-other op_imm.Srli g s = cc
allows_funct7-other op_imm.Srai g s = cc
allows_funct7-other _ g s = refl
