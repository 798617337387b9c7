-- The codes that tell the rows of one opcode apart: funct3, funct7 and funct5 of the RISC-V manual's tables.
use Rattle.std.specs.Prelude.{ℕ, Bool, true, false, ◌==◌, ◌&&◌, List, [], ◌∷◌, Option, find}
use Rattle.rv32_decode.specs.declared.instruction.BranchKind.{BranchKind}
use Rattle.rv32_decode.specs.declared.instruction.BranchKind.TheVariants as branch
use Rattle.rv32_decode.specs.declared.instruction.LoadKind.{LoadKind}
use Rattle.rv32_decode.specs.declared.instruction.LoadKind.TheVariants as load
use Rattle.rv32_decode.specs.declared.instruction.StoreKind.{StoreKind}
use Rattle.rv32_decode.specs.declared.instruction.StoreKind.TheVariants as store
use Rattle.rv32_decode.specs.declared.instruction.OpImmKind.{OpImmKind}
use Rattle.rv32_decode.specs.declared.instruction.OpImmKind.TheVariants as op_imm
use Rattle.rv32_decode.specs.declared.instruction.OpKind.{OpKind}
use Rattle.rv32_decode.specs.declared.instruction.OpKind.TheVariants as op
use Rattle.rv32_decode.specs.declared.instruction.AmoKind.{AmoKind}
use Rattle.rv32_decode.specs.declared.instruction.AmoKind.TheVariants as amo

abbrev pub branch_funct3 : BranchKind → ℕ
branch_funct3 branch.Beq = 0b000
branch_funct3 branch.Bne = 0b001
branch_funct3 branch.Blt = 0b100
branch_funct3 branch.Bge = 0b101
branch_funct3 branch.Bltu = 0b110
branch_funct3 branch.Bgeu = 0b111

abbrev pub load_funct3 : LoadKind → ℕ
load_funct3 load.Lb = 0b000
load_funct3 load.Lh = 0b001
load_funct3 load.Lw = 0b010
load_funct3 load.Lbu = 0b100
load_funct3 load.Lhu = 0b101

abbrev pub store_funct3 : StoreKind → ℕ
store_funct3 store.Sb = 0b000
store_funct3 store.Sh = 0b001
store_funct3 store.Sw = 0b010

abbrev pub op_imm_funct3 : OpImmKind → ℕ
op_imm_funct3 op_imm.Addi = 0b000
op_imm_funct3 op_imm.Slti = 0b010
op_imm_funct3 op_imm.Sltiu = 0b011
op_imm_funct3 op_imm.Xori = 0b100
op_imm_funct3 op_imm.Ori = 0b110
op_imm_funct3 op_imm.Andi = 0b111
op_imm_funct3 op_imm.Slli = 0b001
op_imm_funct3 op_imm.Srli = 0b101
op_imm_funct3 op_imm.Srai = 0b101

-- the rows whose immediate is a shift amount below a funct7
abbrev pub is_shift : OpImmKind → Bool
is_shift op_imm.Slli = true
is_shift op_imm.Srli = true
is_shift op_imm.Srai = true
is_shift _ = false

abbrev pub shift_funct7 : OpImmKind → ℕ
shift_funct7 op_imm.Srai = 0b0100000
shift_funct7 _ = 0b0000000

-- a shift's funct7 is one; in the other rows those bits are the immediate's
abbrev pub allows_funct7 : OpImmKind → ℕ → Bool
allows_funct7 op_imm.Slli funct7 = funct7 == 0b0000000
allows_funct7 op_imm.Srli funct7 = funct7 == 0b0000000
allows_funct7 op_imm.Srai funct7 = funct7 == 0b0100000
allows_funct7 _ funct7 = true

abbrev pub op_funct3 : OpKind → ℕ
op_funct3 op.Add = 0b000
op_funct3 op.Sll = 0b001
op_funct3 op.Slt = 0b010
op_funct3 op.Sltu = 0b011
op_funct3 op.Xor = 0b100
op_funct3 op.Srl = 0b101
op_funct3 op.Or = 0b110
op_funct3 op.And = 0b111
op_funct3 op.Sub = 0b000
op_funct3 op.Sra = 0b101

abbrev pub op_funct7 : OpKind → ℕ
op_funct7 op.Sub = 0b0100000
op_funct7 op.Sra = 0b0100000
op_funct7 _ = 0b0000000

abbrev pub amo_funct5 : AmoKind → ℕ
amo_funct5 amo.Swap = 0b00001
amo_funct5 amo.Add = 0b00000
amo_funct5 amo.Xor = 0b00100
amo_funct5 amo.And = 0b01100
amo_funct5 amo.Or = 0b01000
amo_funct5 amo.Min = 0b10000
amo_funct5 amo.Max = 0b10100
amo_funct5 amo.Minu = 0b11000
amo_funct5 amo.Maxu = 0b11100

-- the kinds of each opcode
abbrev pub branch_kinds : List BranchKind
branch_kinds = branch.Beq ∷ branch.Bne ∷ branch.Blt ∷ branch.Bge ∷ branch.Bltu ∷ branch.Bgeu ∷ []

abbrev pub load_kinds : List LoadKind
load_kinds = load.Lb ∷ load.Lh ∷ load.Lw ∷ load.Lbu ∷ load.Lhu ∷ []

abbrev pub store_kinds : List StoreKind
store_kinds = store.Sb ∷ store.Sh ∷ store.Sw ∷ []

abbrev pub op_imm_kinds : List OpImmKind
op_imm_kinds = op_imm.Addi ∷ op_imm.Slti ∷ op_imm.Sltiu ∷ op_imm.Xori ∷ op_imm.Ori ∷ op_imm.Andi ∷ op_imm.Slli ∷ op_imm.Srli ∷ op_imm.Srai ∷ []

abbrev pub op_kinds : List OpKind
op_kinds = op.Add ∷ op.Sll ∷ op.Slt ∷ op.Sltu ∷ op.Xor ∷ op.Srl ∷ op.Or ∷ op.And ∷ op.Sub ∷ op.Sra ∷ []

abbrev pub amo_kinds : List AmoKind
amo_kinds = amo.Swap ∷ amo.Add ∷ amo.Xor ∷ amo.And ∷ amo.Or ∷ amo.Min ∷ amo.Max ∷ amo.Minu ∷ amo.Maxu ∷ []

-- the kind that has the code, if one has it
abbrev pub branch_kind : ℕ → Option BranchKind
branch_kind funct3 = find (λ kind. funct3 == branch_funct3 kind) branch_kinds

abbrev pub load_kind : ℕ → Option LoadKind
load_kind funct3 = find (λ kind. funct3 == load_funct3 kind) load_kinds

abbrev pub store_kind : ℕ → Option StoreKind
store_kind funct3 = find (λ kind. funct3 == store_funct3 kind) store_kinds

abbrev pub op_imm_kind : ℕ → ℕ → Option OpImmKind
op_imm_kind funct3 funct7 = find (λ kind. funct3 == op_imm_funct3 kind && allows_funct7 kind funct7) op_imm_kinds

abbrev pub op_kind : ℕ → ℕ → Option OpKind
op_kind funct3 funct7 = find (λ kind. funct3 == op_funct3 kind && funct7 == op_funct7 kind) op_kinds

abbrev pub amo_kind : ℕ → Option AmoKind
amo_kind funct5 = find (λ kind. funct5 == amo_funct5 kind) amo_kinds
