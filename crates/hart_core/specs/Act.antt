-- What an instruction asks, given the registers and the pc.
use Rattle.std.specs.Prelude.{◌≡◌, ◌≢◌, ℕ, ℤ, ◌*◌, ◌/◌, ◌%◌, ◌<◌, List, ◌==◌, if◌then◌else◌}
use Rattle.rv32_decode.specs.declared.instruction.BranchKind.{BranchKind}
use Rattle.rv32_decode.specs.declared.instruction.Instr.{Instr}
use Rattle.rv32_decode.specs.declared.instruction.Instr.TheVariants as instr
use Rattle.hart_core.specs.declared.outcome.Act.{Act}
use Rattle.hart_core.specs.declared.outcome.Act.TheVariants.{Next, Load, Store, Locked, Fence, Call, Jumped, Broke}
use Rattle.hart_core.specs.declared.outcome.LockedKind.TheVariants.{Lr, Sc, Amo}
use Rattle.hart_core.specs.Registers.{register}
use Rattle.hart_core.specs.Memory.{store_size, IsAccessSize}
use Rattle.hart_core.specs.Values.{word_sum, word_from, op_value, register_kind, is_taken, is_ordering}

-- register rd takes the value, and the hart goes on at the next word
abbrev pub continues : ℕ → ℕ → ℕ → Act
continues rd value pc = Next rd value (word_sum pc 4)

-- register rd takes the value, and the hart goes on at the target, unless that is no multiple of 4
abbrev pub goes_to : ℕ → ℕ → ℕ → Act
goes_to rd value target = if target % 4 == 0 then Next rd value target else Jumped target

-- the hart goes on at the offset if the words compare so, and else at the next word
abbrev pub branches : BranchKind → ℕ → ℕ → ℤ → ℕ → Act
branches kind a b offset pc = if is_taken kind a b then goes_to 0 0 (word_sum pc (word_from offset)) else continues 0 0 pc

-- bit 0 is cleared
abbrev pub bit_cleared : ℕ → ℕ
bit_cleared target = target / 2 * 2

-- what the instruction asks of a hart with these registers at this pc
unfoldable pub act_of : Instr → List ℕ → ℕ → Act
act_of (instr.Lui rd imm) regs pc = continues rd imm pc
act_of (instr.Auipc rd imm) regs pc = continues rd (word_sum pc imm) pc
act_of (instr.Jal rd offset) regs pc = goes_to rd (word_sum pc 4) (word_sum pc (word_from offset))
act_of (instr.Jalr rd rs1 offset) regs pc =
    goes_to rd (word_sum pc 4) (bit_cleared (word_sum (register regs rs1) (word_from offset)))
act_of (instr.Branch kind rs1 rs2 offset) regs pc = branches kind (register regs rs1) (register regs rs2) offset pc
act_of (instr.Load kind rd rs1 offset) regs pc = Load kind rd (word_sum (register regs rs1) (word_from offset))
act_of (instr.Store kind rs1 rs2 offset) regs pc =
    Store (store_size kind) (word_sum (register regs rs1) (word_from offset)) (register regs rs2)
act_of (instr.OpImm kind rd rs1 imm) regs pc =
    continues rd (op_value (register_kind kind) (register regs rs1) (word_from imm)) pc
act_of (instr.Op kind rd rs1 rs2) regs pc = continues rd (op_value kind (register regs rs1) (register regs rs2)) pc
act_of (instr.Fence fm pred succ rd rs1) regs pc = Fence (is_ordering fm pred succ)
act_of instr.Ecall regs pc = Call
act_of instr.Ebreak regs pc = Broke
act_of (instr.Lr rd rs1 aq rl) regs pc = Locked Lr rd (register regs rs1) 0
act_of (instr.Sc rd rs1 rs2 aq rl) regs pc = Locked Sc rd (register regs rs1) (register regs rs2)
act_of (instr.Amo kind rd rs1 rs2 aq rl) regs pc =
    Locked (Amo kind) rd (register regs rs1) (register regs rs2)

-- the register that is named is one of the 32, and a store writes 1, 2 or 4 bytes
abbrev pub IsWellFormedAct : Act → Type 0
IsWellFormedAct (Next rd value pc) = rd < 32
IsWellFormedAct (Load kind rd address) = rd < 32
IsWellFormedAct (Store size address value) = IsAccessSize size
IsWellFormedAct (Locked kind rd address operand) = rd < 32
IsWellFormedAct (Fence drains) = Unit {0}
IsWellFormedAct Call = Unit {0}
IsWellFormedAct (Jumped target) = Unit {0}
IsWellFormedAct Broke = Unit {0}

-- the hart goes on at a multiple of 4, and only another target is a fault
abbrev pub IsAligned : Act → Type 0
IsAligned (Next rd value pc) = pc % 4 ≡ 0
IsAligned (Load kind rd address) = Unit {0}
IsAligned (Store size address value) = Unit {0}
IsAligned (Locked kind rd address operand) = Unit {0}
IsAligned (Fence drains) = Unit {0}
IsAligned Call = Unit {0}
IsAligned (Jumped target) = target % 4 ≢ 0
IsAligned Broke = Unit {0}
