-- The operands of an item, and what is read of them.
use Rattle.std.specs.Prelude.{ℕ, ◌+◌, ◌-◌, ◌*◌, ◌^◌, ◌==◌, Bool, List, length, codes, ℤ, pos, ◌-ℤ◌, Option, Some, None, Result, Ok, Err, ok_or, count_by, if◌then◌else◌}
use Rattle.std.specs.List.{before_first, after_first}
use Rattle.rv32_decode.specs.declared.instruction.BranchKind.{BranchKind}
use Rattle.rv32_decode.specs.declared.instruction.OpImmKind.{OpImmKind}
use Rattle.rv32_decode.specs.declared.instruction.OpKind.{OpKind}
use Rattle.rv32_decode.specs.declared.instruction.Instr.{Instr}
use Rattle.rv32_decode.specs.declared.instruction.Instr.TheVariants as instr
use Rattle.rv32_decode.specs.Kinds.{is_shift}
use Rattle.rv32_text.specs.declared.faults.TextFault.{TextFault}
use Rattle.rv32_text.specs.declared.faults.TextFault.TheVariants as faults
use Rattle.rv32_text.specs.declared.labels.Defined.{Defined}
use Rattle.rv32_text.specs.declared.operands.Exchange.{Exchange}
use Rattle.plain_text.specs.Reading.{◌>>=◌}
use Rattle.rv32_text.specs.Blank.{trimmed}
use Rattle.rv32_text.specs.Number.{greatest_word, number_in, up_to, signed_within, even_within}
use Rattle.rv32_text.specs.Name.{register_of, set_of, ends_in, before_ending}
use Rattle.rv32_text.specs.Label.{is_label}

-- ---- operands between commas

-- one more than there are commas, or none
unfoldable pub operand_count : List ℕ → ℕ
operand_count text = if length (trimmed text) == 0 then 0 else 1 + count_by (λ b. b == 44) text

unfoldable pub first_operand : List ℕ → List ℕ
first_operand text = trimmed (before_first (λ b. b == 44) text)

unfoldable pub second_operand : List ℕ → List ℕ
second_operand text = first_operand (after_first (λ b. b == 44) text)

unfoldable pub third_operand : List ℕ → List ℕ
third_operand text = second_operand (after_first (λ b. b == 44) text)

-- ---- the forms of an operand

abbrev pub register_in : List ℕ → Result ℕ TextFault
register_in text = ok_or (register_of text) faults.Operand

abbrev pub set_in : List ℕ → Result ℕ TextFault
set_in text = ok_or (set_of text) faults.Operand

-- a register before the closing parenthesis at the end
unfoldable pub enclosed_in : List ℕ → Result ℕ TextFault
enclosed_in text =
    if ends_in text (codes ")") then register_in (trimmed (before_ending text (codes ")"))) else Err faults.Operand

-- a register in parentheses
unfoldable pub address_in : List ℕ → Result ℕ TextFault
address_in text =
    if length (before_first (λ b. b == 40) text) == 0 then enclosed_in (after_first (λ b. b == 40) text) else Err faults.Operand

-- a number, and a register in parentheses
unfoldable pub based_in : List ℕ → Result (ℤ × ℕ) TextFault
based_in text = do
  offset ← number_in (trimmed (before_first (λ b. b == 40) text))
  base ← enclosed_in (after_first (λ b. b == 40) text)
  Ok (offset, base)

-- how far a place is from the item before which so many stand; an item has 4 bytes
abbrev pub distance_to : ℕ → Option Defined → Result ℤ TextFault
distance_to items None = Err faults.Target
distance_to items (Some place) = Ok (pos (4 * place.items) -ℤ pos (4 * items))

-- a label that is defined somewhere, or the number itself
unfoldable pub target_in : (List ℕ → Option Defined) → ℕ → List ℕ → Result ℤ TextFault
target_in labels items text = if is_label text then distance_to items (labels text) else number_in text

-- ---- the operands of the rows

-- the registers of the first two operands
unfoldable pub pair_at : List ℕ → Result (ℕ × ℕ) TextFault
pair_at text = do
  a ← register_in (first_operand text)
  b ← register_in (second_operand text)
  Ok (a, b)

-- a register and bits 31 to 12
unfoldable pub upper_at : List ℕ → Result (ℕ × ℕ) TextFault
upper_at text = do
  rd ← register_in (first_operand text)
  number ← number_in (second_operand text)
  high ← up_to (2 ^ 20 - 1) number
  Ok (rd, high * 2 ^ 12)

-- a register and where to go
unfoldable pub jump_at : (List ℕ → Option Defined) → ℕ → List ℕ → Result Instr TextFault
jump_at labels items text = do
  rd ← register_in (first_operand text)
  distance ← target_in labels items (second_operand text)
  offset ← even_within (2 ^ 20) distance
  Ok (instr.Jal rd offset)

-- two registers and where to go
unfoldable pub branch_at : BranchKind → (List ℕ → Option Defined) → ℕ → List ℕ → Result Instr TextFault
branch_at kind labels items text = do
  pair ← pair_at text
  distance ← target_in labels items (third_operand text)
  offset ← even_within (2 ^ 12) distance
  Ok (instr.Branch kind pair.0 pair.1 offset)

-- a register, and an offset from another; the second register comes before the offset
unfoldable pub based_at : List ℕ → Result (ℕ × ℕ × ℤ) TextFault
based_at text = do
  register ← register_in (first_operand text)
  based ← based_in (second_operand text)
  offset ← signed_within (2 ^ 11) based.0
  Ok (register, based.1, offset)

-- a shift's amount, or a signed number
unfoldable pub immediate_within : OpImmKind → ℤ → Result ℤ TextFault
immediate_within kind number =
    if is_shift kind then up_to 31 number >>= (λ amount. Ok (pos amount)) else signed_within (2 ^ 11) number

-- two registers and a number
unfoldable pub immediate_at : OpImmKind → List ℕ → Result Instr TextFault
immediate_at kind text = do
  pair ← pair_at text
  number ← number_in (third_operand text)
  imm ← immediate_within kind number
  Ok (instr.OpImm kind pair.0 pair.1 imm)

-- three registers
unfoldable pub registers_at : OpKind → List ℕ → Result Instr TextFault
registers_at kind text = do
  pair ← pair_at text
  rs2 ← register_in (third_operand text)
  Ok (instr.Op kind pair.0 pair.1 rs2)

-- two sets of accesses
unfoldable pub sets_at : List ℕ → Result Instr TextFault
sets_at text = do
  pred ← set_in (first_operand text)
  succ ← set_in (second_operand text)
  Ok (instr.Fence 0 pred succ 0 0)

-- a register, and another in parentheses
unfoldable pub address_at : Bool → Bool → List ℕ → Result Instr TextFault
address_at aq rl text = do
  rd ← register_in (first_operand text)
  rs1 ← address_in (second_operand text)
  Ok (instr.Lr rd rs1 aq rl)

-- two registers, and another in parentheses, which comes before the second
unfoldable pub exchange_at : List ℕ → Result Exchange TextFault
exchange_at text = do
  pair ← pair_at text
  rs1 ← address_in (third_operand text)
  Ok (record { rd = pair.0; rs1 = rs1; rs2 = pair.1 })

-- a word
unfoldable pub plain_at : List ℕ → Result ℕ TextFault
plain_at text = do
  number ← number_in (first_operand text)
  up_to greatest_word number
