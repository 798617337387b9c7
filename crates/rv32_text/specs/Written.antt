-- The text of words.
use Rattle.std.specs.Prelude.{ℕ, ◌<◌, ◌*◌, ◌/◌, ◌%◌, ◌^◌, Bool, true, false, ◌&&◌, ◌||◌, ◌==◌, List, [], ◌∷◌, ◌++◌, codes, ℤ, Option, Some, None, if◌then◌else◌}
use Rattle.std.specs.List.{flat_map}
use Rattle.std.specs.Fmt.{decimal, signed_decimal, digit_glyph}
use Rattle.rv32_decode.specs.declared.instruction.Instr.{Instr}
use Rattle.rv32_decode.specs.declared.instruction.Instr.TheVariants as instr
use Rattle.rv32_decode.specs.Instr.{instr_of}
use Rattle.rv32_text.specs.declared.items.Item.{Item}
use Rattle.rv32_text.specs.declared.items.Item.TheVariants as item
use Rattle.rv32_text.specs.declared.rows.Atomic.TheVariants as atomic
use Rattle.rv32_text.specs.declared.rows.Row.{Row}
use Rattle.rv32_text.specs.declared.rows.Row.TheVariants as row
use Rattle.rv32_text.specs.declared.writing.Last.{Last}
use Rattle.rv32_text.specs.declared.writing.Last.TheVariants as last
use Rattle.rv32_text.specs.declared.writing.Operands.{Operands}
use Rattle.rv32_text.specs.declared.writing.Operands.TheVariants as operands
use Rattle.rv32_text.specs.Name.{register_name, set_name, row_name}

-- the fence of total store order, whatever its registers
abbrev pub is_tso : Instr → Bool
is_tso (instr.Fence fm pred succ rd rs1) = fm == 8 && pred == 3 && succ == 3
is_tso _ = false

-- A fence has a text where its registers are x0 and it is fence.tso, or has no mode. Every other instruction has one.
abbrev pub has_text : Instr → Bool
has_text (instr.Fence fm pred succ rd rs1) = rd == 0 && rs1 == 0 && (fm == 0 || (fm == 8 && pred == 3 && succ == 3))
has_text _ = true

abbrev pub item_for : ℕ → Option Instr → Item
item_for word (Some instr) = if has_text instr then item.Instr instr else item.Word word
item_for word None = item.Word word

-- the item that is written for a word: its instruction where that has a text, else the plain word
unfoldable pub item_of_word : ℕ → Item
item_of_word word = item_for word (instr_of word)

-- ---- operands

abbrev pub based_text : ℤ → ℕ → List ℕ
based_text offset base = signed_decimal offset ++ codes "(" ++ register_name base ++ codes ")"

abbrev pub address_text : ℕ → List ℕ
address_text base = codes "(" ++ register_name base ++ codes ")"

-- the last operand of a row, or its second register
abbrev pub last_text : Last → List ℕ
last_text (last.Register n) = register_name n
last_text (last.Unsigned n) = decimal n
last_text (last.Signed z) = signed_decimal z
last_text (last.Address base) = address_text base
last_text (last.Based offset base) = based_text offset base

-- its register is one
abbrev pub FitsLast : Last → Type 0
FitsLast (last.Register n) = n < 32
FitsLast (last.Address base) = base < 32
FitsLast (last.Based offset base) = base < 32
FitsLast _ = Unit {0}

abbrev pub hex_glyph : ℕ → ℕ → ℕ
hex_glyph word place = digit_glyph false (word / 2 ^ (4 * place) % 16)

-- eight hexadecimal digits
abbrev pub word_text : ℕ → List ℕ
word_text word =
    48 ∷ 120 ∷ hex_glyph word 7 ∷ hex_glyph word 6 ∷ hex_glyph word 5 ∷ hex_glyph word 4
    ∷ hex_glyph word 3 ∷ hex_glyph word 2 ∷ hex_glyph word 1 ∷ hex_glyph word 0 ∷ []

-- ---- lines

-- a row with this operand, or these, one space behind its name and a comma and a space between them
abbrev pub with_one : Row → List ℕ → List ℕ
with_one r a = row_name r ++ codes " " ++ a

abbrev pub with_two : Row → List ℕ → List ℕ → List ℕ
with_two r a b = row_name r ++ codes " " ++ a ++ codes ", " ++ b

abbrev pub with_three : Row → List ℕ → List ℕ → List ℕ → List ℕ
with_three r a b c = row_name r ++ codes " " ++ a ++ codes ", " ++ b ++ codes ", " ++ c

-- the registers and sets of the operands are there
abbrev pub FitsOperands : Operands → Type 0
FitsOperands operands.Bare = Unit {0}
FitsOperands (operands.Sets pred succ) = (pred < 16) × (succ < 16)
FitsOperands (operands.Two a last) = (a < 32) × FitsLast last
FitsOperands (operands.Three a b last) = (a < 32) × (b < 32) × FitsLast last

-- a row with its operands
abbrev pub row_text : Row × Operands → List ℕ
row_text (r, operands.Bare) = row_name r
row_text (r, operands.Sets pred succ) = with_two r (set_name pred) (set_name succ)
row_text (r, operands.Two a last) = with_two r (register_name a) (last_text last)
row_text (r, operands.Three a b last) = with_three r (register_name a) (register_name b) (last_text last)

-- the row and the operands of a fence with this mode
abbrev pub fence_row : ℕ → ℕ → ℕ → Row × Operands
fence_row fm pred succ = if fm == 0 then (row.Fence, operands.Sets pred succ) else (row.FenceTso, operands.Bare)

-- the row and the operands of an instruction
unfoldable pub instr_row : Instr → Row × Operands
instr_row (instr.Lui rd imm) = (row.Lui, operands.Two rd (last.Unsigned (imm / 2 ^ 12)))
instr_row (instr.Auipc rd imm) = (row.Auipc, operands.Two rd (last.Unsigned (imm / 2 ^ 12)))
instr_row (instr.Jal rd offset) = (row.Jal, operands.Two rd (last.Signed offset))
instr_row (instr.Jalr rd rs1 offset) = (row.Jalr, operands.Two rd (last.Based offset rs1))
instr_row (instr.Branch kind rs1 rs2 offset) = (row.Branch kind, operands.Three rs1 rs2 (last.Signed offset))
instr_row (instr.Load kind rd rs1 offset) = (row.Load kind, operands.Two rd (last.Based offset rs1))
instr_row (instr.Store kind rs1 rs2 offset) = (row.Store kind, operands.Two rs2 (last.Based offset rs1))
instr_row (instr.OpImm kind rd rs1 imm) = (row.OpImm kind, operands.Three rd rs1 (last.Signed imm))
instr_row (instr.Op kind rd rs1 rs2) = (row.Op kind, operands.Three rd rs1 (last.Register rs2))
instr_row (instr.Fence fm pred succ rd rs1) = fence_row fm pred succ
instr_row instr.Ecall = (row.Ecall, operands.Bare)
instr_row instr.Ebreak = (row.Ebreak, operands.Bare)
instr_row (instr.Lr rd rs1 aq rl) = (row.Atomic atomic.Lr aq rl, operands.Two rd (last.Address rs1))
instr_row (instr.Sc rd rs1 rs2 aq rl) = (row.Atomic atomic.Sc aq rl, operands.Three rd rs2 (last.Address rs1))
instr_row (instr.Amo kind rd rs1 rs2 aq rl) = (row.Atomic (atomic.Amo kind) aq rl, operands.Three rd rs2 (last.Address rs1))

unfoldable pub instr_text : Instr → List ℕ
instr_text i = row_text (instr_row i)

unfoldable pub item_text : Item → List ℕ
item_text (item.Instr instr) = instr_text instr
item_text (item.Word word) = with_one row.Word (word_text word)

-- the line of a word
abbrev pub word_line : ℕ → List ℕ
word_line word = item_text (item_of_word word) ++ codes "\n"

-- the lines of words, one behind the other
unfoldable pub disassembled : List ℕ → List ℕ
disassembled words = flat_map word_line words
