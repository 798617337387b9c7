-- The item of a line.
use Rattle.std.specs.Prelude.{ℕ, ◌<◌, ◌^◌, Bool, true, false, not, ◌==◌, List, length, drop, Option, Some, None, Result, Ok, Err, ok_or, if◌then◌else◌}
use Rattle.std.specs.List.{before_first, position_or_len}
use Rattle.rv32_decode.specs.declared.instruction.StoreKind.{StoreKind}
use Rattle.rv32_decode.specs.declared.instruction.Instr.{Instr}
use Rattle.rv32_decode.specs.declared.instruction.Instr.TheVariants as instr
use Rattle.rv32_decode.specs.Instr.{Fits}
use Rattle.rv32_text.specs.declared.faults.TextFault.{TextFault}
use Rattle.rv32_text.specs.declared.faults.TextFault.TheVariants as faults
use Rattle.rv32_text.specs.declared.items.Item.{Item}
use Rattle.rv32_text.specs.declared.items.Item.TheVariants as item
use Rattle.rv32_text.specs.declared.labels.Defined.{Defined}
use Rattle.rv32_text.specs.declared.rows.Atomic.{Atomic}
use Rattle.rv32_text.specs.declared.rows.Atomic.TheVariants as atomic
use Rattle.rv32_text.specs.declared.rows.Row.{Row}
use Rattle.rv32_text.specs.declared.rows.Row.TheVariants as row
use Rattle.plain_text.specs.Blank.{is_blank, is_text}
use Rattle.plain_text.specs.Reading.{◌>>=◌}
use Rattle.rv32_text.specs.Name.{row_named}
use Rattle.rv32_text.specs.Label.{before_comment, has_colon, label_before, statement_of, is_label}
use Rattle.rv32_text.specs.Operand.{operand_count, upper_at, jump_at, branch_at, based_at, immediate_at, registers_at, sets_at, address_at, exchange_at, plain_at}

-- the operands that a row has
abbrev pub operands_wanted : Row → ℕ
operands_wanted row.Lui = 2
operands_wanted row.Auipc = 2
operands_wanted row.Jal = 2
operands_wanted row.Jalr = 2
operands_wanted (row.Branch kind) = 3
operands_wanted (row.Load kind) = 2
operands_wanted (row.Store kind) = 2
operands_wanted (row.OpImm kind) = 3
operands_wanted (row.Op kind) = 3
operands_wanted row.Fence = 2
operands_wanted row.FenceTso = 0
operands_wanted row.Ecall = 0
operands_wanted row.Ebreak = 0
operands_wanted (row.Atomic atomic.Lr aq rl) = 2
operands_wanted (row.Atomic atomic.Sc aq rl) = 3
operands_wanted (row.Atomic (atomic.Amo kind) aq rl) = 3
operands_wanted row.Word = 1

-- the store, or the atomic instruction, with these operands; of a store the register that is stored comes before its base
unfoldable pub stored_at : StoreKind → List ℕ → Result Instr TextFault
stored_at kind text = based_at text >>= (λ read. Ok (instr.Store kind read.1 read.0 read.2))

unfoldable pub atomic_at : Atomic → Bool → Bool → List ℕ → Result Instr TextFault
atomic_at atomic.Lr aq rl text = address_at aq rl text
atomic_at atomic.Sc aq rl text = exchange_at text >>= (λ read. Ok (instr.Sc read.rd read.rs1 read.rs2 aq rl))
atomic_at (atomic.Amo kind) aq rl text = exchange_at text >>= (λ read. Ok (instr.Amo kind read.rd read.rs1 read.rs2 aq rl))

abbrev pub as_item : Result Instr TextFault → Result Item TextFault
as_item (Ok i) = Ok (item.Instr i)
as_item (Err fault) = Err fault

-- the item of a row with these operands, where so many items stand before it
unfoldable pub item_at : (List ℕ → Option Defined) → ℕ → Row → List ℕ → Result Item TextFault
item_at labels items row.Lui text = upper_at text >>= (λ read. Ok (item.Instr (instr.Lui read.0 read.1)))
item_at labels items row.Auipc text = upper_at text >>= (λ read. Ok (item.Instr (instr.Auipc read.0 read.1)))
item_at labels items row.Jal text = as_item (jump_at labels items text)
item_at labels items row.Jalr text = based_at text >>= (λ read. Ok (item.Instr (instr.Jalr read.0 read.1 read.2)))
item_at labels items (row.Branch kind) text = as_item (branch_at kind labels items text)
item_at labels items (row.Load kind) text = based_at text >>= (λ read. Ok (item.Instr (instr.Load kind read.0 read.1 read.2)))
item_at labels items (row.Store kind) text = as_item (stored_at kind text)
item_at labels items (row.OpImm kind) text = as_item (immediate_at kind text)
item_at labels items (row.Op kind) text = as_item (registers_at kind text)
item_at labels items row.Fence text = as_item (sets_at text)
item_at labels items row.FenceTso text = Ok (item.Instr (instr.Fence 8 3 3 0 0))
item_at labels items row.Ecall text = Ok (item.Instr instr.Ecall)
item_at labels items row.Ebreak text = Ok (item.Instr instr.Ebreak)
item_at labels items (row.Atomic kind aq rl) text = as_item (atomic_at kind aq rl text)
item_at labels items row.Word text = plain_at text >>= (λ word. Ok (item.Word word))

-- the name of an item ends at the first blank, and the operands stand behind it
abbrev pub item_name : List ℕ → List ℕ
item_name statement = before_first is_blank statement

abbrev pub operands_of : List ℕ → List ℕ
operands_of statement = drop (position_or_len is_blank statement) statement

-- the name is that of a row, the operands are as many as the row has, and each is read
unfoldable pub item_in : (List ℕ → Option Defined) → ℕ → List ℕ → Result Item TextFault
item_in labels items statement = do
  r ← ok_or (row_named (item_name statement)) faults.Word
  if operand_count (operands_of statement) == operands_wanted r then item_at labels items r (operands_of statement) else Err faults.Operand

abbrev pub is_defined_at : ℕ → Option Defined → Bool
is_defined_at line (Some place) = place.line == line
is_defined_at line None = false

-- the label of a line is well formed, and no earlier line defines it
unfoldable pub is_labelled : (List ℕ → Option Defined) → ℕ → List ℕ → Bool
is_labelled labels line code =
    if not (has_colon code) then true
    else if is_label (label_before code) then is_defined_at line (labels (label_before code))
    else false

-- the item of a line with this number, where so many items stand before it
unfoldable pub line_item : (List ℕ → Option Defined) → ℕ → ℕ → List ℕ → Result (Option Item) TextFault
line_item labels line items text =
    if not (is_text text) then Err faults.Text
    else if not (is_labelled labels line (before_comment text)) then Err faults.Label
    else if length (statement_of (before_comment text)) == 0 then Ok None
    else item_in labels items (statement_of (before_comment text)) >>= (λ i. Ok (Some i))

-- ---- what has a place in a word

unfoldable pub FitsItem : Item → Type 0
FitsItem (item.Instr i) = Fits i
FitsItem (item.Word word) = word < 2 ^ 32

abbrev pub FitsLine : Option Item → Type 0
FitsLine (Some i) = FitsItem i
FitsLine None = Unit {0}
