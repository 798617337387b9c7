-- The instruction table: which word spells which instruction.
use Rattle.std.specs.Prelude.{◌≡◌, ℕ, ◌+◌, ◌*◌, ◌/◌, ◌%◌, ◌^◌, ◌<◌, ℤ, pos, neg_ℤ, ◌≤ℤ◌, ◌<ℤ◌, unsigned_abs, Bool, true, MatchBool, ◌==◌, if◌then◌else◌, Option, Some, None}
use Rattle.std.specs.Option.{option_map}
use Rattle.std.specs.Int.{from_bool}
use Rattle.rv32_decode.specs.declared.instruction.Instr.{Instr}
use Rattle.rv32_decode.specs.declared.instruction.Instr.TheVariants.{Lui, Auipc, Jal, Jalr, Branch, Load, Store, OpImm, Op, Fence, Ecall, Ebreak, Lr, Sc, Amo}
use Rattle.rv32_decode.specs.declared.instruction.OpImmKind.{OpImmKind}
use Rattle.rv32_decode.specs.Fields.{field, opcode_of, rd_of, funct3_of, rs1_of, rs2_of, funct7_of, funct5_of, imm_i, imm_s, imm_b, imm_u, imm_j, complement}
use Rattle.rv32_decode.specs.Kinds.{branch_funct3, load_funct3, store_funct3, op_imm_funct3, is_shift, shift_funct7, allows_funct7, op_funct3, op_funct7, amo_funct5, branch_kind, load_kind, store_kind, op_imm_kind, op_kind, amo_kind}

-- ---- the rows

-- a bit of a word, as aq and rl are
abbrev pub bit_of : ℕ → ℕ → Bool
bit_of word place = field word place place == 1

-- the immediate of an operation is a shift amount, or that of format I
abbrev pub immediate_of : OpImmKind → ℕ → ℤ
immediate_of kind word = if is_shift kind then pos (rs2_of word) else imm_i word

-- the word has the codes of the instruction's row, and the instruction has the fields of the word
unfoldable pub Spells : ℕ → Instr → Type 0
Spells w (Lui rd imm) = (opcode_of w ≡ 0b0110111) × (rd ≡ rd_of w) × (imm ≡ imm_u w)
Spells w (Auipc rd imm) = (opcode_of w ≡ 0b0010111) × (rd ≡ rd_of w) × (imm ≡ imm_u w)
Spells w (Jal rd offset) = (opcode_of w ≡ 0b1101111) × (rd ≡ rd_of w) × (offset ≡ imm_j w)
Spells w (Jalr rd rs1 offset) =
    (opcode_of w ≡ 0b1100111) × (funct3_of w ≡ 0b000) × (rd ≡ rd_of w) × (rs1 ≡ rs1_of w) × (offset ≡ imm_i w)
Spells w (Branch kind rs1 rs2 offset) =
    (opcode_of w ≡ 0b1100011) × (funct3_of w ≡ branch_funct3 kind) × (rs1 ≡ rs1_of w) × (rs2 ≡ rs2_of w) × (offset ≡ imm_b w)
Spells w (Load kind rd rs1 offset) =
    (opcode_of w ≡ 0b0000011) × (funct3_of w ≡ load_funct3 kind) × (rd ≡ rd_of w) × (rs1 ≡ rs1_of w) × (offset ≡ imm_i w)
Spells w (Store kind rs1 rs2 offset) =
    (opcode_of w ≡ 0b0100011) × (funct3_of w ≡ store_funct3 kind) × (rs1 ≡ rs1_of w) × (rs2 ≡ rs2_of w) × (offset ≡ imm_s w)
Spells w (OpImm kind rd rs1 imm) =
    (opcode_of w ≡ 0b0010011) × (funct3_of w ≡ op_imm_funct3 kind) × (allows_funct7 kind (funct7_of w) ≡ true) × (rd ≡ rd_of w) × (rs1 ≡ rs1_of w) × (imm ≡ immediate_of kind w)
Spells w (Op kind rd rs1 rs2) =
    (opcode_of w ≡ 0b0110011) × (funct3_of w ≡ op_funct3 kind) × (funct7_of w ≡ op_funct7 kind) × (rd ≡ rd_of w) × (rs1 ≡ rs1_of w) × (rs2 ≡ rs2_of w)
Spells w (Fence fm pred succ rd rs1) =
    (opcode_of w ≡ 0b0001111) × (funct3_of w ≡ 0b000) × (fm ≡ field w 31 28) × (pred ≡ field w 27 24) × (succ ≡ field w 23 20) × (rd ≡ rd_of w) × (rs1 ≡ rs1_of w)
Spells w Ecall = w ≡ 0x00000073
Spells w Ebreak = w ≡ 0x00100073
Spells w (Lr rd rs1 aq rl) =
    (opcode_of w ≡ 0b0101111) × (funct3_of w ≡ 0b010) × (funct5_of w ≡ 0b00010) × (rs2_of w ≡ 0) × (rd ≡ rd_of w) × (rs1 ≡ rs1_of w) × (aq ≡ bit_of w 26) × (rl ≡ bit_of w 25)
Spells w (Sc rd rs1 rs2 aq rl) =
    (opcode_of w ≡ 0b0101111) × (funct3_of w ≡ 0b010) × (funct5_of w ≡ 0b00011) × (rd ≡ rd_of w) × (rs1 ≡ rs1_of w) × (rs2 ≡ rs2_of w) × (aq ≡ bit_of w 26) × (rl ≡ bit_of w 25)
Spells w (Amo kind rd rs1 rs2 aq rl) =
    (opcode_of w ≡ 0b0101111) × (funct3_of w ≡ 0b010) × (funct5_of w ≡ amo_funct5 kind) × (rd ≡ rd_of w) × (rs1 ≡ rs1_of w) × (rs2 ≡ rs2_of w) × (aq ≡ bit_of w 26) × (rl ≡ bit_of w 25)

-- ---- what has a place in a word

abbrev pub IsSigned : ℕ → ℤ → Type 0
IsSigned half z = (neg_ℤ (pos half) ≤ℤ z) × (z <ℤ pos half)

abbrev pub IsEven : ℤ → Type 0
IsEven z = unsigned_abs z % 2 ≡ 0

abbrev pub FitsImmediate : OpImmKind → ℤ → Type 0
FitsImmediate kind imm = MatchBool (is_shift kind) ((pos 0 ≤ℤ imm) × (imm <ℤ pos 32)) (IsSigned (2 ^ 11) imm)

-- each field fits its place in the word
unfoldable pub Fits : Instr → Type 0
Fits (Lui rd imm) = (rd < 32) × (imm < 2 ^ 32) × (imm % 2 ^ 12 ≡ 0)
Fits (Auipc rd imm) = (rd < 32) × (imm < 2 ^ 32) × (imm % 2 ^ 12 ≡ 0)
Fits (Jal rd offset) = (rd < 32) × IsSigned (2 ^ 20) offset × IsEven offset
Fits (Jalr rd rs1 offset) = (rd < 32) × (rs1 < 32) × IsSigned (2 ^ 11) offset
Fits (Branch kind rs1 rs2 offset) = (rs1 < 32) × (rs2 < 32) × IsSigned (2 ^ 12) offset × IsEven offset
Fits (Load kind rd rs1 offset) = (rd < 32) × (rs1 < 32) × IsSigned (2 ^ 11) offset
Fits (Store kind rs1 rs2 offset) = (rs1 < 32) × (rs2 < 32) × IsSigned (2 ^ 11) offset
Fits (OpImm kind rd rs1 imm) = (rd < 32) × (rs1 < 32) × FitsImmediate kind imm
Fits (Op kind rd rs1 rs2) = (rd < 32) × (rs1 < 32) × (rs2 < 32)
Fits (Fence fm pred succ rd rs1) = (fm < 16) × (pred < 16) × (succ < 16) × (rd < 32) × (rs1 < 32)
Fits Ecall = Unit {0}
Fits Ebreak = Unit {0}
Fits (Lr rd rs1 aq rl) = (rd < 32) × (rs1 < 32)
Fits (Sc rd rs1 rs2 aq rl) = (rd < 32) × (rs1 < 32) × (rs2 < 32)
Fits (Amo kind rd rs1 rs2 aq rl) = (rd < 32) × (rs1 < 32) × (rs2 < 32)

-- ---- the instruction of a word

unfoldable pub branch_of : ℕ → Option Instr
branch_of w = option_map (λ kind. Branch kind (rs1_of w) (rs2_of w) (imm_b w)) (branch_kind (funct3_of w))

unfoldable pub load_of : ℕ → Option Instr
load_of w = option_map (λ kind. Load kind (rd_of w) (rs1_of w) (imm_i w)) (load_kind (funct3_of w))

unfoldable pub store_of : ℕ → Option Instr
store_of w = option_map (λ kind. Store kind (rs1_of w) (rs2_of w) (imm_s w)) (store_kind (funct3_of w))

unfoldable pub op_imm_of : ℕ → Option Instr
op_imm_of w = option_map (λ kind. OpImm kind (rd_of w) (rs1_of w) (immediate_of kind w)) (op_imm_kind (funct3_of w) (funct7_of w))

unfoldable pub op_of : ℕ → Option Instr
op_of w = option_map (λ kind. Op kind (rd_of w) (rs1_of w) (rs2_of w)) (op_kind (funct3_of w) (funct7_of w))

unfoldable pub jalr_of : ℕ → Option Instr
jalr_of w = if funct3_of w == 0b000 then Some (Jalr (rd_of w) (rs1_of w) (imm_i w)) else None

unfoldable pub fence_of : ℕ → Option Instr
fence_of w =
    if funct3_of w == 0b000 then Some (Fence (field w 31 28) (field w 27 24) (field w 23 20) (rd_of w) (rs1_of w)) else None

unfoldable pub system_of : ℕ → Option Instr
system_of w = if w == 0x00000073 then Some Ecall else (if w == 0x00100073 then Some Ebreak else None)

unfoldable pub lr_of : ℕ → Option Instr
lr_of w = if rs2_of w == 0 then Some (Lr (rd_of w) (rs1_of w) (bit_of w 26) (bit_of w 25)) else None

unfoldable pub amo_of : ℕ → Option Instr
amo_of w = option_map (λ kind. Amo kind (rd_of w) (rs1_of w) (rs2_of w) (bit_of w 26) (bit_of w 25)) (amo_kind (funct5_of w))

unfoldable pub atomic_of : ℕ → Option Instr
atomic_of w =
    if funct3_of w == 0b010
    then (if funct5_of w == 0b00010
    then lr_of w
    else (if funct5_of w == 0b00011
    then Some (Sc (rd_of w) (rs1_of w) (rs2_of w) (bit_of w 26) (bit_of w 25))
    else amo_of w))
    else None

-- the instruction of a word with this opcode
unfoldable pub row_of : ℕ → ℕ → Option Instr
row_of opcode w =
    if opcode == 0b0110111 then Some (Lui (rd_of w) (imm_u w)) else (
    if opcode == 0b0010111 then Some (Auipc (rd_of w) (imm_u w)) else (
    if opcode == 0b1101111 then Some (Jal (rd_of w) (imm_j w)) else (
    if opcode == 0b1100111 then jalr_of w else (
    if opcode == 0b1100011 then branch_of w else (
    if opcode == 0b0000011 then load_of w else (
    if opcode == 0b0100011 then store_of w else (
    if opcode == 0b0010011 then op_imm_of w else (
    if opcode == 0b0110011 then op_of w else (
    if opcode == 0b0001111 then fence_of w else (
    if opcode == 0b1110011 then system_of w else (
    if opcode == 0b0101111 then atomic_of w else None)))))))))))

-- the instruction that the word spells, if it spells one
unfoldable pub instr_of : ℕ → Option Instr
instr_of word = row_of (opcode_of word) word

-- ---- the word of an instruction

-- a word with these fields, from the highest
abbrev pub word_with : ℕ → ℕ → ℕ → ℕ → ℕ → ℕ → ℕ
word_with funct7 rs2 rs1 funct3 rd opcode =
    funct7 * 2 ^ 25 + rs2 * 2 ^ 20 + rs1 * 2 ^ 15 + funct3 * 2 ^ 12 + rd * 2 ^ 7 + opcode

-- the same by format, where `bits` are those of the immediate
abbrev pub i_word : ℕ → ℕ → ℕ → ℕ → ℕ → ℕ
i_word bits rs1 funct3 rd opcode = word_with (bits / 2 ^ 5) (bits % 2 ^ 5) rs1 funct3 rd opcode

abbrev pub s_word : ℕ → ℕ → ℕ → ℕ → ℕ → ℕ
s_word bits rs2 rs1 funct3 opcode = word_with (bits / 2 ^ 5) rs2 rs1 funct3 (bits % 2 ^ 5) opcode

abbrev pub b_word : ℕ → ℕ → ℕ → ℕ → ℕ → ℕ
b_word bits rs2 rs1 funct3 opcode =
    word_with (bits / 2 ^ 12 * 2 ^ 6 + bits / 2 ^ 5 % 2 ^ 6) rs2 rs1 funct3 (bits / 2 % 2 ^ 4 * 2 + bits / 2 ^ 11 % 2) opcode

abbrev pub u_word : ℕ → ℕ → ℕ → ℕ
u_word imm rd opcode = imm + rd * 2 ^ 7 + opcode

abbrev pub j_word : ℕ → ℕ → ℕ → ℕ
j_word bits rd opcode =
    (bits / 2 ^ 20) * 2 ^ 31 + (bits / 2 % 2 ^ 10) * 2 ^ 21 + (bits / 2 ^ 11 % 2) * 2 ^ 20 + (bits / 2 ^ 12 % 2 ^ 8) * 2 ^ 12 + rd * 2 ^ 7 + opcode

-- the funct7 of an atomic row
abbrev pub ordered : ℕ → Bool → Bool → ℕ
ordered funct5 aq rl = funct5 * 2 ^ 2 + from_bool aq * 2 + from_bool rl

-- an operation with an immediate: a shift's amount stands below its funct7
abbrev pub op_imm_word : OpImmKind → ℕ → ℕ → ℤ → ℕ
op_imm_word kind rd rs1 imm =
    if is_shift kind
    then word_with (shift_funct7 kind) (complement (2 ^ 11) imm) rs1 (op_imm_funct3 kind) rd 0b0010011
    else i_word (complement (2 ^ 11) imm) rs1 (op_imm_funct3 kind) rd 0b0010011

-- the word that spells the instruction
unfoldable pub word_of : Instr → ℕ
word_of (Lui rd imm) = u_word imm rd 0b0110111
word_of (Auipc rd imm) = u_word imm rd 0b0010111
word_of (Jal rd offset) = j_word (complement (2 ^ 20) offset) rd 0b1101111
word_of (Jalr rd rs1 offset) = i_word (complement (2 ^ 11) offset) rs1 0b000 rd 0b1100111
word_of (Branch kind rs1 rs2 offset) = b_word (complement (2 ^ 12) offset) rs2 rs1 (branch_funct3 kind) 0b1100011
word_of (Load kind rd rs1 offset) = i_word (complement (2 ^ 11) offset) rs1 (load_funct3 kind) rd 0b0000011
word_of (Store kind rs1 rs2 offset) = s_word (complement (2 ^ 11) offset) rs2 rs1 (store_funct3 kind) 0b0100011
word_of (OpImm kind rd rs1 imm) = op_imm_word kind rd rs1 imm
word_of (Op kind rd rs1 rs2) = word_with (op_funct7 kind) rs2 rs1 (op_funct3 kind) rd 0b0110011
word_of (Fence fm pred succ rd rs1) = i_word (fm * 2 ^ 8 + pred * 2 ^ 4 + succ) rs1 0b000 rd 0b0001111
word_of Ecall = 0x00000073
word_of Ebreak = 0x00100073
word_of (Lr rd rs1 aq rl) = word_with (ordered 0b00010 aq rl) 0 rs1 0b010 rd 0b0101111
word_of (Sc rd rs1 rs2 aq rl) = word_with (ordered 0b00011 aq rl) rs2 rs1 0b010 rd 0b0101111
word_of (Amo kind rd rs1 rs2 aq rl) = word_with (ordered (amo_funct5 kind) aq rl) rs2 rs1 0b010 rd 0b0101111
