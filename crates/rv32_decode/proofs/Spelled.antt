-- The word of an instruction spells it, and is the only word that does.
use Rattle.std.proofs.Common.{◌≡◌, ℕ, ℤ, pos, negsuc, ◌≤ℤ◌, ◌<ℤ◌, ◌+◌, ◌*◌, ◌/◌, ◌%◌, ◌^◌, ◌<◌, Bool, true, false, cond, lit<, refl, ap, sym, ◌∙◌, arith, subst, MatchBool}
use Rattle.std.proofs.lemmas.Int.{ints}
use Rattle.rv32_decode.specs.declared.instruction.OpImmKind.{OpImmKind}
use Rattle.rv32_decode.specs.declared.instruction.BranchKind.{BranchKind}
use Rattle.rv32_decode.specs.declared.instruction.LoadKind.{LoadKind}
use Rattle.rv32_decode.specs.declared.instruction.StoreKind.{StoreKind}
use Rattle.rv32_decode.specs.declared.instruction.OpKind.{OpKind}
use Rattle.rv32_decode.specs.declared.instruction.AmoKind.{AmoKind}
use Rattle.rv32_decode.specs.declared.instruction.Instr.{Instr}
use Rattle.rv32_decode.specs.declared.instruction.Instr.TheVariants.{Lui, Auipc, Jal, Jalr, Branch, Load, Store, OpImm, Op, Fence, Ecall, Ebreak, Lr, Sc, Amo}
use Rattle.rv32_decode.specs.Fields.{field, opcode_of, rd_of, funct3_of, rs1_of, rs2_of, funct7_of, funct5_of, sign_extended, complement, imm_i, imm_u, i_bits, s_bits, b_bits, j_bits}
use Rattle.rv32_decode.specs.Kinds.{branch_funct3, load_funct3, store_funct3, op_imm_funct3, is_shift, shift_funct7, allows_funct7, op_funct3, op_funct7, amo_funct5}
use Rattle.rv32_decode.specs.Instr.{Spells, Fits, IsSigned, IsEven, word_of, op_imm_word, bit_of, word_with, i_word, s_word, b_word, u_word, j_word, ordered}
use Rattle.rv32_decode.proofs.Immediates.{complement-sign_extended, sign_extended-complement, complement_below, IsSigned-sign_extended, IsEven-sign_extended, complement-even}
use Rattle.rv32_decode.proofs.Words.{atomic-fields, HasFields, HasFields-word_with, HasUpper, HasUpper-u_word, HasJump, HasJump-j_word, i_bits-i_word, s_bits-s_word, b_bits-b_word, ordered-below, funct5-ordered, aq-ordered, rl-ordered}
use Rattle.rv32_decode.proofs.Codes.{allows_funct7-shift, allows_funct7-at, allows_funct7-other}

-- ---- what is spelled has one word

r_word-is : (w funct7 rs2 rs1 funct3 rd opcode : ℕ) → w < 2 ^ 32 → opcode_of w ≡ opcode → funct3_of w ≡ funct3 → funct7_of w ≡ funct7 → rd ≡ rd_of w → rs1 ≡ rs1_of w → rs2 ≡ rs2_of w → word_with funct7 rs2 rs1 funct3 rd opcode ≡ w
r_word-is w funct7 rs2 rs1 funct3 rd opcode h a b c d e f = omega arith

i_word-is : (w bits rs1 funct3 rd opcode : ℕ) → w < 2 ^ 32 → opcode_of w ≡ opcode → funct3_of w ≡ funct3 → bits ≡ i_bits w → rd ≡ rd_of w → rs1 ≡ rs1_of w → i_word bits rs1 funct3 rd opcode ≡ w
i_word-is w bits rs1 funct3 rd opcode h a b c d e = omega arith

s_word-is : (w bits rs2 rs1 funct3 opcode : ℕ) → w < 2 ^ 32 → opcode_of w ≡ opcode → funct3_of w ≡ funct3 → bits ≡ s_bits w → rs1 ≡ rs1_of w → rs2 ≡ rs2_of w → s_word bits rs2 rs1 funct3 opcode ≡ w
s_word-is w bits rs2 rs1 funct3 opcode h a b c d e = omega arith

b_word-is : (w bits rs2 rs1 funct3 opcode : ℕ) → w < 2 ^ 32 → opcode_of w ≡ opcode → funct3_of w ≡ funct3 → bits ≡ b_bits w → rs1 ≡ rs1_of w → rs2 ≡ rs2_of w → b_word bits rs2 rs1 funct3 opcode ≡ w
b_word-is w bits rs2 rs1 funct3 opcode h a b c d e = omega arith

u_word-is : (w imm rd opcode : ℕ) → w < 2 ^ 32 → opcode_of w ≡ opcode → rd ≡ rd_of w → imm ≡ imm_u w → u_word imm rd opcode ≡ w
u_word-is w imm rd opcode h a b c = omega arith

j_word-is : (w bits rd opcode : ℕ) → w < 2 ^ 32 → opcode_of w ≡ opcode → rd ≡ rd_of w → bits ≡ j_bits w → j_word bits rd opcode ≡ w
j_word-is w bits rd opcode h a b c = omega arith

-- the bits of an immediate that was read
pub bits_back : (half n : ℕ) (z : ℤ) → n < 2 * half → z ≡ sign_extended half n → complement half z ≡ n
bits_back half n z h e = ap (complement half) e ∙ complement-sign_extended half n h

op_imm_word-is : (w : ℕ) (kind : OpImmKind) (rd rs1 : ℕ) (imm : ℤ) → w < 2 ^ 32 → opcode_of w ≡ 0b0010011 → funct3_of w ≡ op_imm_funct3 kind → allows_funct7 kind (funct7_of w) ≡ true → rd ≡ rd_of w → rs1 ≡ rs1_of w → (shift : Bool) → is_shift kind ≡ shift → imm ≡ cond shift (pos (rs2_of w)) (imm_i w) → cond shift (word_with (shift_funct7 kind) (complement (2 ^ 11) imm) rs1 (op_imm_funct3 kind) rd 0b0010011) (i_word (complement (2 ^ 11) imm) rs1 (op_imm_funct3 kind) rd 0b0010011) ≡ w
op_imm_word-is w kind rd rs1 imm h o f g d s true is e =
    r_word-is w (shift_funct7 kind) (complement (2 ^ 11) imm) rs1 (op_imm_funct3 kind) rd 0b0010011 h o f (allows_funct7-shift kind (funct7_of w) is g) d s (ap (complement (2 ^ 11)) e)
op_imm_word-is w kind rd rs1 imm h o f g d s false is e =
    i_word-is w (complement (2 ^ 11) imm) rs1 (op_imm_funct3 kind) rd 0b0010011 h o f (bits_back (2 ^ 11) (i_bits w) imm (omega arith) e) d s

fence_bits : (w fm pred succ : ℕ) → w < 2 ^ 32 → fm ≡ field w 31 28 → pred ≡ field w 27 24 → succ ≡ field w 23 20 → fm * 2 ^ 8 + pred * 2 ^ 4 + succ ≡ field w 31 20
fence_bits w fm pred succ h a b c = omega arith

ordered-is : (w funct5 : ℕ) (aq rl : Bool) → w < 2 ^ 32 → funct5_of w ≡ funct5 → aq ≡ bit_of w 26 → rl ≡ bit_of w 25 → funct7_of w ≡ ordered funct5 aq rl
ordered-is w funct5 aq rl h a b c = sym (atomic-fields w h) ∙ cc

-- an instruction's word is each word that spells it
pub word_of-spelled : (w : ℕ) (i : Instr) → w < 2 ^ 32 → Spells w i → word_of i ≡ w
unfolding Spells word_of
word_of-spelled w (Lui rd imm) h s = u_word-is w imm rd 0b0110111 h s.0 s.1 s.2
word_of-spelled w (Auipc rd imm) h s = u_word-is w imm rd 0b0010111 h s.0 s.1 s.2
word_of-spelled w (Jal rd offset) h s = j_word-is w (complement (2 ^ 20) offset) rd 0b1101111 h s.0 s.1 (bits_back (2 ^ 20) (j_bits w) offset (omega arith) s.2)
word_of-spelled w (Jalr rd rs1 offset) h s = i_word-is w (complement (2 ^ 11) offset) rs1 0b000 rd 0b1100111 h s.0 s.1 (bits_back (2 ^ 11) (i_bits w) offset (omega arith) s.4) s.2 s.3
word_of-spelled w (Branch kind rs1 rs2 offset) h s = b_word-is w (complement (2 ^ 12) offset) rs2 rs1 (branch_funct3 kind) 0b1100011 h s.0 s.1 (bits_back (2 ^ 12) (b_bits w) offset (omega arith) s.4) s.2 s.3
word_of-spelled w (Load kind rd rs1 offset) h s = i_word-is w (complement (2 ^ 11) offset) rs1 (load_funct3 kind) rd 0b0000011 h s.0 s.1 (bits_back (2 ^ 11) (i_bits w) offset (omega arith) s.4) s.2 s.3
word_of-spelled w (Store kind rs1 rs2 offset) h s = s_word-is w (complement (2 ^ 11) offset) rs2 rs1 (store_funct3 kind) 0b0100011 h s.0 s.1 (bits_back (2 ^ 11) (s_bits w) offset (omega arith) s.4) s.2 s.3
word_of-spelled w (OpImm kind rd rs1 imm) h s = op_imm_word-is w kind rd rs1 imm h s.0 s.1 s.2 s.3 s.4 (is_shift kind) refl s.5
word_of-spelled w (Op kind rd rs1 rs2) h s = r_word-is w (op_funct7 kind) rs2 rs1 (op_funct3 kind) rd 0b0110011 h s.0 s.1 s.2 s.3 s.4 s.5
word_of-spelled w (Fence fm pred succ rd rs1) h s = i_word-is w (fm * 2 ^ 8 + pred * 2 ^ 4 + succ) rs1 0b000 rd 0b0001111 h s.0 s.1 (fence_bits w fm pred succ h s.2 s.3 s.4) s.5 s.6
word_of-spelled w Ecall h s = sym s
word_of-spelled w Ebreak h s = sym s
word_of-spelled w (Lr rd rs1 aq rl) h s = r_word-is w (ordered 0b00010 aq rl) 0 rs1 0b010 rd 0b0101111 h s.0 s.1 (ordered-is w 0b00010 aq rl h s.2 s.6 s.7) s.4 s.5 (sym s.3)
word_of-spelled w (Sc rd rs1 rs2 aq rl) h s = r_word-is w (ordered 0b00011 aq rl) rs2 rs1 0b010 rd 0b0101111 h s.0 s.1 (ordered-is w 0b00011 aq rl h s.2 s.6 s.7) s.3 s.4 s.5
word_of-spelled w (Amo kind rd rs1 rs2 aq rl) h s = r_word-is w (ordered (amo_funct5 kind) aq rl) rs2 rs1 0b010 rd 0b0101111 h s.0 s.1 (ordered-is w (amo_funct5 kind) aq rl h s.2 s.6 s.7) s.3 s.4 s.5

-- ---- what is spelled fits

register_below : (r n : ℕ) → r ≡ n % 32 → r < 32
register_below r n e = omega arith

signed_fits : (half n : ℕ) (z : ℤ) → n < 2 * half → z ≡ sign_extended half n → IsSigned half z
signed_fits half n z h e = subst (IsSigned half) (sym e) (IsSigned-sign_extended half n h)

even_fits : (half n : ℕ) (z : ℤ) → n < 2 * half → n % 2 ≡ 0 → z ≡ sign_extended half n → IsEven z
even_fits half n z h d e = subst IsEven (sym e) (IsEven-sign_extended half n h d)

immediate_fits : (w : ℕ) (imm : ℤ) (shift : Bool) → imm ≡ cond shift (pos (rs2_of w)) (imm_i w) → MatchBool shift ((pos 0 ≤ℤ imm) × (imm <ℤ pos 32)) (IsSigned (2 ^ 11) imm)
immediate_fits w imm true e = (omega (arith, ints), omega (arith, ints))
immediate_fits w imm false e = signed_fits (2 ^ 11) (i_bits w) imm (omega arith) e

pub spelled-fits : (w : ℕ) (i : Instr) → w < 2 ^ 32 → Spells w i → Fits i
unfolding Spells Fits
spelled-fits w (Lui rd imm) h s = (register_below rd _ s.1, omega arith, omega arith)
spelled-fits w (Auipc rd imm) h s = (register_below rd _ s.1, omega arith, omega arith)
spelled-fits w (Jal rd offset) h s = (register_below rd _ s.1, signed_fits (2 ^ 20) (j_bits w) offset (omega arith) s.2, even_fits (2 ^ 20) (j_bits w) offset (omega arith) (omega arith) s.2)
spelled-fits w (Jalr rd rs1 offset) h s = (register_below rd _ s.2, register_below rs1 _ s.3, signed_fits (2 ^ 11) (i_bits w) offset (omega arith) s.4)
spelled-fits w (Branch kind rs1 rs2 offset) h s = (register_below rs1 _ s.2, register_below rs2 _ s.3, signed_fits (2 ^ 12) (b_bits w) offset (omega arith) s.4, even_fits (2 ^ 12) (b_bits w) offset (omega arith) (omega arith) s.4)
spelled-fits w (Load kind rd rs1 offset) h s = (register_below rd _ s.2, register_below rs1 _ s.3, signed_fits (2 ^ 11) (i_bits w) offset (omega arith) s.4)
spelled-fits w (Store kind rs1 rs2 offset) h s = (register_below rs1 _ s.2, register_below rs2 _ s.3, signed_fits (2 ^ 11) (s_bits w) offset (omega arith) s.4)
spelled-fits w (OpImm kind rd rs1 imm) h s = (register_below rd _ s.3, register_below rs1 _ s.4, immediate_fits w imm (is_shift kind) s.5)
spelled-fits w (Op kind rd rs1 rs2) h s = (register_below rd _ s.3, register_below rs1 _ s.4, register_below rs2 _ s.5)
spelled-fits w (Fence fm pred succ rd rs1) h s = (omega arith, omega arith, omega arith, register_below rd _ s.5, register_below rs1 _ s.6)
spelled-fits w Ecall h s = tt
spelled-fits w Ebreak h s = tt
spelled-fits w (Lr rd rs1 aq rl) h s = (register_below rd _ s.4, register_below rs1 _ s.5)
spelled-fits w (Sc rd rs1 rs2 aq rl) h s = (register_below rd _ s.3, register_below rs1 _ s.4, register_below rs2 _ s.5)
spelled-fits w (Amo kind rd rs1 rs2 aq rl) h s = (register_below rd _ s.3, register_below rs1 _ s.4, register_below rs2 _ s.5)

-- ---- what fits is spelled by its word

pub IsSpelled : Instr → ℕ → Type 0
IsSpelled i w = (w < 2 ^ 32) × Spells w i

signed_back : (half n : ℕ) (z : ℤ) → IsSigned half z → n ≡ complement half z → z ≡ sign_extended half n
signed_back half n z h e = sym (ap (sign_extended half) e ∙ sign_extended-complement half z h)

i_format : (z : ℤ) (rs1 funct3 rd opcode : ℕ) → IsSigned (2 ^ 11) z → rs1 < 32 → funct3 < 8 → rd < 32 → opcode < 128 → HasFields (complement (2 ^ 11) z / 2 ^ 5) (complement (2 ^ 11) z % 2 ^ 5) rs1 funct3 rd opcode (i_word (complement (2 ^ 11) z) rs1 funct3 rd opcode)
i_format z rs1 funct3 rd opcode h a b c d =
    let below : complement (2 ^ 11) z < 2 ^ 12 = complement_below (2 ^ 11) z h in
    HasFields-word_with (complement (2 ^ 11) z / 2 ^ 5) (complement (2 ^ 11) z % 2 ^ 5) rs1 funct3 rd opcode (omega arith) (omega arith) a b c d

i_imm : (z : ℤ) (w rs1 funct3 rd opcode : ℕ) → IsSigned (2 ^ 11) z → HasFields (complement (2 ^ 11) z / 2 ^ 5) (complement (2 ^ 11) z % 2 ^ 5) rs1 funct3 rd opcode w → z ≡ imm_i w
i_imm z w rs1 funct3 rd opcode h f = signed_back (2 ^ 11) (i_bits w) z h (i_bits-i_word (complement (2 ^ 11) z) w rs1 funct3 rd opcode f)

s_format : (z : ℤ) (rs2 rs1 funct3 opcode : ℕ) → IsSigned (2 ^ 11) z → rs2 < 32 → rs1 < 32 → funct3 < 8 → opcode < 128 → HasFields (complement (2 ^ 11) z / 2 ^ 5) rs2 rs1 funct3 (complement (2 ^ 11) z % 2 ^ 5) opcode (s_word (complement (2 ^ 11) z) rs2 rs1 funct3 opcode)
s_format z rs2 rs1 funct3 opcode h a b c d =
    let below : complement (2 ^ 11) z < 2 ^ 12 = complement_below (2 ^ 11) z h in
    HasFields-word_with (complement (2 ^ 11) z / 2 ^ 5) rs2 rs1 funct3 (complement (2 ^ 11) z % 2 ^ 5) opcode (omega arith) a b c (omega arith) d

b_format : (bits rs2 rs1 funct3 opcode : ℕ) → bits < 2 ^ 13 → rs2 < 32 → rs1 < 32 → funct3 < 8 → opcode < 128 → HasFields (bits / 2 ^ 12 * 2 ^ 6 + bits / 2 ^ 5 % 2 ^ 6) rs2 rs1 funct3 (bits / 2 % 2 ^ 4 * 2 + bits / 2 ^ 11 % 2) opcode (b_word bits rs2 rs1 funct3 opcode)
b_format bits rs2 rs1 funct3 opcode h a b c d =
    HasFields-word_with (bits / 2 ^ 12 * 2 ^ 6 + bits / 2 ^ 5 % 2 ^ 6) rs2 rs1 funct3 (bits / 2 % 2 ^ 4 * 2 + bits / 2 ^ 11 % 2) opcode (omega arith) a b c (omega arith) d

lui_word : (imm rd opcode : ℕ) → rd < 32 → imm < 2 ^ 32 → imm % 2 ^ 12 ≡ 0 → opcode < 128 → (u_word imm rd opcode < 2 ^ 32) × ((opcode_of (u_word imm rd opcode) ≡ opcode) × (rd ≡ rd_of (u_word imm rd opcode)) × (imm ≡ imm_u (u_word imm rd opcode)))
lui_word imm rd opcode r i e o =
    let f : HasUpper imm rd opcode (u_word imm rd opcode) = HasUpper-u_word imm rd opcode i e r o in
    (f.below, (f.opcode_is, sym f.rd_is, sym f.imm_is))

jal_spells : (rd : ℕ) (z : ℤ) → rd < 32 → IsSigned (2 ^ 20) z → IsEven z → IsSpelled (Jal rd z) (word_of (Jal rd z))
unfolding IsSpelled Spells word_of
jal_spells rd z r h e =
    let bits : ℕ = complement (2 ^ 20) z in
    let f : HasJump bits rd 0b1101111 (j_word bits rd 0b1101111) = HasJump-j_word bits rd 0b1101111 (complement_below (2 ^ 20) z h) (complement-even (2 ^ 20) z h e) r (lit< tt) in
    (f.below, (f.opcode_is, sym f.rd_is, signed_back (2 ^ 20) (j_bits (j_word bits rd 0b1101111)) z h f.bits_is))

jalr_spells : (rd rs1 : ℕ) (z : ℤ) → rd < 32 → rs1 < 32 → IsSigned (2 ^ 11) z → IsSpelled (Jalr rd rs1 z) (word_of (Jalr rd rs1 z))
unfolding IsSpelled Spells word_of
jalr_spells rd rs1 z r s h =
    let w : ℕ = i_word (complement (2 ^ 11) z) rs1 0 rd 0b1100111 in
    let f : HasFields _ _ rs1 0 rd 0b1100111 w = i_format z rs1 0 rd 0b1100111 h s (lit< tt) r (lit< tt) in
    (f.below, (f.opcode_is, f.funct3_is, sym f.rd_is, sym f.rs1_is, i_imm z w rs1 0 rd 0b1100111 h f))

branch_spells : (kind : BranchKind) (rs1 rs2 : ℕ) (z : ℤ) → rs1 < 32 → rs2 < 32 → IsSigned (2 ^ 12) z → IsEven z → IsSpelled (Branch kind rs1 rs2 z) (word_of (Branch kind rs1 rs2 z))
unfolding IsSpelled Spells word_of
branch_spells kind rs1 rs2 z r s h e =
    let bits : ℕ = complement (2 ^ 12) z in
    let below : bits < 2 ^ 13 = complement_below (2 ^ 12) z h in
    let w : ℕ = b_word bits rs2 rs1 (branch_funct3 kind) 0b1100011 in
    let f : HasFields _ rs2 rs1 (branch_funct3 kind) _ 0b1100011 w = b_format bits rs2 rs1 (branch_funct3 kind) 0b1100011 below s r (grind arith) (lit< tt) in
    (f.below, (f.opcode_is, f.funct3_is, sym f.rs1_is, sym f.rs2_is, signed_back (2 ^ 12) (b_bits w) z h (b_bits-b_word bits w rs2 rs1 (branch_funct3 kind) 0b1100011 below (complement-even (2 ^ 12) z h e) f)))

load_spells : (kind : LoadKind) (rd rs1 : ℕ) (z : ℤ) → rd < 32 → rs1 < 32 → IsSigned (2 ^ 11) z → IsSpelled (Load kind rd rs1 z) (word_of (Load kind rd rs1 z))
unfolding IsSpelled Spells word_of
load_spells kind rd rs1 z r s h =
    let w : ℕ = i_word (complement (2 ^ 11) z) rs1 (load_funct3 kind) rd 0b0000011 in
    let f : HasFields _ _ rs1 (load_funct3 kind) rd 0b0000011 w = i_format z rs1 (load_funct3 kind) rd 0b0000011 h s (grind arith) r (lit< tt) in
    (f.below, (f.opcode_is, f.funct3_is, sym f.rd_is, sym f.rs1_is, i_imm z w rs1 (load_funct3 kind) rd 0b0000011 h f))

store_spells : (kind : StoreKind) (rs1 rs2 : ℕ) (z : ℤ) → rs1 < 32 → rs2 < 32 → IsSigned (2 ^ 11) z → IsSpelled (Store kind rs1 rs2 z) (word_of (Store kind rs1 rs2 z))
unfolding IsSpelled Spells word_of
store_spells kind rs1 rs2 z r s h =
    let bits : ℕ = complement (2 ^ 11) z in
    let w : ℕ = s_word bits rs2 rs1 (store_funct3 kind) 0b0100011 in
    let f : HasFields _ rs2 rs1 (store_funct3 kind) _ 0b0100011 w = s_format z rs2 rs1 (store_funct3 kind) 0b0100011 h s r (grind arith) (lit< tt) in
    (f.below, (f.opcode_is, f.funct3_is, sym f.rs1_is, sym f.rs2_is, signed_back (2 ^ 11) (s_bits w) z h (s_bits-s_word bits w rs2 rs1 (store_funct3 kind) 0b0100011 f)))

-- a shift amount is its own word
shift_amount : (z : ℤ) → pos 0 ≤ℤ z → z <ℤ pos 32 → (complement (2 ^ 11) z < 32) × (z ≡ pos (complement (2 ^ 11) z))
shift_amount (pos n) a b = (omega (arith, ints), refl)
shift_amount (negsuc n) a b = absurd (omega (arith, ints))

op_imm_spells : (kind : OpImmKind) (rd rs1 : ℕ) (z : ℤ) → rd < 32 → rs1 < 32 → (shift : Bool) → is_shift kind ≡ shift → MatchBool shift ((pos 0 ≤ℤ z) × (z <ℤ pos 32)) (IsSigned (2 ^ 11) z) → (w : ℕ) → w ≡ cond shift (word_with (shift_funct7 kind) (complement (2 ^ 11) z) rs1 (op_imm_funct3 kind) rd 0b0010011) (i_word (complement (2 ^ 11) z) rs1 (op_imm_funct3 kind) rd 0b0010011) → IsSpelled (OpImm kind rd rs1 z) w
unfolding IsSpelled Spells
op_imm_spells kind rd rs1 z r s true is h w e =
    let amount : (complement (2 ^ 11) z < 32) × (z ≡ pos (complement (2 ^ 11) z)) = shift_amount z h.0 h.1 in
    let f : HasFields (shift_funct7 kind) (complement (2 ^ 11) z) rs1 (op_imm_funct3 kind) rd 0b0010011 w =
    subst (HasFields (shift_funct7 kind) (complement (2 ^ 11) z) rs1 (op_imm_funct3 kind) rd 0b0010011) (sym e)
    (HasFields-word_with (shift_funct7 kind) (complement (2 ^ 11) z) rs1 (op_imm_funct3 kind) rd 0b0010011 (grind arith) amount.0 s (grind arith) r (lit< tt)) in (
      f.below,
      (
        f.opcode_is,
        f.funct3_is,
        ap (allows_funct7 kind) f.funct7_is ∙ allows_funct7-at kind,
        sym f.rd_is,
        sym f.rs1_is,
        amount.1 ∙ ap pos (sym f.rs2_is) ∙ ap (λ b. cond b (pos (rs2_of w)) (imm_i w)) (sym is),
      ),
    )
op_imm_spells kind rd rs1 z r s false is h w e =
    let f : HasFields _ _ rs1 (op_imm_funct3 kind) rd 0b0010011 w =
    subst (HasFields (complement (2 ^ 11) z / 2 ^ 5) (complement (2 ^ 11) z % 2 ^ 5) rs1 (op_imm_funct3 kind) rd 0b0010011) (sym e)
    (i_format z rs1 (op_imm_funct3 kind) rd 0b0010011 h s (grind arith) r (lit< tt)) in (
      f.below,
      (
        f.opcode_is,
        f.funct3_is,
        allows_funct7-other kind (funct7_of w) is,
        sym f.rd_is,
        sym f.rs1_is,
        i_imm z w rs1 (op_imm_funct3 kind) rd 0b0010011 h f ∙ ap (λ b. cond b (pos (rs2_of w)) (imm_i w)) (sym is),
      ),
    )

op_spells : (kind : OpKind) (rd rs1 rs2 : ℕ) → rd < 32 → rs1 < 32 → rs2 < 32 → IsSpelled (Op kind rd rs1 rs2) (word_of (Op kind rd rs1 rs2))
unfolding IsSpelled Spells word_of
op_spells kind rd rs1 rs2 r s t =
    let w : ℕ = word_with (op_funct7 kind) rs2 rs1 (op_funct3 kind) rd 0b0110011 in
    let f : HasFields (op_funct7 kind) rs2 rs1 (op_funct3 kind) rd 0b0110011 w =
    HasFields-word_with (op_funct7 kind) rs2 rs1 (op_funct3 kind) rd 0b0110011 (grind arith) t s (grind arith) r (lit< tt) in
    (f.below, (f.opcode_is, f.funct3_is, f.funct7_is, sym f.rd_is, sym f.rs1_is, sym f.rs2_is))

fence_parts : (w fm pred succ : ℕ) → fm < 16 → pred < 16 → succ < 16 → w < 2 ^ 32 → i_bits w ≡ fm * 2 ^ 8 + pred * 2 ^ 4 + succ → (fm ≡ field w 31 28) × (pred ≡ field w 27 24) × (succ ≡ field w 23 20)
fence_parts w fm pred succ a b c h e = (omega arith, omega arith, omega arith)

fence_spells : (fm pred succ rd rs1 : ℕ) → fm < 16 → pred < 16 → succ < 16 → rd < 32 → rs1 < 32 → IsSpelled (Fence fm pred succ rd rs1) (word_of (Fence fm pred succ rd rs1))
unfolding IsSpelled Spells word_of
fence_spells fm pred succ rd rs1 a b c r s =
    let bits : ℕ = fm * 2 ^ 8 + pred * 2 ^ 4 + succ in
    let below : bits < 2 ^ 12 = omega arith in
    let w : ℕ = i_word bits rs1 0 rd 0b0001111 in
    let f : HasFields (bits / 2 ^ 5) (bits % 2 ^ 5) rs1 0 rd 0b0001111 w =
    HasFields-word_with (bits / 2 ^ 5) (bits % 2 ^ 5) rs1 0 rd 0b0001111 (omega arith) (omega arith) s (lit< tt) r (lit< tt) in
    let parts = fence_parts w fm pred succ a b c f.below (i_bits-i_word bits w rs1 0 rd 0b0001111 f) in
    (f.below, (f.opcode_is, f.funct3_is, parts.0, parts.1, parts.2, sym f.rd_is, sym f.rs1_is))

atomic_format : (funct5 : ℕ) (aq rl : Bool) (rs2 rs1 rd : ℕ) → funct5 < 32 → rs2 < 32 → rs1 < 32 → rd < 32 → HasFields (ordered funct5 aq rl) rs2 rs1 2 rd 0b0101111 (word_with (ordered funct5 aq rl) rs2 rs1 2 rd 0b0101111)
atomic_format funct5 aq rl rs2 rs1 rd a b c d =
    HasFields-word_with (ordered funct5 aq rl) rs2 rs1 2 rd 0b0101111 (ordered-below funct5 aq rl a) b c (lit< tt) d (lit< tt)

lr_spells : (rd rs1 : ℕ) (aq rl : Bool) → rd < 32 → rs1 < 32 → IsSpelled (Lr rd rs1 aq rl) (word_of (Lr rd rs1 aq rl))
unfolding IsSpelled Spells word_of
lr_spells rd rs1 aq rl r s =
    let w : ℕ = word_with (ordered 2 aq rl) 0 rs1 2 rd 0b0101111 in
    let f : HasFields (ordered 2 aq rl) 0 rs1 2 rd 0b0101111 w = atomic_format 2 aq rl 0 rs1 rd (lit< tt) (lit< tt) s r in
    (f.below, (f.opcode_is, f.funct3_is, funct5-ordered w 2 aq rl f.below f.funct7_is, f.rs2_is, sym f.rd_is, sym f.rs1_is, aq-ordered w 2 aq rl f.funct7_is, rl-ordered w 2 aq rl f.funct7_is))

sc_spells : (rd rs1 rs2 : ℕ) (aq rl : Bool) → rd < 32 → rs1 < 32 → rs2 < 32 → IsSpelled (Sc rd rs1 rs2 aq rl) (word_of (Sc rd rs1 rs2 aq rl))
unfolding IsSpelled Spells word_of
sc_spells rd rs1 rs2 aq rl r s t =
    let w : ℕ = word_with (ordered 3 aq rl) rs2 rs1 2 rd 0b0101111 in
    let f : HasFields (ordered 3 aq rl) rs2 rs1 2 rd 0b0101111 w = atomic_format 3 aq rl rs2 rs1 rd (lit< tt) t s r in
    (f.below, (f.opcode_is, f.funct3_is, funct5-ordered w 3 aq rl f.below f.funct7_is, sym f.rd_is, sym f.rs1_is, sym f.rs2_is, aq-ordered w 3 aq rl f.funct7_is, rl-ordered w 3 aq rl f.funct7_is))

amo_spells : (kind : AmoKind) (rd rs1 rs2 : ℕ) (aq rl : Bool) → rd < 32 → rs1 < 32 → rs2 < 32 → IsSpelled (Amo kind rd rs1 rs2 aq rl) (word_of (Amo kind rd rs1 rs2 aq rl))
unfolding IsSpelled Spells word_of
amo_spells kind rd rs1 rs2 aq rl r s t =
    let funct5 : ℕ = amo_funct5 kind in
    let w : ℕ = word_with (ordered funct5 aq rl) rs2 rs1 2 rd 0b0101111 in
    let f : HasFields (ordered funct5 aq rl) rs2 rs1 2 rd 0b0101111 w = atomic_format funct5 aq rl rs2 rs1 rd (grind arith) t s r in
    (f.below, (f.opcode_is, f.funct3_is, funct5-ordered w funct5 aq rl f.below f.funct7_is, sym f.rd_is, sym f.rs1_is, sym f.rs2_is, aq-ordered w funct5 aq rl f.funct7_is, rl-ordered w funct5 aq rl f.funct7_is))

-- the word of an instruction that fits spells it
pub word_of-spells : (i : Instr) → Fits i → IsSpelled i (word_of i)
unfolding Fits IsSpelled Spells word_of
word_of-spells (Lui rd imm) h = lui_word imm rd 0b0110111 h.0 h.1 h.2 (lit< tt)
word_of-spells (Auipc rd imm) h = lui_word imm rd 0b0010111 h.0 h.1 h.2 (lit< tt)
word_of-spells (Jal rd offset) h = jal_spells rd offset h.0 h.1 h.2
word_of-spells (Jalr rd rs1 offset) h = jalr_spells rd rs1 offset h.0 h.1 h.2
word_of-spells (Branch kind rs1 rs2 offset) h = branch_spells kind rs1 rs2 offset h.0 h.1 h.2 h.3
word_of-spells (Load kind rd rs1 offset) h = load_spells kind rd rs1 offset h.0 h.1 h.2
word_of-spells (Store kind rs1 rs2 offset) h = store_spells kind rs1 rs2 offset h.0 h.1 h.2
word_of-spells (OpImm kind rd rs1 imm) h = op_imm_spells kind rd rs1 imm h.0 h.1 (is_shift kind) refl h.2 (op_imm_word kind rd rs1 imm) refl
word_of-spells (Op kind rd rs1 rs2) h = op_spells kind rd rs1 rs2 h.0 h.1 h.2
word_of-spells (Fence fm pred succ rd rs1) h = fence_spells fm pred succ rd rs1 h.0 h.1 h.2 h.3 h.4
word_of-spells Ecall h = (lit< tt, refl)
word_of-spells Ebreak h = (lit< tt, refl)
word_of-spells (Lr rd rs1 aq rl) h = lr_spells rd rs1 aq rl h.0 h.1
word_of-spells (Sc rd rs1 rs2 aq rl) h = sc_spells rd rs1 rs2 aq rl h.0 h.1 h.2
word_of-spells (Amo kind rd rs1 rs2 aq rl) h = amo_spells kind rd rs1 rs2 aq rl h.0 h.1 h.2

pub word_of-below : (i : Instr) → Fits i → word_of i < 2 ^ 32
unfolding IsSpelled
word_of-below i h = let s = word_of-spells i h in s.0

pub word_of-row : (i : Instr) → Fits i → Spells (word_of i) i
unfolding IsSpelled
word_of-row i h = let s = word_of-spells i h in s.1
