-- Words and their fields: a word is the sum of its placed fields, and a sum of fields has them.
use Rattle.std.proofs.Common.{◌≡◌, ℕ, ◌+◌, ◌*◌, ◌/◌, ◌%◌, ◌^◌, ◌<◌, Bool, true, false, ap, sym, ◌∙◌, arith, nat_eq, subst}
use Rattle.std.proofs.lemmas.Bool.Decides.{nat_tests}
use Rattle.std.specs.Int.{from_bool}
use Rattle.rv32_decode.specs.Fields.{field, opcode_of, rd_of, funct3_of, rs1_of, rs2_of, funct7_of, funct5_of, imm_u, i_bits, s_bits, b_bits, j_bits}
use Rattle.rv32_decode.specs.Instr.{word_with, u_word, j_word, ordered, bit_of}

-- ---- a word from its fields

from_bit : (n : ℕ) → n < 2 → from_bool (nat_eq n 1) ≡ n
from_bit n h = grind (arith, nat_tests)

pub atomic-fields : (w : ℕ) → w < 2 ^ 32 → ordered (funct5_of w) (bit_of w 26) (bit_of w 25) ≡ funct7_of w
atomic-fields w h = omega (arith, from_bit (field w 26 26) (omega arith), from_bit (field w 25 25) (omega arith))

-- ---- the fields of a word

-- a word's six fields
pub record HasFields (funct7 rs2 rs1 funct3 rd opcode w : ℕ) : Type 0 where
  pub below : w < 2 ^ 32
  pub funct7_is : funct7_of w ≡ funct7
  pub rs2_is : rs2_of w ≡ rs2
  pub rs1_is : rs1_of w ≡ rs1
  pub funct3_is : funct3_of w ≡ funct3
  pub rd_is : rd_of w ≡ rd
  pub opcode_is : opcode_of w ≡ opcode

pub HasFields-word_with : (funct7 rs2 rs1 funct3 rd opcode : ℕ) → funct7 < 128 → rs2 < 32 → rs1 < 32 → funct3 < 8 → rd < 32 → opcode < 128 → HasFields funct7 rs2 rs1 funct3 rd opcode (word_with funct7 rs2 rs1 funct3 rd opcode)
HasFields-word_with funct7 rs2 rs1 funct3 rd opcode a b c d e f =
    record {
      below = omega arith;
      funct7_is = omega arith;
      rs2_is = omega arith;
      rs1_is = omega arith;
      funct3_is = omega arith;
      rd_is = omega arith;
      opcode_is = omega arith;
    }

-- the other fields are parts of those six
pub field-i : (w : ℕ) → w < 2 ^ 32 → field w 31 20 ≡ funct7_of w * 2 ^ 5 + rs2_of w
field-i w h = omega arith

pub field-b : (w : ℕ) → w < 2 ^ 32 → b_bits w ≡ funct7_of w / 2 ^ 6 * 2 ^ 12 + rd_of w % 2 * 2 ^ 11 + funct7_of w % 2 ^ 6 * 2 ^ 5 + rd_of w / 2 * 2
field-b w h = omega arith

pub funct5-funct7 : (w : ℕ) → w < 2 ^ 32 → funct5_of w ≡ funct7_of w / 2 ^ 2
funct5-funct7 w h = omega arith

pub aq-funct7 : (w : ℕ) → field w 26 26 ≡ funct7_of w / 2 % 2
aq-funct7 w = omega arith

pub rl-funct7 : (w : ℕ) → field w 25 25 ≡ funct7_of w % 2
rl-funct7 w = omega arith

-- what a word of each format has beside the six fields
pub i_bits-i_word : (bits w rs1 funct3 rd opcode : ℕ) → HasFields (bits / 2 ^ 5) (bits % 2 ^ 5) rs1 funct3 rd opcode w → i_bits w ≡ bits
i_bits-i_word bits w rs1 funct3 rd opcode h = omega (arith, field-i w h.below, h.funct7_is, h.rs2_is)

pub s_bits-s_word : (bits w rs2 rs1 funct3 opcode : ℕ) → HasFields (bits / 2 ^ 5) rs2 rs1 funct3 (bits % 2 ^ 5) opcode w → s_bits w ≡ bits
s_bits-s_word bits w rs2 rs1 funct3 opcode h = omega (arith, h.funct7_is, h.rd_is)

-- the places of a branch's bits
b_bits-parts : (bits a b : ℕ) → bits < 2 ^ 13 → bits % 2 ≡ 0 → a ≡ bits / 2 ^ 12 * 2 ^ 6 + bits / 2 ^ 5 % 2 ^ 6 → b ≡ bits / 2 % 2 ^ 4 * 2 + bits / 2 ^ 11 % 2 → a / 2 ^ 6 * 2 ^ 12 + b % 2 * 2 ^ 11 + a % 2 ^ 6 * 2 ^ 5 + b / 2 * 2 ≡ bits
b_bits-parts bits a b h e p q = omega arith

pub b_bits-b_word : (bits w rs2 rs1 funct3 opcode : ℕ) → bits < 2 ^ 13 → bits % 2 ≡ 0 → HasFields (bits / 2 ^ 12 * 2 ^ 6 + bits / 2 ^ 5 % 2 ^ 6) rs2 rs1 funct3 (bits / 2 % 2 ^ 4 * 2 + bits / 2 ^ 11 % 2) opcode w → b_bits w ≡ bits
b_bits-b_word bits w rs2 rs1 funct3 opcode below even h =
    field-b w h.below ∙ b_bits-parts bits (funct7_of w) (rd_of w) below even h.funct7_is h.rd_is

pub record HasUpper (imm rd opcode w : ℕ) : Type 0 where
  pub below : w < 2 ^ 32
  pub imm_is : imm_u w ≡ imm
  pub rd_is : rd_of w ≡ rd
  pub opcode_is : opcode_of w ≡ opcode

pub HasUpper-u_word : (imm rd opcode : ℕ) → imm < 2 ^ 32 → imm % 2 ^ 12 ≡ 0 → rd < 32 → opcode < 128 → HasUpper imm rd opcode (u_word imm rd opcode)
HasUpper-u_word imm rd opcode a b c d =
    record { below = omega arith; imm_is = omega arith; rd_is = omega arith; opcode_is = omega arith }

pub record HasJump (bits rd opcode w : ℕ) : Type 0 where
  pub below : w < 2 ^ 32
  pub bits_is : j_bits w ≡ bits
  pub rd_is : rd_of w ≡ rd
  pub opcode_is : opcode_of w ≡ opcode

-- a jump's word from its four parts, the sign first
j_parts : (a b c d rd opcode : ℕ) → a < 2 → b < 2 ^ 10 → c < 2 → d < 2 ^ 8 → rd < 32 → opcode < 128 → HasJump (a * 2 ^ 20 + d * 2 ^ 12 + c * 2 ^ 11 + b * 2) rd opcode (a * 2 ^ 31 + b * 2 ^ 21 + c * 2 ^ 20 + d * 2 ^ 12 + rd * 2 ^ 7 + opcode)
j_parts a b c d rd opcode p q r s t u =
    record { below = omega arith; bits_is = omega arith; rd_is = omega arith; opcode_is = omega arith }

-- an even number of 21 bits by those parts
j_bits-parts : (bits : ℕ) → bits < 2 ^ 21 → bits % 2 ≡ 0 → bits / 2 ^ 20 * 2 ^ 20 + bits / 2 ^ 12 % 2 ^ 8 * 2 ^ 12 + bits / 2 ^ 11 % 2 * 2 ^ 11 + bits / 2 % 2 ^ 10 * 2 ≡ bits
j_bits-parts bits h e = omega arith

pub HasJump-j_word : (bits rd opcode : ℕ) → bits < 2 ^ 21 → bits % 2 ≡ 0 → rd < 32 → opcode < 128 → HasJump bits rd opcode (j_word bits rd opcode)
HasJump-j_word bits rd opcode h e r o =
    subst (λ b. HasJump b rd opcode (j_word bits rd opcode)) (j_bits-parts bits h e)
    (j_parts (bits / 2 ^ 20) (bits / 2 % 2 ^ 10) (bits / 2 ^ 11 % 2) (bits / 2 ^ 12 % 2 ^ 8) rd opcode (omega arith) (omega arith) (omega arith) (omega arith) r o)

pub ordered-below : (funct5 : ℕ) (aq rl : Bool) → funct5 < 32 → ordered funct5 aq rl < 128
ordered-below funct5 false false h = omega arith
ordered-below funct5 false true h = omega arith
ordered-below funct5 true false h = omega arith
ordered-below funct5 true true h = omega arith

-- the atomic fields of a word with such a funct7
pub funct5-ordered : (w funct5 : ℕ) (aq rl : Bool) → w < 2 ^ 32 → funct7_of w ≡ ordered funct5 aq rl → funct5_of w ≡ funct5
funct5-ordered w funct5 false false h e = omega (arith, funct5-funct7 w h)
funct5-ordered w funct5 false true h e = omega (arith, funct5-funct7 w h)
funct5-ordered w funct5 true false h e = omega (arith, funct5-funct7 w h)
funct5-ordered w funct5 true true h e = omega (arith, funct5-funct7 w h)

one_bit : (n m : ℕ) → n ≡ m → nat_eq n 1 ≡ nat_eq m 1
one_bit n m e = ap (λ k. nat_eq k 1) e

pub aq-ordered : (w funct5 : ℕ) (aq rl : Bool) → funct7_of w ≡ ordered funct5 aq rl → aq ≡ bit_of w 26
aq-ordered w funct5 false false e = sym (one_bit (field w 26 26) 0 (omega (arith, aq-funct7 w)))
aq-ordered w funct5 false true e = sym (one_bit (field w 26 26) 0 (omega (arith, aq-funct7 w)))
aq-ordered w funct5 true false e = sym (one_bit (field w 26 26) 1 (omega (arith, aq-funct7 w)))
aq-ordered w funct5 true true e = sym (one_bit (field w 26 26) 1 (omega (arith, aq-funct7 w)))

pub rl-ordered : (w funct5 : ℕ) (aq rl : Bool) → funct7_of w ≡ ordered funct5 aq rl → rl ≡ bit_of w 25
rl-ordered w funct5 false false e = sym (one_bit (field w 25 25) 0 (omega (arith, rl-funct7 w)))
rl-ordered w funct5 false true e = sym (one_bit (field w 25 25) 1 (omega (arith, rl-funct7 w)))
rl-ordered w funct5 true false e = sym (one_bit (field w 25 25) 0 (omega (arith, rl-funct7 w)))
rl-ordered w funct5 true true e = sym (one_bit (field w 25 25) 1 (omega (arith, rl-funct7 w)))
