-- The fields of a word and its immediates, by the places that the RISC-V manual gives them.
use Rattle.std.specs.Prelude.{ℕ, ◌+◌, ◌-◌, ◌*◌, ◌/◌, ◌%◌, ◌^◌, ℤ, pos, negsuc, ◌-ℤ◌, nat_lt, if◌then◌else◌}

-- bits high down to low of a word, as a number
abbrev pub field : ℕ → ℕ → ℕ → ℕ
field word high low = word / 2 ^ low % 2 ^ (high + 1 - low)

abbrev pub opcode_of : ℕ → ℕ
opcode_of word = field word 6 0

abbrev pub rd_of : ℕ → ℕ
rd_of word = field word 11 7

abbrev pub funct3_of : ℕ → ℕ
funct3_of word = field word 14 12

abbrev pub rs1_of : ℕ → ℕ
rs1_of word = field word 19 15

abbrev pub rs2_of : ℕ → ℕ
rs2_of word = field word 24 20

abbrev pub funct7_of : ℕ → ℕ
funct7_of word = field word 31 25

-- of the atomic rows, whose aq and rl are the two bits below it
abbrev pub funct5_of : ℕ → ℕ
funct5_of word = field word 31 27

-- the number that n spells in two's complement, where the sign bit is worth `half`
abbrev pub sign_extended : ℕ → ℕ → ℤ
sign_extended half n = if nat_lt n half then pos n else pos n -ℤ pos (2 * half)

-- the bits of an immediate, put together by its format
abbrev pub i_bits : ℕ → ℕ
i_bits word = field word 31 20

abbrev pub s_bits : ℕ → ℕ
s_bits word = field word 31 25 * 2 ^ 5 + field word 11 7

abbrev pub b_bits : ℕ → ℕ
b_bits word = field word 31 31 * 2 ^ 12 + field word 7 7 * 2 ^ 11 + field word 30 25 * 2 ^ 5 + field word 11 8 * 2

abbrev pub j_bits : ℕ → ℕ
j_bits word = field word 31 31 * 2 ^ 20 + field word 19 12 * 2 ^ 12 + field word 20 20 * 2 ^ 11 + field word 30 21 * 2

-- the immediates; each but U's is extended from bit 31 of the word
abbrev pub imm_i : ℕ → ℤ
imm_i word = sign_extended (2 ^ 11) (i_bits word)

abbrev pub imm_s : ℕ → ℤ
imm_s word = sign_extended (2 ^ 11) (s_bits word)

abbrev pub imm_b : ℕ → ℤ
imm_b word = sign_extended (2 ^ 12) (b_bits word)

abbrev pub imm_u : ℕ → ℕ
imm_u word = field word 31 12 * 2 ^ 12

abbrev pub imm_j : ℕ → ℤ
imm_j word = sign_extended (2 ^ 20) (j_bits word)

-- the number below 2 * half that spells z in two's complement
abbrev pub complement : ℕ → ℤ → ℕ
complement half (pos n) = n
complement half (negsuc n) = 2 * half - 1 - n
