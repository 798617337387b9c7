-- What the register instructions compute. A word is a number below 2 ^ 32.
use Rattle.std.specs.Prelude.{ℕ, ◌+◌, ◌-◌, ◌*◌, ◌/◌, ◌%◌, ◌^◌, ℤ, Bool, not, ◌==◌, ◌&&◌, nat_lt, nat_le, int_lt, int_le, bit_and, bit_or, bit_xor}
use Rattle.std.specs.Int.{w32, cast_signed, cast_unsigned, from_bool, int_shr}
use Rattle.rv32_decode.specs.declared.instruction.BranchKind.{BranchKind}
use Rattle.rv32_decode.specs.declared.instruction.BranchKind.TheVariants.{Beq, Bne, Blt, Bge, Bltu, Bgeu}
use Rattle.rv32_decode.specs.declared.instruction.OpKind.{OpKind}
use Rattle.rv32_decode.specs.declared.instruction.OpKind.TheVariants.{Add, Sll, Slt, Sltu, Xor, Srl, Or, And, Sub, Sra}
use Rattle.rv32_decode.specs.declared.instruction.OpImmKind.{OpImmKind}
use Rattle.rv32_decode.specs.declared.instruction.OpImmKind.TheVariants.{Addi, Slti, Sltiu, Xori, Ori, Andi, Slli, Srli, Srai}

-- sums wrap at 32 bits
abbrev pub word_sum : ℕ → ℕ → ℕ
word_sum a b = (a + b) % 2 ^ 32

-- the number that a word spells in two's complement, and the word that spells a number
abbrev pub signed : ℕ → ℤ
signed a = cast_signed w32 a

abbrev pub word_from : ℤ → ℕ
word_from z = cast_unsigned w32 z

-- what an operation makes of two words; shifts are by the low five bits of the second
abbrev pub op_value : OpKind → ℕ → ℕ → ℕ
op_value Add a b = word_sum a b
op_value Sll a b = a * 2 ^ (b % 32) % 2 ^ 32
op_value Slt a b = from_bool (int_lt (signed a) (signed b))
op_value Sltu a b = from_bool (nat_lt a b)
op_value Xor a b = bit_xor a b
op_value Srl a b = a / 2 ^ (b % 32)
op_value Or a b = bit_or a b
op_value And a b = bit_and a b
op_value Sub a b = (a + 2 ^ 32 - b) % 2 ^ 32
op_value Sra a b = word_from (int_shr (signed a) (b % 32))

-- an operation with an immediate is one of two registers, with the immediate's word as the second
abbrev pub register_kind : OpImmKind → OpKind
register_kind Addi = Add
register_kind Slti = Slt
register_kind Sltiu = Sltu
register_kind Xori = Xor
register_kind Ori = Or
register_kind Andi = And
register_kind Slli = Sll
register_kind Srli = Srl
register_kind Srai = Sra

-- whether a branch is taken
abbrev pub is_taken : BranchKind → ℕ → ℕ → Bool
is_taken Beq a b = a == b
is_taken Bne a b = not (a == b)
is_taken Blt a b = int_lt (signed a) (signed b)
is_taken Bge a b = int_le (signed b) (signed a)
is_taken Bltu a b = nat_lt a b
is_taken Bgeu a b = nat_le b a

-- the bits I, O, R and W of pred and succ are worth 8, 4, 2 and 1
abbrev pub has_writes : ℕ → Bool
has_writes set = set % 2 == 1

abbrev pub has_reads : ℕ → Bool
has_reads set = set / 2 % 2 == 1

-- FENCE.TSO; in every other fence fm says nothing
abbrev pub is_fence_tso : ℕ → ℕ → ℕ → Bool
is_fence_tso fm pred succ = fm == 0b1000 && pred == 0b0011 && succ == 0b0011

-- an ordering fence keeps loads after it behind stores before it
abbrev pub is_ordering : ℕ → ℕ → ℕ → Bool
is_ordering fm pred succ = not (is_fence_tso fm pred succ) && has_writes pred && has_reads succ
