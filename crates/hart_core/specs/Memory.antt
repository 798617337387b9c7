-- What a load and an atomic memory operation make of the word in memory.
use Rattle.std.specs.Prelude.{◌≡◌, ◌⊎◌, ℕ, ◌%◌, ◌^◌, int_lt, min, max, if◌then◌else◌, bit_and, bit_or, bit_xor}
use Rattle.rv32_decode.specs.declared.instruction.LoadKind.{LoadKind}
use Rattle.rv32_decode.specs.declared.instruction.LoadKind.TheVariants.{Lb, Lh, Lw, Lbu, Lhu}
use Rattle.rv32_decode.specs.declared.instruction.StoreKind.{StoreKind}
use Rattle.rv32_decode.specs.declared.instruction.StoreKind.TheVariants.{Sb, Sh, Sw}
use Rattle.rv32_decode.specs.declared.instruction.AmoKind.{AmoKind}
use Rattle.rv32_decode.specs.declared.instruction.AmoKind.TheVariants.{Swap, Add, Xor, And, Or, Min, Max, Minu, Maxu}
use Rattle.rv32_decode.specs.Fields.{sign_extended}
use Rattle.hart_core.specs.Values.{word_sum, signed, word_from}

-- how many bytes a load reads, and a store writes
unfoldable pub load_size : LoadKind → ℕ
load_size Lb = 1
load_size Lh = 2
load_size Lw = 4
load_size Lbu = 1
load_size Lhu = 2

abbrev pub store_size : StoreKind → ℕ
store_size Sb = 1
store_size Sh = 2
store_size Sw = 4

abbrev pub IsAccessSize : ℕ → Type 0
IsAccessSize size = (size ≡ 1) ⊎ ((size ≡ 2) ⊎ (size ≡ 4))

-- the word that an atomic memory operation puts in place of the old one
unfoldable pub combined : AmoKind → ℕ → ℕ → ℕ
combined Swap old operand = operand
combined Add old operand = word_sum old operand
combined Xor old operand = bit_xor old operand
combined And old operand = bit_and old operand
combined Or old operand = bit_or old operand
combined Min old operand = if int_lt (signed old) (signed operand) then old else operand
combined Max old operand = if int_lt (signed operand) (signed old) then old else operand
combined Minu old operand = min old operand
combined Maxu old operand = max old operand

-- the low bytes of what was read, extended to a word by the sign or by zeros
unfoldable pub extended : LoadKind → ℕ → ℕ
extended Lb raw = word_from (sign_extended (2 ^ 7) (raw % 2 ^ 8))
extended Lh raw = word_from (sign_extended (2 ^ 15) (raw % 2 ^ 16))
extended Lw raw = raw
extended Lbu raw = raw % 2 ^ 8
extended Lhu raw = raw % 2 ^ 16
