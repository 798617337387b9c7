-- The integer registers: a list of 32 words.
use Rattle.std.specs.Prelude.{ℕ, List, ◌==◌, if◌then◌else◌, replicate, slice_index, slice_set}

-- what register r reads as; x0 reads 0
unfoldable pub register : List ℕ → ℕ → ℕ
register regs r = if r == 0 then 0 else slice_index regs r

-- the registers after a write of register r; a write of x0 changes nothing
unfoldable pub with_register : List ℕ → ℕ → ℕ → List ℕ
with_register regs r value = if r == 0 then regs else slice_set regs r value

-- those of a hart that starts
unfoldable pub zero_registers : List ℕ
zero_registers = replicate 32 0
