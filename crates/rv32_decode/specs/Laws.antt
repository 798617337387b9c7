-- The laws of the table.
use Rattle.std.specs.Prelude.{◌≡◌, ℕ, ◌^◌, ◌<◌}
use Rattle.rv32_decode.specs.declared.instruction.Instr.{Instr}
use Rattle.rv32_decode.specs.Instr.{Spells, Fits}

-- a word spells at most one instruction
abbrev pub OneMeaning : Type 0
OneMeaning = (w : ℕ) (i j : Instr) → Spells w i → Spells w j → i ≡ j

-- an instruction is spelled by at most one word
abbrev pub OneWord : Type 0
OneWord = (w v : ℕ) (i : Instr) → w < 2 ^ 32 → v < 2 ^ 32 → Spells w i → Spells v i → w ≡ v

-- what is spelled fits, and what fits is spelled
abbrev pub SpelledFits : Type 0
SpelledFits = (w : ℕ) (i : Instr) → w < 2 ^ 32 → Spells w i → Fits i

abbrev pub EachFitSpelled : Type 0
EachFitSpelled = (i : Instr) → Fits i → (w : ℕ) × (w < 2 ^ 32) × Spells w i
