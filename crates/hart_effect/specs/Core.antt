-- The core of a thread: its registers, where it stands, and the bytes that it put out.
use Rattle.std.specs.Prelude.{ℕ, List, [], ◌∷◌, ◌++◌}
use Rattle.hart_core.specs.Registers.{with_register, zero_registers}
use Rattle.mind_base.specs.declared.ends.End.{End}
use Rattle.mind_base.specs.declared.ends.End.TheVariants.{Running, Exit, Fault}
use Rattle.mind_base.specs.declared.ends.FaultKind.{FaultKind}

pub record CoreView : Type 0 where
  pub regs : List ℕ
  pub end : End
  pub output : List ℕ

-- a core that runs at a pc, and nothing in it but zeros
abbrev pub first_core : ℕ → CoreView
first_core pc = record { regs = zero_registers; end = Running pc; output = [] }

-- how a core goes on behind an instruction: register rd takes a value, and it stands at a pc
pub record ContinuedView : Type 0 where
  pub rd : ℕ
  pub value : ℕ
  pub pc : ℕ

abbrev pub core_continued : ContinuedView → CoreView → CoreView
core_continued next core = record core { regs = with_register core.regs next.rd next.value; end = Running next.pc }

-- a byte joins the output, and the core goes on at a pc
abbrev pub core_put_out : ℕ → ℕ → CoreView → CoreView
core_put_out byte pc core = record core { output = core.output ++ byte ∷ []; end = Running pc }

-- the core exits with a value
abbrev pub core_exited : ℕ → CoreView → CoreView
core_exited value core = record core { end = Exit value }

-- the core ends by a fault of its own
abbrev pub core_faulted : FaultKind → ℕ → ℕ → CoreView → CoreView
core_faulted kind value pc core = record core { end = Fault kind value pc }
