-- The log of a run: its notes, and how many more it can take without asking for memory.
use Rattle.std.specs.Prelude.{ℕ, List}
use Rattle.mind_base.specs.declared.notes.Note.{Note}

pub record LogView : Type 0 where
  pub notes : List Note
  pub spare : ℕ
