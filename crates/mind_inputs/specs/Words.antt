-- The names of the files of a run.
use Rattle.std.specs.Prelude.{ℕ, List}

pub record Paths : Type 0 where
  pub rack : List ℕ
  pub schedule : List ℕ
