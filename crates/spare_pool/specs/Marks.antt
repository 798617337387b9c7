-- Marks at places, and runs of places that are all marked.
use Rattle.std.specs.Prelude.{◌≡◌, ℕ, ◌+◌, ◌%◌, ◌<◌, ◌≤◌, Bool, true, List, [], ◌∷◌, length, slice_get, Some, if◌then◌else◌}

-- the places of the marks that are set, where the first mark stands at place n
abbrev pub marked_from : ℕ → List Bool → List ℕ
marked_from n [] = []
marked_from n (mark ∷ marks) = if mark then n ∷ marked_from (n + 1) marks else marked_from (n + 1) marks

-- all marks from first on, size of them, are set
abbrev pub AllMarked : List Bool → ℕ → ℕ → Type 0
AllMarked marks first size = (i : ℕ) → first ≤ i → i < first + size → slice_get marks i ≡ Some true

-- a run of marks that are set, at a multiple of its size
pub record IsMarkedRun (marks : List Bool) (size first : ℕ) : Type 0 where
  pub aligned : first % size ≡ 0
  pub inside : first + size ≤ length marks
  pub marked : AllMarked marks first size
