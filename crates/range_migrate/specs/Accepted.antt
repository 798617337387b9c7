-- Where pages lie, which runs are in use and how a move ends, by the list of the moves that were accepted. The
-- latest stands first.
use Rattle.std.specs.Prelude.{◌≡◌, ℕ, ◌+◌, ◌<◌, ◌^◌, Bool, not, ◌&&◌, ◌==◌, nat_lt, nat_le, List, [], ◌∷◌, ◌++◌, length, filter, Option, Some, None, unwrap_or, Result, if◌then◌else◌}
use Rattle.std.specs.List.{list_any}
use Rattle.mind_base.specs.Page.{PageView}
use Rattle.mind_base.specs.Range.{RangeView, in_range}
use Rattle.mind_base.specs.Home.{home_of}
use Rattle.mind_base.specs.declared.commands.Outcome.{Outcome}
use Rattle.mind_base.specs.declared.plans.MemoryPlan.{MemoryPlan}
use Rattle.range_translate.specs.Block.{block_lies_inside, encloses}
use Rattle.range_migrate.specs.Run.{spare_pages}
use Rattle.range_migrate.specs.Plan.{way_of, wanted_place, EndsBy}
use Rattle.range_migrate.specs.declared.moves.Move.{Move}

-- a page lies where the latest move that has it put it, and at its home where none has it
abbrev pub place_after : List MemoryPlan → List Move → PageView → Option (ℕ × ℕ)
place_after homes [] page = home_of homes page
place_after homes (move ∷ earlier) page =
    if in_range move.range page then wanted_place homes move page move.run else place_after homes earlier page

-- a move alone, if it has a run
abbrev pub move_alone : Option ℕ → Move → List Move
move_alone None move = []
move_alone (Some first) move = move ∷ []

-- the moves in force: those with a run whose block is inside that of no later move
abbrev pub moves_in_force : List Move → List Move
moves_in_force [] = []
moves_in_force (move ∷ earlier) = move_alone move.run move ++ filter (λ e. not (block_lies_inside e.range move.range)) (moves_in_force earlier)

-- the first page of the run of a move that has one
abbrev pub first_of_run : Move → ℕ
first_of_run move = unwrap_or move.run 0

-- whether the run of the move has this spare page of this memory blade
abbrev pub has_spare : ℕ → ℕ → Move → Bool
has_spare memory page move = move.memory == memory && nat_le (first_of_run move) page && nat_lt page (first_of_run move + 2 ^ move.range.log)

-- a spare page is free where no move in force has it in its run
abbrev pub IsFreeAfter : List MemoryPlan → List Move → ℕ → ℕ → Type 0
IsFreeAfter homes moves memory page = (page < spare_pages homes memory) × (length (filter (has_spare memory page) (moves_in_force moves)) ≡ 0)

-- the moves in force that keep their slots when the block moves
abbrev pub others_in_force : RangeView → List Move → List Move
others_in_force range moves = filter (λ e. not (block_lies_inside e.range range)) (moves_in_force moves)

-- how a move ends after these, where there are so many slots
abbrev pub EndsAfter : List MemoryPlan → ℕ → List Move → RangeView → ℕ → Result Move Outcome → Type 0
EndsAfter homes slots moves range memory result =
    EndsBy (way_of range memory (place_after homes moves) (home_of homes) (list_any (λ e. encloses e.range range) (moves_in_force moves)))
    range memory (length (others_in_force range moves)) slots (IsFreeAfter homes moves) result
