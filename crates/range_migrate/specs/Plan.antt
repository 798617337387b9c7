-- How a move ends, and which pages it copies.
use Rattle.std.specs.Prelude.{◌≡◌, ℕ, ◌+◌, ◌-◌, ◌%◌, ◌^◌, ◌<◌, ◌≤◌, ◌↔◌, Bool, false, not, ◌&&◌, ◌==◌, List, length, filter, Option, Some, None, is_some, Result, Ok, Err, if◌then◌else◌}
use Rattle.std.specs.List.{list_any}
use Rattle.mind_base.specs.Page.{PageView}
use Rattle.mind_base.specs.Range.{RangeView}
use Rattle.mind_base.specs.Home.{home_of}
use Rattle.mind_base.specs.Cover.{all_below}
use Rattle.mind_base.specs.declared.commands.Outcome.{Outcome}
use Rattle.mind_base.specs.declared.commands.Outcome.TheVariants.{Fine, Unplaced, Overlap, Unmapped, Slots, Same, Room}
use Rattle.mind_base.specs.declared.plans.MemoryPlan.{MemoryPlan}
use Rattle.range_translate.specs.Block.{block_lies_inside, encloses}
use Rattle.range_translate.specs.Place.{physical_place}
use Rattle.range_translate.specs.Table.{TableView}
use Rattle.range_translate.specs.declared.outliers.Outlier.{Outlier}
use Rattle.spare_pool.specs.Pool.{PoolView, InRun}
use Rattle.range_migrate.specs.Run.{IsFreeAt, home_pages}
use Rattle.range_migrate.specs.declared.moves.Move.{Move}

-- a page of a block, counted from its first one
abbrev pub block_page : RangeView → ℕ → PageView
block_page range n = record { domain = range.domain; number = range.base + n }

-- whether each page of the block passes a test
abbrev pub each_page : RangeView → (PageView → Bool) → Bool
each_page range test = all_below (λ n. test (block_page range n)) (2 ^ range.log)

-- whether a place is one in this memory blade
abbrev pub is_at : ℕ → Option (ℕ × ℕ) → Bool
is_at memory None = false
is_at memory (Some place) = place.0 == memory

-- What places and homes decide: a refusal, a move home, or that a run is wanted.
pub data Way : Type 0 where
  Refused : (outcome : Outcome) → Way
  Homeward : Way
  ByRun : Way

-- the first that fits, where pages have these places and homes, and `enclosed` says whether a larger
-- moved block has the whole block
abbrev pub way_of : RangeView → ℕ → (PageView → Option (ℕ × ℕ)) → (PageView → Option (ℕ × ℕ)) → Bool → Way
way_of range memory place home enclosed =
    if not (each_page range (λ page. is_some (home page))) then Refused Unplaced
    else if each_page range (λ page. is_at memory (place page)) then Refused Same
    else if each_page range (λ page. is_at memory (home page)) && not enclosed then Homeward
    else ByRun

-- a run of 2 ^ log pages of the memory blade, at a multiple of its size, all of them free
pub record IsFreeRunAt (free : ℕ → ℕ → Type 0) (memory log first : ℕ) : Type 0 where
  pub aligned : first % 2 ^ log ≡ 0
  pub each : (page : ℕ) → InRun log first page → free memory page

abbrev pub HasFreeRun : (ℕ → ℕ → Type 0) → ℕ → ℕ → Type 0
HasFreeRun free memory log = (first : ℕ) × IsFreeRunAt free memory log first

-- no such run starts lower
pub record IsLowestRunAt (free : ℕ → ℕ → Type 0) (memory log first : ℕ) : Type 0 where
  pub run : IsFreeRunAt free memory log first
  pub lowest : (other : ℕ) → IsFreeRunAt free memory log other → first ≤ other

-- the outliers that are not inside the block
abbrev pub outside : RangeView → List Outlier → List Outlier
outside range outliers = filter (λ o. not (block_lies_inside o.range range)) outliers

-- the move that begins: no page was copied yet
abbrev pub new_move : RangeView → ℕ → Option ℕ → Move
new_move range memory run = record { range = range; memory = memory; run = run; next = 0 }

-- how a move ends that wants a run: there is none; or there is one, but no slot, where so many others keep
-- theirs; or it takes the lowest
abbrev pub EndsByRun : RangeView → ℕ → ℕ → ℕ → (ℕ → ℕ → Type 0) → Result Move Outcome → Type 0
EndsByRun range memory others slots free (Ok move) =
    (others + 1 ≤ slots) × ((first : ℕ) × IsLowestRunAt free memory range.log first × (move ≡ new_move range memory (Some first)))
EndsByRun range memory others slots free (Err Room) = HasFreeRun free memory range.log → ⊥
EndsByRun range memory others slots free (Err Slots) = (slots < others + 1) × HasFreeRun free memory range.log
EndsByRun range memory others slots free (Err Fine) = ⊥
EndsByRun range memory others slots free (Err Unplaced) = ⊥
EndsByRun range memory others slots free (Err Overlap) = ⊥
EndsByRun range memory others slots free (Err Unmapped) = ⊥
EndsByRun range memory others slots free (Err Same) = ⊥

abbrev pub EndsBy : Way → RangeView → ℕ → ℕ → ℕ → (ℕ → ℕ → Type 0) → Result Move Outcome → Type 0
EndsBy (Refused outcome) range memory others slots free result = result ≡ Err outcome
EndsBy Homeward range memory others slots free result = result ≡ Ok (new_move range memory None)
EndsBy ByRun range memory others slots free result = EndsByRun range memory others slots free result

-- How the move of a block to a memory blade ends, by what a table and pools say. The blocks inside the
-- moved one give up their slots.
abbrev pub Plans : TableView → List PoolView → RangeView → ℕ → Result Move Outcome → Type 0
Plans table pools range memory result =
    EndsBy (way_of range memory (physical_place table.homes table.outliers) (home_of table.homes) (list_any (λ o. encloses o.range range) table.outliers))
    range memory (length (outside range table.outliers)) table.slots (IsFreeAt pools) result

-- the run has this page
abbrev pub TakesIn : Option ℕ → ℕ → ℕ → Type 0
TakesIn None log page = ⊥
TakesIn (Some first) log page = InRun log first page

-- the move's run, if it has one, has this spare page of this memory blade
abbrev pub Uses : Move → ℕ → ℕ → Type 0
Uses move memory page = (move.memory ≡ memory) × TakesIn move.run move.range.log page

-- the pools when a plan was answered so: the run that it gives, if any, is taken; nothing changes where it is refused
abbrev pub Takes : List PoolView → Result Move Outcome → List PoolView → Type 0
Takes old (Ok move) new = (memory page : ℕ) → IsFreeAt new memory page ↔ (IsFreeAt old memory page × (Uses move memory page → ⊥))
Takes old (Err outcome) new = new ≡ old

-- where a page of the block is to lie: in the run, or at home
abbrev pub wanted_place : List MemoryPlan → Move → PageView → Option ℕ → Option (ℕ × ℕ)
wanted_place homes move page None = home_of homes page
wanted_place homes move page (Some first) = Some (move.memory, home_pages homes move.memory + first + (page.number - move.range.base))
