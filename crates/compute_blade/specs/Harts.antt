-- What a hart's code does with the hart and with the cache, said of the two alone.
use Rattle.std.specs.Prelude.{◌≡◌, ℕ, ◌<◌, false, List, [], Option, Some, None, IsSome}
use Rattle.hart_core.specs.Registers.{zero_registers}
use Rattle.hart_effect.specs.Deed.{Deed, AsksWellFormed}
use Rattle.hart_effect.specs.declared.finds.Found.{Found}
use Rattle.mind_base.specs.Page.{PageView}
use Rattle.mind_base.specs.Pending.{PendingView}
use Rattle.mind_base.specs.declared.ends.End.TheVariants.{Running}
use Rattle.page_cache.specs.PageCache.{CacheView}
use Rattle.page_cache.specs.declared.frames.Frame.{Frame}
use Rattle.compute_blade.specs.Blade.{HartView, BladeView, hart_of}
use Rattle.compute_blade.specs.Denials.{faulting}
use Rattle.compute_blade.specs.Messages.{awake}
use Rattle.compute_blade.specs.Steps.{hart_after, frames_after_deed, frames_with, next_tag, one_more_store, waiting}
use Rattle.compute_blade.specs.declared.kept.HartChange.{HartChange}
use Rattle.compute_blade.specs.declared.kept.HartChange.TheVariants.{Waits, Wakes, Faults}
use Rattle.compute_blade.specs.declared.kept.Doing.{Doing}
use Rattle.compute_blade.specs.declared.kept.Mover.{Mover}

-- there are at most 64 harts in a rack, and 16 domains
abbrev pub IsMover : Mover → Type 0
IsMover mover = (mover.hart < 64) × (mover.plan.domain < 16)

-- and the mover is one of the blade's harts
abbrev pub IsOwnMover : BladeView → Mover → Type 0
IsOwnMover blade mover = IsMover mover × IsSome (hart_of blade mover.hart)

-- a mover, and what it found has its fields in their ranges
abbrev pub IsDoing : Doing → Type 0
IsDoing doing = IsMover doing.mover × AsksWellFormed doing.found

-- a hart that starts at a pc, with a queue of so many places, and nothing in it but zeros
abbrev pub first_hart : ℕ → ℕ → HartView
first_hart pc places = record {
  regs = zero_registers;
  end = Running pc;
  output = [];
  queue = record { stores = []; capacity = places };
  reserved = None;
  stores = 0;
  stepping = false;
  draining = false;
}

-- a hart whose step or drain waits, or waits no longer, or that ends by a fault
abbrev pub hart_changed : HartChange → HartView → HartView
hart_changed (Waits waits) = waiting waits
hart_changed (Wakes waits) = awake waits
hart_changed (Faults denial pc) = faulting denial.kind denial.address pc

-- the cache with these entries
abbrev pub holding : CacheView → List (PageView × Frame) → CacheView
holding cache entries = record cache { entries = entries }

-- the hart and the cache are as the deed of hart h leaves them
abbrev pub Does : ℕ → ℕ → Found → HartView → CacheView → HartView → CacheView → Deed → Type 0
Does h domain found hart cache hart' cache' deed =
    (hart' ≡ hart_after domain found cache.entries hart deed)
    × (cache' ≡ holding cache (frames_after_deed h domain found cache.entries hart deed))

-- the deed is that of the hart that is to take a step, for what it found
abbrev pub DoesAs : Doing → HartView → CacheView → HartView → CacheView → Deed → Type 0
DoesAs doing = Does doing.mover.hart doing.mover.plan.domain doing.found

-- there is a deed, and they are as it leaves them
abbrev pub DoesSome : ℕ → ℕ → Found → HartView → CacheView → HartView → CacheView → Option Deed → Type 0
DoesSome h domain found hart cache hart' cache' None = ⊥
DoesSome h domain found hart cache hart' cache' (Some deed) = Does h domain found hart cache hart' cache' deed

-- a store of hart h took effect in a frame, and is counted
abbrev pub TakesEffect : ℕ → ℕ → PendingView → HartView → CacheView → HartView → CacheView → Type 0
TakesEffect h domain store hart cache hart' cache' =
    (hart' ≡ one_more_store hart)
    × (cache' ≡ holding cache (frames_with domain store (next_tag h hart.stores) cache.entries))
