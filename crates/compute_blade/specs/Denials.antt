-- An access that the switch denies ends its hart by a fault.
use Rattle.std.specs.Prelude.{ℕ, Option, Some, None}
use Rattle.hart_core.specs.declared.outcome.Act.{Act}
use Rattle.hart_core.specs.declared.outcome.Act.TheVariants as act
use Rattle.hart_core.specs.declared.outcome.LockedKind.{LockedKind}
use Rattle.hart_core.specs.declared.outcome.LockedKind.TheVariants as locked
use Rattle.hart_effect.specs.declared.finds.Found.{Found}
use Rattle.hart_effect.specs.declared.finds.Found.TheVariants.{Outside, Unknown, Asks}
use Rattle.mind_base.specs.declared.ends.End.TheVariants.{Fault}
use Rattle.mind_base.specs.declared.ends.FaultKind.{FaultKind}
use Rattle.mind_base.specs.declared.ends.FaultKind.TheVariants as fault
use Rattle.mind_base.specs.declared.notes.Note.TheVariants as note
use Rattle.compute_blade.specs.Blade.{HartView, BladeView, BladeEffect, with_hart, only, noting}
use Rattle.compute_blade.specs.declared.kept.Denial.{Denial}

-- LR only reads; SC and AMO store
abbrev pub locked_fault : LockedKind → FaultKind
locked_fault locked.Lr = fault.Load
locked_fault locked.Sc = fault.Store
locked_fault (locked.Amo kind) = fault.Store

-- the fault of an access that is denied, with the address of the access
abbrev pub denial_of : Act → Option Denial
denial_of (act.Load kind rd address) = Some (record { kind = fault.Load; address = address })
denial_of (act.Store size address value) = Some (record { kind = fault.Store; address = address })
denial_of (act.Locked kind rd address operand) = Some (record { kind = locked_fault kind; address = address })
denial_of asked = None

abbrev pub denial_in : Found → Option Denial
denial_in Outside = None
denial_in (Unknown word) = None
denial_in (Asks asked) = denial_of asked

-- the fault ends the hart
abbrev pub faulting : FaultKind → ℕ → ℕ → HartView → HartView
faulting kind value pc hart = record hart { end = Fault kind value pc }

-- that is the instruction's step; nothing is done where it makes no access
abbrev pub refused_by : Option Denial → ℕ → ℕ → BladeView → HartView → BladeEffect
refused_by None h pc blade hart = only blade
refused_by (Some denial) h pc blade hart = noting (note.Exec h) (with_hart h (faulting denial.kind denial.address pc hart) blade)
