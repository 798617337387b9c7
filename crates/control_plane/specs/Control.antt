-- The commands of a rack, of which one is under way at a time.
use Rattle.std.specs.Prelude.{◌≡◌, ℕ, ◌+◌, ◌<◌, ◌^◌, Bool, true, false, ◌==◌, List, [], ◌∷◌, ◌++◌, length, Option, Some, None, IsSome, bit_xor, if◌then◌else◌}
use Rattle.std.specs.Int.{bit_at}
use Rattle.mind_base.specs.declared.commands.Command.{Command}
use Rattle.control_plane.specs.declared.phases.Asked.{Asked}
use Rattle.control_plane.specs.declared.phases.Phase.{Phase}
use Rattle.control_plane.specs.declared.phases.Phase.TheVariants.{Free, Closing, Applying}

-- all blades of the rack, a bit for each; how far the command under way has come, and which it is; those that
-- wait, the oldest first; how many were asked; and the number of the last one that began
pub record ControlView : Type 0 where
  pub blades : ℕ
  pub phase : Phase
  pub current : Option Command
  pub waiting : List Asked
  pub asked : ℕ
  pub last : ℕ

-- a control with these parts
abbrev pub control_of : ℕ → Phase → Option Command → List Asked → ℕ → ℕ → ControlView
control_of blades phase current waiting asked last = record { blades = blades; phase = phase; current = current; waiting = waiting; asked = asked; last = last }

-- a command is under way except in the phase Free, with the last number; while its pages are being closed,
-- some of the rack's blades are waited for
abbrev pub FitsPhase : ControlView → Phase → Type 0
FitsPhase c Free = c.current ≡ None
FitsPhase c (Closing index number waiting) =
    IsSome c.current × (number ≡ c.last) × (0 < waiting) × ((blade : ℕ) → bit_at waiting blade ≡ 1 → bit_at c.blades blade ≡ 1)
FitsPhase c (Applying index number) = IsSome c.current × (number ≡ c.last)

-- each command that was asked has begun or waits
pub record IsControl (c : ControlView) : Type 0 where
  pub blades : 0 < c.blades
  pub few : c.blades < 2 ^ 8
  pub phase : FitsPhase c c.phase
  pub count : c.last + length c.waiting ≡ c.asked
  pub limit : c.asked < 2 ^ 32

-- nothing was asked yet
abbrev pub no_commands : ℕ → ControlView
no_commands blades = record { blades = blades; phase = Free; current = None; waiting = []; asked = 0; last = 0 }

abbrev pub after_ask : ControlView → Asked → ControlView
after_ask c command = record c { waiting = c.waiting ++ command ∷ []; asked = c.asked + 1 }

abbrev pub is_free : Phase → Bool
is_free Free = true
is_free (Closing index number waiting) = false
is_free (Applying index number) = false

abbrev pub is_some_waiting : List Asked → Bool
is_some_waiting [] = false
is_some_waiting (a ∷ rest) = true

-- a command begins where none is under way and one waits
abbrev pub can_begin : ControlView → Bool
can_begin c = if is_free c.phase then is_some_waiting c.waiting else false

-- the oldest one that waits begins, where there is one: with the next number, and every blade is waited for
abbrev pub begun_from : List Asked → ControlView → ControlView
begun_from [] c = c
begun_from (a ∷ rest) c = record c {
  phase = Closing a.index (c.last + 1) c.blades;
  current = Some a.command;
  waiting = rest;
  last = c.last + 1;
}

abbrev pub after_begin : ControlView → ControlView
after_begin c = if is_free c.phase then begun_from c.waiting c else c

-- the phase waits for the answer of this blade to this number
abbrev pub PhaseWaitsFor : ℕ → ℕ → Phase → Type 0
PhaseWaitsFor number blade Free = ⊥
PhaseWaitsFor number blade (Closing index n waiting) = (n ≡ number) × (bit_at waiting blade ≡ 1)
PhaseWaitsFor number blade (Applying index n) = ⊥

-- an answer takes the blade's bit, which is set, out of those waited for; the last answer makes the command applied
abbrev pub closed_by : ℕ → ℕ → ℕ → Phase
closed_by index number left = if left == 0 then Applying index number else Closing index number left

abbrev pub phase_answered : ℕ → Phase → Phase
phase_answered blade Free = Free
phase_answered blade (Closing index number waiting) = closed_by index number (bit_xor waiting (2 ^ blade))
phase_answered blade (Applying index number) = Applying index number

abbrev pub after_closed : ControlView → ℕ → ControlView
after_closed c blade = record c { phase = phase_answered blade c.phase }

abbrev pub IsApplying : Phase → Type 0
IsApplying Free = ⊥
IsApplying (Closing index number waiting) = ⊥
IsApplying (Applying index number) = Unit {0}

-- the command under way has ended
abbrev pub after_finish : ControlView → ControlView
after_finish c = record c { phase = Free; current = None }
