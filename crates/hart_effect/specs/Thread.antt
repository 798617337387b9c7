-- A thread: what its instructions read and change of its own.
use Rattle.std.specs.Prelude.{ℕ, List, [], Option, None}
use Rattle.mind_base.specs.Pending.{PendingView}
use Rattle.mind_base.specs.Place.{Granule}
use Rattle.mind_base.specs.declared.ends.End.{End}
use Rattle.hart_effect.specs.Core.{CoreView, first_core}

-- a thread: its 32 registers, where it stands, the bytes that it put out, the stores that it has not
-- yet drained (the oldest first, as many as it likes), and the granule that it has reserved
pub record Thread : Type 0 where
  pub regs : List ℕ
  pub end : End
  pub output : List ℕ
  pub buffer : List PendingView
  pub reserved : Option Granule

-- the thread of a core, with these stores and this reservation
abbrev pub thread_with : CoreView → List PendingView → Option Granule → Thread
thread_with core buffer reserved =
    record { regs = core.regs; end = core.end; output = core.output; buffer = buffer; reserved = reserved }

abbrev pub core_of : Thread → CoreView
core_of thread = record { regs = thread.regs; end = thread.end; output = thread.output }

-- a thread whose core changes, and nothing else of it
abbrev pub with_core : (CoreView → CoreView) → Thread → Thread
with_core change thread = thread_with (change (core_of thread)) thread.buffer thread.reserved

-- a thread that runs at the start of an image, and nothing in it but zeros
abbrev pub first_thread : ℕ → Thread
first_thread pc = thread_with (first_core pc) [] None
