-- Bytes in memory, as tests hand them to the program to write to.
use Rattle.std.specs.Prelude.{◌≡◌, ℕ, ◌-◌, ◌<◌, ◌≤◌, List, length, take, ◌++◌, Result, Ok, Err}
use Rattle.mind_base.specs.Store.{risen}
use Rattle.mind_base.specs.declared.sinks.WriteError.{WriteError}

pub record MemSinkView : Type 0 where
  pub bytes : List ℕ
  pub room : ℕ
  pub faults : ℕ
  pub writes : ℕ

-- how many more bytes the sink takes
abbrev pub room_left : MemSinkView → ℕ
room_left sink = sink.room - length sink.bytes

-- after one write more, as many of the bytes as there is room for stand behind those that were there
abbrev pub with_bytes : List ℕ → MemSinkView → MemSinkView
with_bytes bytes sink = record sink { bytes = sink.bytes ++ take (room_left sink) bytes; writes = risen sink.writes }

-- a write takes what there is room for, and fails exactly where that is not all of it
abbrev pub SinkTakes : MemSinkView → MemSinkView → List ℕ → Result (Unit {0}) WriteError → Type 0
SinkTakes old new bytes (Ok done) = (length bytes ≤ room_left old) × (new ≡ with_bytes bytes old)
SinkTakes old new bytes (Err failure) = (room_left old < length bytes) × (new ≡ record (with_bytes bytes old) { faults = risen old.faults })
