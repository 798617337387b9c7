-- What memory holds: the last write to a byte says it.
use Rattle.std.specs.Prelude.{ℕ, ◌&&◌, ◌==◌, List, [], ◌∷◌, if◌then◌else◌}
use Rattle.mind_base.specs.Page.{page_of}
use Rattle.mind_base.specs.Span.{in_span}
use Rattle.tso_machine.specs.State.{Write, Byte, Zeros}

-- the byte at an address of a domain after one more write
abbrev pub byte_after : Write → ℕ → ℕ → ℕ → ℕ
byte_after (Byte d a value) domain address byte = if d == domain && a == address then value else byte
byte_after (Zeros span) domain address byte = if in_span span (page_of domain address) then 0 else byte

abbrev pub byte_from : ℕ → List Write → ℕ → ℕ → ℕ
byte_from byte [] domain address = byte
byte_from byte (write ∷ later) domain address = byte_from (byte_after write domain address byte) later domain address

-- the byte at an address of a domain: that of the last write that covers it, and 0 where none does
abbrev pub byte_of : List Write → ℕ → ℕ → ℕ
byte_of writes domain address = byte_from 0 writes domain address
