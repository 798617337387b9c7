-- The names of the links and wires of a rack.
use Rattle.std.specs.Prelude.{ℕ, ◌-◌, ◌&&◌, ◌==◌, nat_lt, List, length, take, drop, slice_index, Result, Ok, Err, if◌then◌else◌}
use Rattle.mind_base.specs.declared.links.LinkKind.{LinkKind}
use Rattle.mind_base.specs.declared.links.LinkKind.TheVariants.{Up, Down, To, From}
use Rattle.mind_base.specs.declared.links.LinkName.{LinkName}
use Rattle.mind_base.specs.declared.links.Side.{Side}
use Rattle.mind_base.specs.declared.links.Side.TheVariants.{Messages, Acks}
use Rattle.schedule_text.specs.declared.faults.LineFault.{LineFault}
use Rattle.schedule_text.specs.declared.faults.LineFault.TheVariants as faults
use Rattle.schedule_text.specs.declared.sizes.Sizes.{Sizes}
use Rattle.plain_text.specs.Reading.{◌>>=◌}
use Rattle.schedule_text.specs.Argument.{number_below}

-- u and d lead up from a compute blade and down to it, t and f to a memory blade and from it
unfoldable pub link_kind_of : ℕ → Result LinkKind LineFault
link_kind_of letter =
    if letter == 117 then Ok Up else if letter == 100 then Ok Down else if letter == 116 then Ok To else if letter == 102 then Ok From else Err faults.Wire

-- how many links of a kind there are
abbrev pub ends_of : Sizes → LinkKind → ℕ
ends_of sizes Up = sizes.blades
ends_of sizes Down = sizes.blades
ends_of sizes To = sizes.memories
ends_of sizes From = sizes.memories

-- whatever is wrong with a name, there is no such wire
abbrev pub as_wire_number : Result ℕ LineFault → Result ℕ LineFault
as_wire_number (Ok n) = Ok n
as_wire_number (Err fault) = Err faults.Wire

-- a number below the bound without leading zeros, and so not in hexadecimal
unfoldable pub link_number : ℕ → List ℕ → Result ℕ LineFault
link_number bound digits =
    if nat_lt 1 (length digits) && slice_index digits 0 == 48 then Err faults.Wire else as_wire_number (number_below bound digits)

-- a letter and the number of a blade
unfoldable pub link_named : Sizes → List ℕ → Result LinkName LineFault
link_named sizes name = do
  kind ← link_kind_of (slice_index name 0)
  number ← link_number (ends_of sizes kind) (drop 1 name)
  Ok (record { kind = kind; number = number })

-- the name of a link, with an a behind it for the wire of acknowledgements
unfoldable pub wire_named : Sizes → List ℕ → Result (LinkName × Side) LineFault
wire_named sizes name =
    if slice_index name (length name - 1) == 97
    then link_named sizes (take (length name - 1) name) >>= (λ link. Ok (link, Acks))
    else link_named sizes name >>= (λ link. Ok (link, Messages))
