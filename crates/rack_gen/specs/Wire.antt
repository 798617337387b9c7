-- The wires of a rack, in order, and their names.
use Rattle.std.specs.Prelude.{ℕ, codes, List, [], ◌∷◌, ◌++◌}
use Rattle.std.specs.List.{flat_map, range_with_len}
use Rattle.std.specs.Fmt.{decimal}
use Rattle.mind_base.specs.declared.links.LinkKind.{LinkKind}
use Rattle.mind_base.specs.declared.links.LinkKind.TheVariants.{Up, Down, To, From}
use Rattle.mind_base.specs.declared.links.Side.{Side}
use Rattle.mind_base.specs.declared.links.Side.TheVariants.{Messages, Acks}
use Rattle.schedule_text.specs.declared.sizes.Sizes.{Sizes}
use Rattle.rack_gen.specs.declared.wires.Wire.{Wire}

-- a link's wire of messages, and then that of their acknowledgements
abbrev pub wires_of_link : LinkKind → ℕ → List Wire
wires_of_link kind number =
    record { link = record { kind = kind; number = number }; side = Messages } ∷ record { link = record { kind = kind; number = number }; side = Acks } ∷ []

-- blade by blade, the wires of the one link and then of the other
unfoldable pub wires_between : LinkKind → LinkKind → ℕ → List Wire
wires_between one other blades = flat_map (λ number. wires_of_link one number ++ wires_of_link other number) (range_with_len 0 blades)

-- u0, u0a, d0, d0a, u1 and so on over the compute blades, and then t0, t0a, f0, f0a and so on over the memory blades
abbrev pub wires_of : Sizes → List Wire
wires_of sizes = wires_between Up Down sizes.blades ++ wires_between To From sizes.memories

abbrev pub letter_of : LinkKind → List ℕ
letter_of Up = codes "u"
letter_of Down = codes "d"
letter_of To = codes "t"
letter_of From = codes "f"

abbrev pub side_mark : Side → List ℕ
side_mark Messages = []
side_mark Acks = codes "a"

-- the letter and the number of the link, with an a behind them for the wire of acknowledgements
abbrev pub wire_name : Wire → List ℕ
wire_name wire = letter_of wire.link.kind ++ decimal wire.link.number ++ side_mark wire.side
