-- The lines that the generator draws: what each says, and its text.
use Rattle.std.specs.Prelude.{ℕ, ◌%◌, ◌==◌, nat_lt, codes, List, [], ◌∷◌, ◌++◌, length, slice_index_or, if◌then◌else◌}
use Rattle.std.specs.Fmt.{decimal}
use Rattle.mind_base.specs.declared.links.LinkKind.TheVariants.{Up}
use Rattle.mind_base.specs.declared.links.Side.TheVariants.{Messages}
use Rattle.mind_base.specs.declared.events.Event.{Event}
use Rattle.mind_base.specs.declared.events.Event.TheVariants as events
use Rattle.schedule_text.specs.declared.fates.Fate.{Fate}
use Rattle.schedule_text.specs.declared.fates.Fate.TheVariants.{Deliver, Lose, Repeat}
use Rattle.schedule_text.specs.Fate.{befalls}
use Rattle.rack_gen.specs.declared.wires.Wire.{Wire}
use Rattle.rack_gen.specs.declared.lines.Line.{Line}
use Rattle.rack_gen.specs.declared.lines.Line.TheVariants.{Step, Drain, Frame, Epoch, Settle}
use Rattle.rack_gen.specs.Draw.{draw}
use Rattle.rack_gen.specs.Wire.{wire_name}

-- what the first number of a line decides: the kind of the line
abbrev pub kind_at : ℕ → ℕ
kind_at state = draw 1 state % 16

-- the wire at a number, modulo how many there are
abbrev pub wire_at : List Wire → ℕ → Wire
wire_at wires n = slice_index_or wires (n % length wires) (record { link = record { kind = Up; number = 0 }; side = Messages })

-- the line that is drawn from a state on, for so many threads and these wires
unfoldable pub line_at : ℕ → List Wire → ℕ → Line
line_at threads wires state =
    if nat_lt (kind_at state) 8 then Step (draw 2 state % threads) else
    if nat_lt (kind_at state) 11 then Drain (draw 2 state % threads) else
    if nat_lt (kind_at state) 13 then Frame Deliver (wire_at wires (draw 2 state)) (draw 3 state % 4) else
    if kind_at state == 13 then Frame Lose (wire_at wires (draw 2 state)) (draw 3 state % 4) else
    if kind_at state == 14 then Frame Repeat (wire_at wires (draw 2 state)) (draw 3 state % 4) else
    if draw 2 state % 4 == 0 then Epoch else Settle

-- a line that names a frame takes three draws, any other two
abbrev pub draws_of : Line → ℕ
draws_of (Step hart) = 2
draws_of (Drain hart) = 2
draws_of (Frame fate wire k) = 3
draws_of Epoch = 2
draws_of Settle = 2

-- the event that a line stands for
abbrev pub event_of : Line → Event
event_of (Step hart) = events.Step hart
event_of (Drain hart) = events.Drain hart
event_of (Frame fate wire k) = befalls fate wire.link wire.side k
event_of Epoch = events.Epoch
event_of Settle = events.Settle

-- the word that a line of a frame begins with
abbrev pub word_of : Fate → List ℕ
word_of Deliver = codes "deliver"
word_of Lose = codes "lose"
word_of Repeat = codes "repeat"

-- the words of a line
abbrev pub words_in : Line → List (List ℕ)
words_in (Step hart) = codes "step" ∷ decimal hart ∷ []
words_in (Drain hart) = codes "drain" ∷ decimal hart ∷ []
words_in (Frame fate wire k) = word_of fate ∷ wire_name wire ∷ decimal k ∷ []
words_in Epoch = codes "epoch" ∷ []
words_in Settle = codes "settle" ∷ []

-- words, one space apart
abbrev pub spaced : List (List ℕ) → List ℕ
spaced [] = []
spaced (word ∷ []) = word
spaced (word ∷ words) = word ++ 32 ∷ spaced words

-- the words of a line, one space apart, and its end
abbrev pub line_text : Line → List ℕ
line_text line = spaced (words_in line) ++ codes "\n"
