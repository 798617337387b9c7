-- The schedule that the generator makes for a rack.
use Rattle.std.specs.Prelude.{ℕ, zero, suc, List, [], ◌∷◌, ◌++◌, map}
use Rattle.std.specs.List.{flat_map}
use Rattle.mind_base.specs.declared.events.Event.{Event}
use Rattle.mind_base.specs.declared.plans.RackPlan.{RackPlan}
use Rattle.schedule_text.specs.declared.sizes.Sizes.{Sizes}
use Rattle.schedule_text.specs.Size.{sizes_of}
use Rattle.rack_gen.specs.declared.wires.Wire.{Wire}
use Rattle.rack_gen.specs.declared.lines.Line.{Line}
use Rattle.rack_gen.specs.declared.lines.Line.TheVariants.{Settle}
use Rattle.rack_gen.specs.Draw.{drawn_state}
use Rattle.rack_gen.specs.Wire.{wires_of}
use Rattle.rack_gen.specs.Line.{line_at, draws_of, event_of, line_text}

-- so many lines from a state on, each drawn from the state behind the draws of the one before
abbrev pub lines_from : ℕ → List Wire → ℕ → ℕ → List Line
lines_from threads wires zero state = []
lines_from threads wires (suc count) state =
    line_at threads wires state ∷ lines_from threads wires count (drawn_state (draws_of (line_at threads wires state)) state)

-- so many drawn lines, the seed being the first state, and a last line on which the rack settles
unfoldable pub lines_for : Sizes → ℕ → ℕ → List Line
lines_for sizes count seed = lines_from sizes.threads (wires_of sizes) count seed ++ Settle ∷ []

-- the events of the schedule
abbrev pub generated : RackPlan → ℕ → ℕ → List Event
generated plan count seed = map event_of (lines_for (sizes_of plan) count seed)

-- its text
abbrev pub generated_text : RackPlan → ℕ → ℕ → List ℕ
generated_text plan count seed = flat_map line_text (lines_for (sizes_of plan) count seed)
