-- The drawn lines name threads and wires of the rack.
use Rattle.std.proofs.Common.{◌≡◌, ℕ, zero, suc, ◌+◌, ◌%◌, ◌<◌, Bool, true, false, cond, ltb, eqb, List, [], ◌∷◌, ◌++◌, length, map, arith}
use Rattle.std.specs.List.{AllByRecursion}
use Rattle.std.proofs.Math.Nat.{mod-lt}
use Rattle.schedule_text.specs.declared.sizes.Sizes.{Sizes}
use Rattle.schedule_text.specs.Event.{IsEventIn}
use Rattle.schedule_text.specs.declared.fates.Fate.TheVariants.{Deliver, Lose, Repeat}
use Rattle.rack_gen.specs.declared.wires.Wire.{Wire}
use Rattle.rack_gen.specs.declared.lines.Line.{Line}
use Rattle.rack_gen.specs.declared.lines.Line.TheVariants.{Step, Drain, Frame, Epoch, Settle}
use Rattle.rack_gen.specs.Draw.{draw, drawn_state}
use Rattle.rack_gen.specs.Wire.{wires_of}
use Rattle.rack_gen.specs.Line.{kind_at, wire_at, line_at, draws_of, event_of}
use Rattle.rack_gen.specs.Generator.{lines_from, lines_for}
use Rattle.rack_gen.proofs.WireLists.{IsWireIn, wire_fits}

-- the thread or the wire is the rack's, and frames have the numbers 0 to 3
abbrev pub IsLineIn : Sizes → Line → Type 0
IsLineIn sizes (Step hart) = hart < sizes.threads
IsLineIn sizes (Drain hart) = hart < sizes.threads
IsLineIn sizes (Frame fate wire k) = IsWireIn sizes wire × (k < 4)
IsLineIn sizes Epoch = Unit {0}
IsLineIn sizes Settle = Unit {0}

either : (sizes : Sizes) (test : Bool) (x y : Line) → IsLineIn sizes x → IsLineIn sizes y → IsLineIn sizes (cond test x y)
either sizes true x y p q = p
either sizes false x y p q = q

line_fits : (sizes : Sizes) (state : ℕ) → 0 < sizes.threads → 0 < sizes.blades → IsLineIn sizes (line_at sizes.threads (wires_of sizes) state)
unfolding line_at
line_fits sizes state threads blades =
    let hart : draw 2 state % sizes.threads < sizes.threads = mod-lt (draw 2 state) threads in
    let frame : IsWireIn sizes (wire_at (wires_of sizes) (draw 2 state)) × (draw 3 state % 4 < 4) =
    (wire_fits sizes (draw 2 state) blades, mod-lt (draw 3 state) (omega arith)) in
    let fits = either sizes in
    fits (ltb (kind_at state) 8) _ _ hart (fits (ltb (kind_at state) 11) _ _ hart (fits (ltb (kind_at state) 13) _ _ frame
    (fits (eqb (kind_at state) 13) _ _ frame (fits (eqb (kind_at state) 14) _ _ frame (fits (eqb (draw 2 state % 4) 0) Epoch Settle tt tt)))))

lines_fit : (sizes : Sizes) (count state : ℕ) (last : List Line) → 0 < sizes.threads → 0 < sizes.blades → AllByRecursion (IsLineIn sizes) last
    → AllByRecursion (IsLineIn sizes) (lines_from sizes.threads (wires_of sizes) count state ++ last)
lines_fit sizes zero state last threads blades all = all
lines_fit sizes (suc count) state last threads blades all =
    (line_fits sizes state threads blades, lines_fit sizes count (drawn_state (draws_of (line_at sizes.threads (wires_of sizes) state)) state) last threads blades all)

pub all_fit : (sizes : Sizes) (count seed : ℕ) → 0 < sizes.threads → 0 < sizes.blades → AllByRecursion (IsLineIn sizes) (lines_for sizes count seed)
unfolding lines_for
all_fit sizes count seed threads blades = lines_fit sizes count seed (Settle ∷ []) threads blades (tt, tt)

-- there is one line more than are drawn
length_from : (threads : ℕ) (wires : List Wire) (count state : ℕ) (last : List Line) → length (lines_from threads wires count state ++ last) ≡ count + length last
length_from threads wires zero state last = omega arith
length_from threads wires (suc count) state last =
    omega (arith, length_from threads wires count (drawn_state (draws_of (line_at threads wires state)) state) last)

pub length_lines : (sizes : Sizes) (count seed : ℕ) → length (lines_for sizes count seed) ≡ count + 1
unfolding lines_for
length_lines sizes count seed = length_from sizes.threads (wires_of sizes) count seed (Settle ∷ [])

event_fits : (sizes : Sizes) (line : Line) → IsLineIn sizes line → IsEventIn sizes (event_of line)
event_fits sizes (Step hart) fits = fits
event_fits sizes (Drain hart) fits = fits
event_fits sizes (Frame Deliver wire k) fits = fits.0
event_fits sizes (Frame Lose wire k) fits = fits.0
event_fits sizes (Frame Repeat wire k) fits = fits.0
event_fits sizes Epoch fits = tt
event_fits sizes Settle fits = tt

pub events_fit : (sizes : Sizes) (lines : List Line) → AllByRecursion (IsLineIn sizes) lines → AllByRecursion (IsEventIn sizes) (map event_of lines)
events_fit sizes [] all = tt
events_fit sizes (line ∷ lines) all = (event_fits sizes line all.0, events_fit sizes lines all.1)
