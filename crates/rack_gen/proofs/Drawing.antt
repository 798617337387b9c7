-- Lines drawn one after the other, as a loop does.
use Rattle.std.proofs.Common.{◌≡◌, ℕ, suc, ◌+◌, ◌-◌, ◌<◌, ◌∙◌, List, [], ◌∷◌, ◌++◌, ap, refl, sym, arith, append_assoc, append-nil}
use Rattle.rack_gen.specs.declared.wires.Wire.{Wire}
use Rattle.rack_gen.specs.declared.lines.Line.{Line}
use Rattle.rack_gen.specs.Draw.{drawn_state}
use Rattle.rack_gen.specs.Line.{line_at, draws_of}
use Rattle.rack_gen.specs.Generator.{lines_from}

one_drawn : (threads : ℕ) (wires : List Wire) (before total : List Line) (line : Line) (left state after : ℕ) → line ≡ line_at threads wires state
    → after ≡ drawn_state (draws_of line) state → before ++ lines_from threads wires (suc left) state ≡ total
    → (before ++ line ∷ []) ++ lines_from threads wires left after ≡ total
one_drawn threads wires before total line left state after is goes all =
    let rest : line ∷ lines_from threads wires left after ≡ lines_from threads wires (suc left) state = rw (goes, is) refl in
    append_assoc before (line ∷ []) (lines_from threads wires left after) ∙ ap (λ lines. before ++ lines) rest ∙ all

-- with the line that is drawn behind those before it, the same lines are still to be drawn
pub still_to_draw : (threads : ℕ) (wires : List Wire) (before total : List Line) (line : Line) (count drawn state after : ℕ) → drawn < count → line ≡ line_at threads wires state
    → after ≡ drawn_state (draws_of line) state → before ++ lines_from threads wires (count - drawn) state ≡ total
    → (before ++ line ∷ []) ++ lines_from threads wires (count - (drawn + 1)) after ≡ total
still_to_draw threads wires before total line count drawn state after more is goes all =
    let left : count - drawn ≡ suc (count - (drawn + 1)) = omega arith in
    one_drawn threads wires before total line (count - (drawn + 1)) state after is goes
    (ap (λ n. before ++ lines_from threads wires n state) (sym left) ∙ all)

pub all_drawn : (threads : ℕ) (wires : List Wire) (lines total : List Line) (left state : ℕ) → left ≡ 0 → lines ++ lines_from threads wires left state ≡ total → lines ≡ total
all_drawn threads wires lines total left state done all =
    sym (append-nil lines) ∙ ap (λ n. lines ++ lines_from threads wires n state) (sym done) ∙ all
