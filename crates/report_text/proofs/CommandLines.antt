-- Command lines, one more at a time.
use Rattle.std.proofs.Common.{◌≡◌, ℕ, ◌+◌, ◌<◌, ◌∙◌, List, [], ◌∷◌, ◌++◌, length, take, get_or, ap, sym, refl, Option, Some, None, arith, append_assoc, append-nil}
use Rattle.std.specs.List.{slice_get}
use Rattle.std.specs.Option.{option_or}
use Rattle.std.proofs.lemmas.List.{length-take}
use Rattle.std.proofs.lemmas.Option.{slice_get_within, slice_get_read, get_or_from_slice_get}
use Rattle.mind_base.specs.declared.commands.Command.{Command}
use Rattle.mind_base.specs.declared.commands.Outcome.{Outcome}
use Rattle.mind_base.specs.declared.notes.Note.{Note}
use Rattle.tso_machine.specs.State.{Taken}
use Rattle.tso_machine.specs.Commands.{outcome_at}
use Rattle.tso_machine.proofs.Callers.{take-at}
use Rattle.report_text.specs.CommandLine.{moved_at, command_outcome, command_line, command_lines_from}

lines-append : (ended : ℕ → Option Outcome) (n : ℕ) (xs : List Command) (y : Command)
    → command_lines_from ended n (xs ++ y ∷ []) ≡ command_lines_from ended n xs ++ command_line (n + length xs) y (ended (n + length xs))
lines-append ended n [] y = append-nil (command_line n y (ended n)) ∙ ap (λ k. command_line k y (ended k)) (omega arith)
lines-append ended n (x ∷ xs) y =
    ap (λ text. command_line n x (ended n) ++ text) (lines-append ended (n + 1) xs y ∙ ap (λ k. command_lines_from ended (n + 1) xs ++ command_line k y (ended k)) (omega arith))
    ∙ sym (append_assoc (command_line n x (ended n)) (command_lines_from ended (n + 1) xs) (command_line (n + length (x ∷ xs)) y (ended (n + length (x ∷ xs)))))

pub line-more : (ended : ℕ → Option Outcome) (commands : List Command) (i : ℕ) (command : Command) → slice_get commands i ≡ Some command
    → command_lines_from ended 0 (take (i + 1) commands) ≡ command_lines_from ended 0 (take i commands) ++ command_line i command (ended i)
line-more ended commands i command e =
    let count : length (take i commands) ≡ i = length-take i commands ∙ (let within : i < length commands = slice_get_within commands i command e in omega arith) in
    ap (command_lines_from ended 0) (take-at commands i command e) ∙ lines-append ended 0 (take i commands) command
    ∙ ap (λ k. command_lines_from ended 0 (take i commands) ++ command_line k command (ended k)) (let f : length (take i commands) ≡ i = count in omega arith)

-- the outcome as the machine took it, else that kept of the moves
pub ended-as : (taken : List Taken) (notes : List Note) (moves : List (Option Outcome)) (i : ℕ) (took moved ended : Option Outcome) → i < length moves
    → moved ≡ get_or moves i moved → get_or moves i None ≡ moved_at notes i → took ≡ outcome_at taken i → ended ≡ option_or took moved
    → ended ≡ command_outcome taken notes i
ended-as taken notes moves i took moved ended within is first as_taken either =
    let kept : get_or moves i None ≡ moved = get_or_from_slice_get moves i moved None (slice_get_read moves (length moves) i moved refl within is) in
    either ∙ ap (λ o. option_or o moved) as_taken ∙ ap (λ o. option_or (outcome_at taken i) o) (sym kept ∙ first)
