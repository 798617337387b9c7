-- Thread lines, one more at a time.
use Rattle.std.proofs.Common.{◌≡◌, ℕ, ◌+◌, ◌<◌, ◌∙◌, List, [], ◌∷◌, ◌++◌, length, take, ap, sym, refl, Option, Some, None, arith, append_assoc, append-nil}
use Rattle.std.specs.List.{slice_get}
use Rattle.std.specs.Option.{option_map}
use Rattle.std.proofs.lemmas.List.{length-take}
use Rattle.std.proofs.lemmas.Option.{slice_get_within, same_Some}
use Rattle.mind_base.specs.declared.ends.End.{End}
use Rattle.hart_effect.specs.Thread.{Thread}
use Rattle.tso_machine.proofs.Callers.{take-at}
use Rattle.report_text.specs.ThreadLine.{thread_line_of, thread_line, thread_lines_from, thread_lines}

lines-append : (n : ℕ) (xs : List Thread) (y : Thread) → thread_lines_from n (xs ++ y ∷ []) ≡ thread_lines_from n xs ++ thread_line (n + length xs) y
lines-append n [] y = append-nil (thread_line n y) ∙ ap (λ k. thread_line k y) (omega arith)
lines-append n (x ∷ xs) y = ap (λ text. thread_line n x ++ text) (lines-append (n + 1) xs y ∙ ap (λ k. thread_lines_from (n + 1) xs ++ thread_line k y) (omega arith))
    ∙ sym (append_assoc (thread_line n x) (thread_lines_from (n + 1) xs) (thread_line (n + length (x ∷ xs)) y))

line-at : (threads : List Thread) (i : ℕ) (thread : Thread) → slice_get threads i ≡ Some thread
    → thread_lines (take (i + 1) threads) ≡ thread_lines (take i threads) ++ thread_line i thread
line-at threads i thread e =
    let count : length (take i threads) ≡ i = length-take i threads ∙ (let within : i < length threads = slice_get_within threads i thread e in omega arith) in
    ap thread_lines (take-at threads i thread e) ∙ lines-append 0 (take i threads) thread
    ∙ ap (λ k. thread_lines (take i threads) ++ thread_line k thread) (let f : length (take i threads) ≡ i = count in omega arith)

line-by : (threads : List Thread) (i : ℕ) (o : Option Thread) (end : End) (output : List ℕ) → slice_get threads i ≡ o
    → option_map (λ t. t.end) o ≡ Some end → option_map (λ t. t.output) o ≡ Some output
    → thread_lines (take (i + 1) threads) ≡ thread_lines (take i threads) ++ thread_line_of i end output
line-by threads i None end output e at_end at_output = absurd (cc)
line-by threads i (Some thread) end output e at_end at_output = line-at threads i thread e
    ∙ ap (λ x. thread_lines (take i threads) ++ thread_line_of i x thread.output) (same_Some _ _ at_end)
    ∙ ap (λ x. thread_lines (take i threads) ++ thread_line_of i end x) (same_Some _ _ at_output)

pub line-more : (threads : List Thread) (i : ℕ) (end : End) (output : List ℕ)
    → option_map (λ t. t.end) (slice_get threads i) ≡ Some end → option_map (λ t. t.output) (slice_get threads i) ≡ Some output
    → thread_lines (take (i + 1) threads) ≡ thread_lines (take i threads) ++ thread_line_of i end output
line-more threads i end output at_end at_output = line-by threads i (slice_get threads i) end output refl at_end at_output

-- a text that grew by a piece
pub grown : (base mid new lines line next : List ℕ) → new ≡ mid ++ line → mid ≡ base ++ lines → next ≡ lines ++ line → new ≡ base ++ next
grown base mid new lines line next e f g = e ∙ ap (λ text. text ++ line) f ∙ append_assoc base lines line ∙ ap (λ text. base ++ text) (sym g)
