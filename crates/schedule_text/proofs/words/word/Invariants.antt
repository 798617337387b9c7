use Rattle.std.proofs.Common.{◌≡◌, ◌+◌, ◌≤◌, ℕ, [], length, slice_index_or}
use Rattle.schedule_text.specs.Word.{words_of}
use Rattle.schedule_text.proofs.words.word.Given as goal

abbrev pub invariant-loop : goal.invariant-loop
invariant-loop l = record {
  same : (k : ℕ) → slice_index_or (words_of l.rest) k [] ≡ slice_index_or (words_of l.line) (l.counter + k) [];
  short : length l.rest ≤ length l.line;
}
