-- A schedule whose events are each settled has one outcome.
use Rattle.std.proofs.Common.{◌≡◌, ◌∙◌, ap, sym, ℕ, List, [], ◌++◌}
use Rattle.mind_inputs.specs.Inputs.{Accepted}
use Rattle.tso_machine.specs.Replay.{Replayed, Whole, labels, replay}
use Rattle.tso_machine.specs.State.{State, start_state}
use Rattle.report_text.specs.Report.{first_line}
use Rattle.report_text.specs.Counts.{counts_line}
use Rattle.report_text.specs.ThreadLine.{thread_lines}
use Rattle.rack_settle.specs.Stretches.{AreSettledEach}
use Rattle.mind_top.specs.Headline.{setup_by, Headline}
use Rattle.mind_top.specs.Left.{Left}

whole-same : (s t : State) → (let x : Replayed = Whole s in x) ≡ Whole t → s ≡ t
whole-same s t e = cc

-- both end in one state
same-state : (accepted : Accepted) (a b : Left) (text other : List ℕ) → AreSettledEach accepted.events → (one : Headline accepted a text) (two : Headline accepted b other)
    → one.state ≡ two.state
same-state accepted a b text other settled one two =
    let same : labels a.log ≡ labels b.log = one.run.ran.settled.determined settled ∙ sym (two.run.ran.settled.determined settled) in
    whole-same one.state two.state (sym one.run.run ∙ ap (replay (setup_by accepted) (start_state (setup_by accepted))) same ∙ two.run.run)

pub one_outcome : (accepted : Accepted) (a b : Left) (text other : List ℕ) → AreSettledEach accepted.events → Headline accepted a text → Headline accepted b other
    → (front : List ℕ) × (text ≡ front ++ counts_line a.log) × (other ≡ front ++ counts_line b.log)
one_outcome accepted a b text other settled one two = (
  first_line ++ thread_lines one.state.threads ++ [],
  one.report,
  two.report ∙ ap (λ (s : State). first_line ++ thread_lines s.threads ++ [] ++ counts_line b.log) (sym (same-state accepted a b text other settled one two)),
)
