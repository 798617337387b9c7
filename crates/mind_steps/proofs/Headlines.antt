-- What replaying a log finds.
use Rattle.std.proofs.Common.{◌≡◌, ℕ, List, ◌∙◌, ap, sym, refl, subst}
use Rattle.mind_base.specs.declared.commands.Command.{Command}
use Rattle.mind_base.specs.declared.notes.Note.{Note}
use Rattle.tso_machine.specs.State.{Setup, State, start_state}
use Rattle.tso_machine.specs.Replay.{labels, Replayed, Whole, Stuck, replay}
use Rattle.tso_machine.specs.Machine.{MachineView, StandsFor, Replays, ReplaysTo}
use Rattle.tso_machine.specs.declared.labels.Replay.TheVariants as answer
use Rattle.report_text.specs.Report.{report_text}
use Rattle.mind_steps.specs.Run.{IsWholeRun, IsReportOf, IsStuckAt}

-- the report of a machine is that of a state that it stands for
report-of : (setup : Setup) (commands : List Command) (machine : MachineView) (state : State) (notes : List Note) (text : List ℕ) → commands ≡ setup.commands
    → StandsFor machine state → text ≡ report_text commands machine.threads machine.taken notes → text ≡ report_text setup.commands state.threads state.taken notes
report-of setup commands machine state notes text same stands written = written
    ∙ ap (λ cs. report_text cs machine.threads machine.taken notes) same
    ∙ ap (λ threads. report_text setup.commands threads machine.taken notes) stands.threads
    ∙ ap (λ taken. report_text setup.commands state.threads taken notes) stands.taken

-- the report of a machine at the end of the labels of these notes
pub report-checked : (setup : Setup) (commands : List Command) (machine new : MachineView) (notes : List Note) (text : List ℕ) → commands ≡ setup.commands
    → machine.setup ≡ setup → StandsFor machine (start_state setup) → Replays answer.Whole (labels notes) machine new
    → text ≡ report_text commands new.threads new.taken notes → IsReportOf setup notes text
report-checked setup commands machine new notes text same_commands same stands replays written =
    let P : Setup → Type 0 = λ u. ReplaysTo answer.Whole new (replay u (start_state setup) (labels notes)) in
    by-end (replay setup (start_state setup) (labels notes)) refl (subst P same (replays (start_state setup) stands)) where
      by-end : (r : Replayed) → replay setup (start_state setup) (labels notes) ≡ r → ReplaysTo answer.Whole new r → IsReportOf setup notes text
      by-end (Whole state) is ends = (state, is, report-of setup commands new state notes text same_commands ends written)
      by-end (Stuck n state) is ends = absurd ends

pub stuck-checked : (setup : Setup) (machine new : MachineView) (notes : List Note) (n : ℕ) → machine.setup ≡ setup
    → StandsFor machine (start_state setup) → Replays (answer.Stuck n) (labels notes) machine new → IsStuckAt setup notes n
stuck-checked setup machine new notes n same stands replays =
    let P : Setup → Type 0 = λ u. ReplaysTo (answer.Stuck n) new (replay u (start_state setup) (labels notes)) in
    by-end (replay setup (start_state setup) (labels notes)) refl (subst P same (replays (start_state setup) stands)) where
      by-end : (r : Replayed) → replay setup (start_state setup) (labels notes) ≡ r → ReplaysTo (answer.Stuck n) new r → IsStuckAt setup notes n
      by-end (Whole state) is ends = absurd ends
      by-end (Stuck k state) is ends = (state, is ∙ ap (λ m. Stuck m state) (sym ends.0))

-- labels that replay whole are not stuck
pub not-stuck : (setup : Setup) (notes : List Note) (n : ℕ) → IsWholeRun setup notes → IsStuckAt setup notes n → ⊥
not-stuck setup notes n (state, whole) (other, stuck) = let both : Whole state ≡ Stuck n other = sym whole ∙ stuck in absurd (cc)
