-- The journal of a run is checked to be that of a run.
use Rattle.std.proofs.Common.{◌≡◌, ◌≤◌, ◌∙◌, ℕ, List, [], length, ap, refl, Option, Some, None, Result, Ok}
use Rattle.std.specs.FinMap as finite
use Rattle.mind_base.specs.Store.{Files}
use Rattle.journal_text.specs.Journal.{AreJournalNotes}
use Rattle.mind_inputs.proofs.Callers.{seen-whole}
use Rattle.mind_inputs.specs.Inputs.{Bytes, Ending, seen_of}
use Rattle.mind_inputs.specs.Journals.{Checkable}
use Rattle.mind_inputs.specs.Words.{Paths}
use Rattle.report_text.specs.Report.{report_text}
use Rattle.mind_top.specs.Due.{DoneBy, CallFor}
use Rattle.mind_top.specs.Headline.{setup_by}
use Rattle.mind_top.specs.Left.{Left}
use Rattle.mind_top.specs.Words.{Run, Check}
use Rattle.mind_top.specs.declared.words.Output.TheVariants.{Report, Journal}
use Rattle.mind_top.specs.declared.statuses.Status.TheVariants.{Done}
use Rattle.mind_top.proofs.Clauses.{done-called}
use Rattle.mind_top.proofs.Ends.{nothing}

pub journal-checked : (files : Files) (paths : Paths) (journal : List ℕ) (left : Left) (text : List ℕ) → DoneBy (Some files) (Run Journal paths) left text
    → finite.get files journal ≡ Some text → length text ≤ 268435456 → AreJournalNotes left.log
    → (said : List ℕ) × DoneBy (Some files) (Run Report paths) left said × DoneBy (Some files) (Check paths journal) nothing said × CallFor files (Check paths journal) Done
journal-checked files paths journal left text (accepted, judges, writes) held short within =
    let said : List ℕ = report_text (setup_by accepted).commands writes.state.threads writes.state.taken left.log in
    let inputs : Checkable = record { accepted = accepted; notes = left.log } in
    let seen : seen_of (finite.get files journal) 268435456 ≡ Bytes text = ap (λ h. seen_of h 268435456) held ∙ seen-whole text 268435456 short in
    let checks : DoneBy (Some files) (Check paths journal) nothing said = (
      inputs,
      (Ok accepted, judges, (Ok left.log, (Bytes text, seen, (within, writes.journal)), refl)),
      (writes.state, writes.run.run, refl),
      (refl, refl),
    ) in (
      said,
      (accepted, judges, record { state = writes.state; run = writes.run; report = refl }),
      checks,
      done-called files (Check paths journal) nothing said checks,
    )
