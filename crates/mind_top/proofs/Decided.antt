-- What the files of a form call for is a function of them; a schedule that is made is run as it is loaded.
use Rattle.std.proofs.Common.{◌≡◌, ℕ, ◌≤◌, ◌↔◌, ◌∙◌, List, ap, sym, subst, Option, Some, Result, Ok, Err}
use Rattle.std.specs.FinMap as finite
use Rattle.mind_base.specs.Fit.{IsFit}
use Rattle.mind_base.specs.Store.{Files}
use Rattle.mind_inputs.specs.Words.{Paths}
use Rattle.mind_base.specs.declared.plans.RackPlan.{RackPlan}
use Rattle.rack_gen.specs.Generator.{generated_text}
use Rattle.mind_inputs.specs.Inputs.{Ending, Refused, Judged, Judges, JudgesMade, rack_seen_judged, seen_of}
use Rattle.mind_inputs.specs.Journals.{Checkable, JudgesCheck}
use Rattle.mind_inputs.proofs.Callers.{one-check, judged-made}
use Rattle.mind_top.specs.Words.{Form, Run, Check, Make, Load, Asm, Dis, IsCheckForm}
use Rattle.mind_top.specs.Due.{DoneBy, IsEndedBy, Due, status_of_check, CallFor, said_of_replay, said_of_check}
use Rattle.mind_top.specs.Left.{Left}
use Rattle.mind_top.specs.declared.words.Output.TheVariants.{Report}
use Rattle.mind_top.specs.declared.statuses.Status.{Status}
use Rattle.mind_top.specs.declared.statuses.Status.TheVariants as status
use Rattle.mind_top.proofs.Forms.{same-form, no-form}

pub one-status : (files : Files) (form : Form) (a b : Status) → CallFor files form a → CallFor files form b → a ≡ b
one-status files (Run output paths) a b p q = p ∙ sym q
one-status files (Check paths journal) a b (x, only, p) (y, also, q) = p ∙ ap status_of_check (sym (only.1 y also.0)) ∙ sym q
one-status files (Make rack count seed) a b p q = p ∙ sym q
one-status files (Load rack count seed) a b p q = p ∙ sym q
one-status files (Asm text) a b p q = p ∙ sym q
one-status files (Dis image) a b p q = p ∙ sym q

-- the form is a check, and its files are judged so
abbrev JudgedBy : Files → Result Checkable Ending → Form → Type 0
JudgedBy files answer (Run output paths) = ⊥
JudgedBy files answer (Check paths journal) = JudgesCheck (Some files) paths journal answer
JudgedBy files answer (Make rack count seed) = ⊥
JudgedBy files answer (Load rack count seed) = ⊥
JudgedBy files answer (Asm text) = ⊥
JudgedBy files answer (Dis image) = ⊥

says-as : (files : Files) (paths : Paths) (journal : List ℕ) (answer found : Result Checkable Ending) (pair : Status × List ℕ) → JudgesCheck (Some files) paths journal answer
    → JudgesCheck (Some files) paths journal found → pair ≡ said_of_check found → pair ≡ said_of_check answer
says-as files paths journal answer found pair judges also is = is ∙ ap said_of_check (one-check files paths journal found answer also judges)

pub check-says : (files : Files) (words : List (List ℕ)) (paths : Paths) (journal : List ℕ) (answer : Result Checkable Ending) (left : Left) (due : Status) (text : List ℕ)
    → IsCheckForm words paths journal → JudgesCheck (Some files) paths journal answer → Due (Some files) words left due text
    → (let pair : Status × List ℕ = (due, text) in pair) ≡ said_of_check answer
check-says files words paths journal answer left status.Done text is judges (found, also, by) =
    let P : Form → Type 0 = λ f. DoneBy (Some files) f left text in
    let (inputs, read, (state, whole, report), empty) = subst P (same-form words found (Check paths journal) also is) by in
    says-as files paths journal answer (Ok inputs) (status.Done, text) judges read
    (ap (λ (t : List ℕ). let pair : Status × List ℕ = (status.Done, t) in pair) report ∙ ap (said_of_replay inputs) (sym whole))
check-says files words paths journal answer left status.Usage text is judges (none, empty, line) = absurd (no-form words (Check paths journal) none is)
check-says files words paths journal answer left status.Malformed text is judges (found, also, refusal, by, empty, line) =
    let P : Form → Type 0 = λ f. IsEndedBy (Some files) f (Refused refusal) in
    says-as files paths journal answer (Err (Refused refusal)) (status.Malformed, text) judges (subst P (same-form words found (Check paths journal) also is) by)
    (ap (λ (t : List ℕ). let pair : Status × List ℕ = (status.Malformed, t) in pair) line)
check-says files words paths journal answer left status.NotARun text is judges (others, other, also, inputs, read, label, (state, stuck), empty, line) =
    says-as files paths journal answer (Ok inputs) (status.NotARun, text) judges
    (subst (JudgedBy files (Ok inputs)) (same-form words (Check others other) (Check paths journal) also is) read)
    (ap (λ (t : List ℕ). let pair : Status × List ℕ = (status.NotARun, t) in pair) line ∙ ap (said_of_replay inputs) (sym stuck))
check-says files words paths journal answer left status.ReadFault text is judges due = absurd due
check-says files words paths journal answer left status.WriteFault text is judges due = absurd due
check-says files words paths journal answer left status.NoMemory text is judges due = absurd due
check-says files words paths journal answer left status.Spent text is judges due = absurd due

-- ---- a schedule that is made, and its run

run-of : (holds : Option Files) (rack : List ℕ) (count seed : ℕ) (paths : Paths) (left : Left) (text : List ℕ) → ((judged : Judged) → JudgesMade holds rack count seed judged → Judges holds paths judged)
    → DoneBy holds (Load rack count seed) left text → DoneBy holds (Run Report paths) left text
run-of holds rack count seed paths left text same (accepted, judges, writes) = (accepted, same (Ok accepted) judges, writes)

load-of : (holds : Option Files) (rack : List ℕ) (count seed : ℕ) (paths : Paths) (left : Left) (text : List ℕ) → ((judged : Judged) → Judges holds paths judged → JudgesMade holds rack count seed judged)
    → DoneBy holds (Run Report paths) left text → DoneBy holds (Load rack count seed) left text
load-of holds rack count seed paths left text same (accepted, judges, writes) = (accepted, same (Ok accepted) judges, writes)

pub made-runs : (files : Files) (rack schedule : List ℕ) (plan : RackPlan) (count seed : ℕ) → IsFit plan → count ≤ 200000
    → rack_seen_judged (seen_of (finite.get files rack) 65536) ≡ Ok plan → finite.get files schedule ≡ Some (generated_text plan count seed)
    → (left : Left) (text : List ℕ) → DoneBy (Some files) (Load rack count seed) left text ↔ DoneBy (Some files) (Run Report (record { rack = rack; schedule = schedule })) left text
made-runs files rack schedule plan count seed fit few read held left text =
    let paths : Paths = record { rack = rack; schedule = schedule } in
    let same = judged-made files rack schedule plan count seed fit few read held in
    (run-of (Some files) rack count seed paths left text (λ judged. (same judged).0), load-of (Some files) rack count seed paths left text (λ judged. (same judged).1))
