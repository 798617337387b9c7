-- The clauses of the top call, by how it ends.
use Rattle.std.proofs.Common.{◌≡◌, ℕ, inl, inr, List, ap, sym, refl, subst, Option, Some, None, Ok, Err, IfSome}
use Rattle.mind_base.specs.Store.{Files, Rises}
use Rattle.mind_base.specs.Sink.{Appends}
use Rattle.mind_base.specs.declared.plans.RackPlan.{RackPlan}
use Rattle.rack_gen.specs.Generator.{generated_text}
use Rattle.mind_inputs.specs.Words.{Paths}
use Rattle.mind_inputs.specs.Inputs.{Ending, Missing, Refused, Accepted, JudgesOne, Judges, JudgesMade, rack_seen_judged}
use Rattle.mind_inputs.specs.Journals.{Checkable, JudgesCheck}
use Rattle.mind_inputs.specs.Texts.{text_seen_judged, words_seen_judged}
use Rattle.rv32_text.specs.Image.{image_words}
use Rattle.rv32_text.specs.Written.{disassembled}
use Rattle.mind_inputs.proofs.Callers.{one-is, judges-judge, judges-made, only}
use Rattle.mind_top.specs.Words.{Form, Run, Check, Make, Load, Asm, Dis, IsForm, IsCheckForm, IsMakeForm, IsLoadForm, IsAsmForm, IsDisForm, RunsNothing, IsNoForm}
use Rattle.mind_top.specs.Due.{IsWhole, DoneBy, IsEndedBy, IsRunBy, Due, StopsRun, status_of_ending, status_of, status_of_replay, CallFor, IsSaid, IsAnswered, MayStop, Decides}
use Rattle.mind_top.specs.Ending.{Counts, EndsWith}
use Rattle.mind_top.specs.Headline.{RunWrites, Headline}
use Rattle.mind_top.specs.Left.{Left, LeavesNothing}
use Rattle.mind_top.specs.declared.words.Output.{Output}
use Rattle.mind_top.specs.declared.statuses.Status.{Status}
use Rattle.mind_top.specs.declared.statuses.Status.TheVariants as status
use Rattle.mind_top.proofs.Forms.{same-form, no-form}

-- ---- the text of each form

done-by : (holds : Option Files) (words : List (List ℕ)) (left : Left) (before now : Counts) (old new : Option (List ℕ)) (result : Status) (form : Form)
    → EndsWith holds words left before now old new result → IsForm words form → result ≡ status.Done → (text : List ℕ) × DoneBy holds form left text × Appends old new text
done-by holds words left before now old new result form ends is done =
    let P : Status → Type 0 = λ s. EndsWith holds words left before now old new s in
    let (text, (found, also, by), appends) = subst P done ends in
    let Q : Form → Type 0 = λ f. DoneBy holds f left text in
    (text, subst Q (same-form words found form also is) by, appends)

pub run-done : (holds : Option Files) (words : List (List ℕ)) (left : Left) (before now : Counts) (old new : Option (List ℕ)) (result : Status) (output : Output)
    → EndsWith holds words left before now old new result → (paths : Paths) → IsForm words (Run output paths) → result ≡ status.Done
    → (accepted : Accepted) × Judges holds paths (Ok accepted) × (text : List ℕ) × RunWrites output accepted left text × Appends old new text
run-done holds words left before now old new result output ends paths is done =
    let (text, (accepted, judges, writes), appends) = done-by holds words left before now old new result (Run output paths) ends is done in
    (accepted, judges, text, writes, appends)

pub check-done : (holds : Option Files) (words : List (List ℕ)) (left : Left) (before now : Counts) (old new : Option (List ℕ)) (result : Status)
    → EndsWith holds words left before now old new result → (paths : Paths) (journal : List ℕ) → IsCheckForm words paths journal → result ≡ status.Done
    → (inputs : Checkable) × JudgesCheck holds paths journal (Ok inputs) × (text : List ℕ) × IsWhole inputs text × Appends old new text
check-done holds words left before now old new result ends paths journal is done =
    let (text, (inputs, judges, whole, empty), appends) = done-by holds words left before now old new result (Check paths journal) ends is done in
    (inputs, judges, text, whole, appends)

pub make-done : (holds : Option Files) (words : List (List ℕ)) (left : Left) (before now : Counts) (old new : Option (List ℕ)) (result : Status)
    → EndsWith holds words left before now old new result → (rack : List ℕ) (count seed : ℕ) → IsMakeForm words rack count seed → result ≡ status.Done
    → (plan : RackPlan) × JudgesOne holds rack 65536 rack_seen_judged (Ok plan) × Appends old new (generated_text plan count seed)
make-done holds words left before now old new result ends rack count seed is done =
    let (text, (plan, judges, made, empty), appends) = done-by holds words left before now old new result (Make rack count seed) ends is done in
    let P : List ℕ → Type 0 = λ t. Appends old new t in
    (plan, judges, subst P made appends)

pub load-done : (holds : Option Files) (words : List (List ℕ)) (left : Left) (before now : Counts) (old new : Option (List ℕ)) (result : Status)
    → EndsWith holds words left before now old new result → (rack : List ℕ) (count seed : ℕ) → IsLoadForm words rack count seed → result ≡ status.Done
    → (accepted : Accepted) × JudgesMade holds rack count seed (Ok accepted) × (text : List ℕ) × Headline accepted left text × Appends old new text
load-done holds words left before now old new result ends rack count seed is done =
    let (text, (accepted, judges, writes), appends) = done-by holds words left before now old new result (Load rack count seed) ends is done in
    (accepted, judges, text, writes, appends)

pub asm-done : (holds : Option Files) (words : List (List ℕ)) (left : Left) (before now : Counts) (old new : Option (List ℕ)) (result : Status)
    → EndsWith holds words left before now old new result → (name : List ℕ) → IsAsmForm words name → result ≡ status.Done
    → (image : List ℕ) × JudgesOne holds name 4194304 text_seen_judged (Ok image) × Appends old new image
asm-done holds words left before now old new result ends name is done =
    let (text, (judges, empty), appends) = done-by holds words left before now old new result (Asm name) ends is done in
    (text, judges, appends)

pub dis-done : (holds : Option Files) (words : List (List ℕ)) (left : Left) (before now : Counts) (old new : Option (List ℕ)) (result : Status)
    → EndsWith holds words left before now old new result → (name : List ℕ) → IsDisForm words name → result ≡ status.Done
    → (image : List ℕ) × JudgesOne holds name 65536 words_seen_judged (Ok image) × Appends old new (disassembled (image_words image))
dis-done holds words left before now old new result ends name is done =
    let (text, (image, judges, lines, empty), appends) = done-by holds words left before now old new result (Dis name) ends is done in
    let P : List ℕ → Type 0 = λ t. Appends old new t in
    (image, judges, subst P lines appends)

-- ---- what forms leave that run no schedule

run-nothing : (holds : Option Files) (form : Form) (accepted : Accepted) → IsRunBy holds form accepted → RunsNothing form → ⊥
run-nothing holds (Run output paths) accepted by none = none
run-nothing holds (Check paths journal) accepted by none = by
run-nothing holds (Make rack count seed) accepted by none = by
run-nothing holds (Load rack count seed) accepted by none = none
run-nothing holds (Asm text) accepted by none = by
run-nothing holds (Dis image) accepted by none = by

done-leaves : (holds : Option Files) (form : Form) (left : Left) (text : List ℕ) → DoneBy holds form left text → RunsNothing form → LeavesNothing left
done-leaves holds (Run output paths) left text done none = absurd none
done-leaves holds (Check paths journal) left text (inputs, judges, whole, nothing) none = nothing
done-leaves holds (Make rack count seed) left text (plan, judges, made, nothing) none = nothing
done-leaves holds (Load rack count seed) left text done none = absurd none
done-leaves holds (Asm name) left text (judges, nothing) none = nothing
done-leaves holds (Dis name) left text (image, judges, lines, nothing) none = nothing

not-run : (holds : Option Files) (words : List (List ℕ)) (found form : Form) (accepted : Accepted) → IsForm words found → IsRunBy holds found accepted → IsForm words form → RunsNothing form → ⊥
not-run holds words found form accepted also by is none =
    let P : Form → Type 0 = λ f. IsRunBy holds f accepted in run-nothing holds form accepted (subst P (same-form words found form also is) by) none

due-leaves : (holds : Option Files) (words : List (List ℕ)) (left : Left) (s : Status) (text : List ℕ) (form : Form) → Due holds words left s text → IsForm words form → RunsNothing form
    → LeavesNothing left
due-leaves holds words left status.Done text form (found, also, by) is none =
    let P : Form → Type 0 = λ f. DoneBy holds f left text in done-leaves holds form left text (subst P (same-form words found form also is) by) none
due-leaves holds words left status.Usage text form (others, nothing, line) is none = nothing
due-leaves holds words left status.Malformed text form (found, also, refusal, by, nothing, line) is none = nothing
due-leaves holds words left status.NotARun text form (others, other, also, inputs, judges, label, stuck, nothing, line) is none = nothing
due-leaves holds words left status.ReadFault text form due is none = absurd due
due-leaves holds words left status.WriteFault text form due is none = absurd due
due-leaves holds words left status.NoMemory text form due is none = absurd due
due-leaves holds words left status.Spent text form due is none = absurd due

pub form-leaves : (holds : Option Files) (words : List (List ℕ)) (left : Left) (before now : Counts) (old new : Option (List ℕ)) (result : Status)
    → EndsWith holds words left before now old new result → (form : Form) → IsForm words form → RunsNothing form → LeavesNothing left
form-leaves holds words left before now old new status.Done (text, due, appends) form is none = due-leaves holds words left status.Done text form due is none
form-leaves holds words left before now old new status.Usage (text, due, appends) form is none = due-leaves holds words left status.Usage text form due is none
form-leaves holds words left before now old new status.Malformed (text, due, appends) form is none = due-leaves holds words left status.Malformed text form due is none
form-leaves holds words left before now old new status.NotARun (text, due, appends) form is none = due-leaves holds words left status.NotARun text form due is none
form-leaves holds words left before now old new status.ReadFault (found, also, rises, told, nothing, kept) form is none = nothing
form-leaves holds words left before now old new status.WriteFault (failure, s, text, due, front) form is none = due-leaves holds words left s text form due is none
form-leaves holds words left before now old new status.NoMemory (some, (no_rack, inl empty), kept) form is none = (empty, no_rack)
form-leaves holds words left before now old new status.NoMemory (some, (no_rack, inr (found, also, accepted, by, stands)), kept) form is none =
    absurd (not-run holds words found form accepted also by is none)
form-leaves holds words left before now old new status.Spent ((found, also, accepted, by, stopped), kept) form is none = absurd (not-run holds words found form accepted also by is none)

-- ---- a run that stopped

pub run-stops : (holds : Option Files) (words : List (List ℕ)) (left : Left) (before now : Counts) (old new : Option (List ℕ)) (result : Status)
    → EndsWith holds words left before now old new result → result ≡ status.Spent → StopsRun holds words left × (new ≡ old)
run-stops holds words left before now old new result ends spent =
    let P : Status → Type 0 = λ s. EndsWith holds words left before now old new s in subst P spent ends

-- ---- words of no form

pub usage-answered : (holds : Option Files) (words : List (List ℕ)) (left : Left) (before now : Counts) (old new : Option (List ℕ)) (result : Status)
    → EndsWith holds words left before now old new result → IsNoForm words → IsAnswered before.failed now.failed status.Usage result
usage-answered holds words left before now old new status.Done (text, (found, also, by), appends) none = absurd (no-form words found none also)
usage-answered holds words left before now old new status.Usage ends none = inl refl
usage-answered holds words left before now old new status.Malformed (text, (found, also, refusal, by, empty, line), appends) none = absurd (no-form words found none also)
usage-answered holds words left before now old new status.NotARun (text, (paths, journal, also, inputs, judges, label, stuck, empty, line), appends) none = absurd (no-form words (Check paths journal) none also)
usage-answered holds words left before now old new status.ReadFault (found, also, rises, told, empty, kept) none = absurd (no-form words found none also)
usage-answered holds words left before now old new status.WriteFault (failure, s, text, due, front) none = inr (refl, tt, failure)
usage-answered holds words left before now old new status.NoMemory ((found, also), stands, kept) none = absurd (no-form words found none also)
usage-answered holds words left before now old new status.Spent ((found, also, accepted, by, stopped), kept) none = absurd (no-form words found none also)

-- ---- where the store tells what it holds, the files decide the status

pub done-called : (files : Files) (form : Form) (left : Left) (text : List ℕ) → DoneBy (Some files) form left text → CallFor files form status.Done
done-called files (Run output paths) left text (accepted, judges, writes) = ap status_of (judges-judge files paths (Ok accepted) judges)
done-called files (Check paths journal) left text (inputs, judges, (state, whole, report), empty) = (Ok inputs, only files paths journal (Ok inputs) judges, ap status_of_replay (sym whole))
done-called files (Make rack count seed) left text (plan, judges, made, empty) = ap status_of (one-is files rack 65536 rack_seen_judged (Ok plan) judges)
done-called files (Load rack count seed) left text (accepted, judges, writes) = ap status_of (judges-made files rack count seed (Ok accepted) judges)
done-called files (Asm name) left text (judges, empty) = ap status_of (one-is files name 4194304 text_seen_judged (Ok text) judges)
done-called files (Dis name) left text (image, judges, lines, empty) = ap status_of (one-is files name 65536 words_seen_judged (Ok image) judges)

ends-called : (files : Files) (form : Form) (ending : Ending) → IsEndedBy (Some files) form ending → CallFor files form (status_of_ending ending)
ends-called files (Run output paths) ending judges = ap status_of (judges-judge files paths (Err ending) judges)
ends-called files (Check paths journal) ending judges = (Err ending, only files paths journal (Err ending) judges, refl)
ends-called files (Make rack count seed) ending judges = ap status_of (one-is files rack 65536 rack_seen_judged (Err ending) judges)
ends-called files (Load rack count seed) ending judges = ap status_of (judges-made files rack count seed (Err ending) judges)
ends-called files (Asm name) ending judges = ap status_of (one-is files name 4194304 text_seen_judged (Err ending) judges)
ends-called files (Dis name) ending judges = ap status_of (one-is files name 65536 words_seen_judged (Err ending) judges)

-- inputs that are run call for the end of a run, which may stop
run-called : (files : Files) (form : Form) (accepted : Accepted) → IsRunBy (Some files) form accepted → CallFor files form status.Done × MayStop form status.Done
run-called files (Run output paths) accepted judges = (ap status_of (judges-judge files paths (Ok accepted) judges), refl)
run-called files (Check paths journal) accepted by = absurd by
run-called files (Make rack count seed) accepted by = absurd by
run-called files (Asm text) accepted by = absurd by
run-called files (Dis image) accepted by = absurd by
run-called files (Load rack count seed) accepted judges = (ap status_of (judges-made files rack count seed (Ok accepted) judges), refl)

called-as : (files : Files) (words : List (List ℕ)) (found form : Form) (s : Status) → IsForm words found → IsForm words form → CallFor files found s → CallFor files form s
called-as files words found form s also is called = let Q : Form → Type 0 = λ f. CallFor files f s in subst Q (same-form words found form also is) called

-- what is due is what the files call for
due-called : (files : Files) (words : List (List ℕ)) (left : Left) (text : List ℕ) (due : Status) (form : Form) → Due (Some files) words left due text → IsForm words form
    → CallFor files form due × IsSaid due
due-called files words left text status.Done form (found, also, by) is = (called-as files words found form status.Done also is (done-called files found left text by), tt)
due-called files words left text status.Usage form (none, empty, line) is = absurd (no-form words form none is)
due-called files words left text status.Malformed form (found, also, refusal, by, empty, line) is =
    (called-as files words found form status.Malformed also is (ends-called files found (Refused refusal) by), tt)
due-called files words left text status.NotARun form (paths, journal, also, inputs, judges, label, (state, at_label), empty, line) is =
    (called-as files words (Check paths journal) form status.NotARun also is (Ok inputs, only files paths journal (Ok inputs) judges, ap status_of_replay (sym at_label)), tt)
due-called files words left text status.ReadFault form due is = absurd due
due-called files words left text status.WriteFault form due is = absurd due
due-called files words left text status.NoMemory form due is = absurd due
due-called files words left text status.Spent form due is = absurd due

told : (files : Files) (words : List (List ℕ)) (left : Left) (before now : Counts) (old new : Option (List ℕ)) (result : Status)
    → EndsWith (Some files) words left before now old new result → (form : Form) → IsForm words form → ¬ (Rises before.faults now.faults) → Decides files form before.failed now.failed result
told files words left before now old new status.Done (text, due, appends) form is no_fault = inr (status.Done, (due-called files words left text status.Done form due is).0, inl (inl refl))
told files words left before now old new status.Usage (text, due, appends) form is no_fault = inr (status.Usage, (due-called files words left text status.Usage form due is).0, inl (inl refl))
told files words left before now old new status.Malformed (text, due, appends) form is no_fault =
    inr (status.Malformed, (due-called files words left text status.Malformed form due is).0, inl (inl refl))
told files words left before now old new status.NotARun (text, due, appends) form is no_fault = inr (status.NotARun, (due-called files words left text status.NotARun form due is).0, inl (inl refl))
told files words left before now old new status.ReadFault (found, also, rises, inl fault, empty, kept) form is no_fault = absurd (no_fault fault)
told files words left before now old new status.ReadFault (found, also, rises, inr by, empty, kept) form is no_fault =
    inr (status.ReadFault, called-as files words found form status.ReadFault also is (ends-called files found Missing by), inl (inl refl))
told files words left before now old new status.WriteFault (failure, s, text, due, front) form is no_fault =
    let called = due-called files words left text s form due is in inr (s, called.0, inl (inr (refl, called.1, failure)))
told files words left before now old new status.NoMemory ends form is no_fault = inl refl
told files words left before now old new status.Spent ((found, also, accepted, by, stopped), kept) form is no_fault =
    let called = run-called files found accepted by in
    let Q : Form → Type 0 = λ f. MayStop f status.Done in
    inr (status.Done, called-as files words found form status.Done also is called.0, inr (refl, subst Q (same-form words found form also is) called.1))

pub told-where-held : (holds : Option Files) (words : List (List ℕ)) (left : Left) (before now : Counts) (old new : Option (List ℕ)) (result : Status)
    → EndsWith holds words left before now old new result
    → IfSome holds (λ files. (form : Form) → IsForm words form → ¬ (Rises before.faults now.faults) → Decides files form before.failed now.failed result)
told-where-held (Some files) words left before now old new result ends = told files words left before now old new result ends
told-where-held None words left before now old new result ends = tt
