-- From the parts of a call to how it ends.
use Rattle.std.proofs.Common.{◌≡◌, ℕ, inl, inr, List, sym, refl, subst, Option, None, Result, Ok, Err, []}
use Rattle.mind_base.specs.Store.{Files}
use Rattle.mind_base.specs.Sink.{Appends}
use Rattle.mind_base.specs.declared.notes.Note.{Note}
use Rattle.mind_base.specs.declared.plans.RackPlan.{RackPlan}
use Rattle.rack_gen.specs.Generator.{generated_text}
use Rattle.mind_inputs.specs.Words.{Paths}
use Rattle.mind_inputs.specs.Refusal.{line_of}
use Rattle.mind_inputs.specs.Inputs.{Accepted, Judged, JudgesOne, Judges, JudgesMade, rack_seen_judged}
use Rattle.mind_inputs.specs.Journals.{Checkable, JudgesCheck}
use Rattle.mind_inputs.specs.Texts.{text_seen_judged, words_seen_judged}
use Rattle.mind_inputs.specs.Loading.{StopsBy, Brings}
use Rattle.mind_inputs.specs.declared.stopped.Stopped.{Stopped}
use Rattle.mind_inputs.specs.declared.stopped.Stopped.TheVariants as stopped
use Rattle.rv32_text.specs.Image.{image_words}
use Rattle.rv32_text.specs.Written.{disassembled}
use Rattle.mind_top.specs.Words.{Form, Run, Check, Make, Load, Asm, Dis, IsForm}
use Rattle.mind_top.specs.Due.{DoneBy, IsEndedBy, IsRunBy, Due, not_a_run_line}
use Rattle.mind_top.specs.Ending.{Counts, EndsWith}
use Rattle.mind_top.specs.Headline.{RunWrites}
use Rattle.mind_top.specs.Left.{Left, LeavesNothing}
use Rattle.mind_top.specs.Parts.{SaysText, SaysLine, Stops, RunEnds, LoadedEnds, CheckEnds}
use Rattle.mind_top.specs.declared.words.Output.{Output}
use Rattle.mind_top.specs.declared.words.Output.TheVariants.{Report}
use Rattle.mind_top.specs.declared.statuses.Status.{Status}
use Rattle.mind_top.specs.declared.statuses.Status.TheVariants as status

-- ---- what was due was written, or the write failed

due-written : (holds : Option Files) (words : List (List ℕ)) (left : Left) (before now : Counts) (old new : Option (List ℕ)) (text : List ℕ) (due : Status)
    → Due holds words left due text → Appends old new text → EndsWith holds words left before now old new due
due-written holds words left before now old new text status.Done due appends = (text, due, appends)
due-written holds words left before now old new text status.Usage due appends = (text, due, appends)
due-written holds words left before now old new text status.Malformed due appends = (text, due, appends)
due-written holds words left before now old new text status.NotARun due appends = (text, due, appends)
due-written holds words left before now old new text status.ReadFault due appends = absurd due
due-written holds words left before now old new text status.WriteFault due appends = absurd due
due-written holds words left before now old new text status.NoMemory due appends = absurd due
due-written holds words left before now old new text status.Spent due appends = absurd due

pub said : (holds : Option Files) (words : List (List ℕ)) (left : Left) (before now : Counts) (old new : Option (List ℕ)) (text : List ℕ) (due result : Status)
    → Due holds words left due text → SaysText old new before.failed now.failed text due result → EndsWith holds words left before now old new result
said holds words left before now old new text due result is_due (inl (same, appends)) =
    let P : Status → Type 0 = λ s. EndsWith holds words left before now old new s in
    subst P (sym same) (due-written holds words left before now old new text due is_due appends)
said holds words left before now old new text due result is_due (inr (fault, rises, front)) =
    let P : Status → Type 0 = λ s. EndsWith holds words left before now old new s in
    subst P (sym fault) (rises, due, text, is_due, front)

-- the same of a line, for which there may be no memory
said-line : (holds : Option Files) (words : List (List ℕ)) (form : Form) (left : Left) (before now : Counts) (old new : Option (List ℕ)) (text : List ℕ) (due result : Status)
    → LeavesNothing left → IsForm words form → Due holds words left due text → SaysLine old new before.failed now.failed text due result → EndsWith holds words left before now old new result
said-line holds words form left before now old new text due result empty is is_due (inl (none, kept)) =
    let P : Status → Type 0 = λ s. EndsWith holds words left before now old new s in subst P (sym none) ((form, is), (empty.1, inl empty.0), kept)
said-line holds words form left before now old new text due result empty is is_due (inr says) = said holds words left before now old new text due result is_due says

-- ---- an input was not brought

pub stopped-call : (holds : Option Files) (words : List (List ℕ)) (form : Form) (left : Left) (before now : Counts) (old new : Option (List ℕ)) (why : Stopped) (result : Status)
    → LeavesNothing left → IsForm words form → StopsBy holds (λ ending. IsEndedBy holds form ending) before.faults now.faults before.missed now.missed why
    → Stops old new before.failed now.failed why result → EndsWith holds words left before now old new result
stopped-call holds words form left before now old new (stopped.Refused refusal) result empty is stops says =
    said-line holds words form left before now old new (line_of refusal) status.Malformed result empty is (form, is, refusal, stops.0, empty, refl) says
stopped-call holds words form left before now old new stopped.ReadFault result empty is (rises, told) (same, kept) =
    let P : Status → Type 0 = λ s. EndsWith holds words left before now old new s in subst P (sym same) (form, is, rises, told, empty, kept)
stopped-call holds words form left before now old new stopped.NoMemory result empty is stops (same, kept) =
    let P : Status → Type 0 = λ s. EndsWith holds words left before now old new s in subst P (sym same) ((form, is), (empty.1, inl empty.0), kept)

-- ---- a run

-- the inputs of this form were run, and what a run writes is what is due
ran-ended : (holds : Option Files) (words : List (List ℕ)) (form : Form) (output : Output) (accepted : Accepted) (left : Left) (before now : Counts) (old new : Option (List ℕ)) (result : Status)
    → IsForm words form → IsRunBy holds form accepted → ((text : List ℕ) → RunWrites output accepted left text → DoneBy holds form left text)
    → RunEnds output accepted left old new before.failed now.failed result → EndsWith holds words left before now old new result
ran-ended holds words form output accepted left before now old new result is by done (inl (none, kept, no_rack, stands)) =
    let P : Status → Type 0 = λ s. EndsWith holds words left before now old new s in
    subst P (sym none) ((form, is), (no_rack, inr (form, is, accepted, by, stands)), kept)
ran-ended holds words form output accepted left before now old new result is by done (inr (inl (spent, kept, stopped))) =
    let P : Status → Type 0 = λ s. EndsWith holds words left before now old new s in
    subst P (sym spent) ((form, is, accepted, by, stopped), kept)
ran-ended holds words form output accepted left before now old new result is by done (inr (inr (text, writes, says))) =
    said holds words left before now old new text status.Done result (form, is, done text writes) says

-- the inputs of a form were brought to be run, or were not
answered : (holds : Option Files) (words : List (List ℕ)) (form : Form) (output : Output) (judges : Judged → Type 0) (loaded : Result Accepted Stopped) (left : Left) (before now : Counts)
    (old new : Option (List ℕ)) (result : Status) → IsForm words form
    → ((accepted : Accepted) → judges (Ok accepted) → IsRunBy holds form accepted × ((text : List ℕ) → RunWrites output accepted left text → DoneBy holds form left text))
    → ((why : Stopped) → StopsBy holds (λ ending. judges (Err ending)) before.faults now.faults before.missed now.missed why
    → StopsBy holds (λ ending. IsEndedBy holds form ending) before.faults now.faults before.missed now.missed why)
    → Brings holds judges before.faults now.faults before.missed now.missed loaded → LoadedEnds output left old new before.failed now.failed result loaded
    → EndsWith holds words left before now old new result
answered holds words form output judges (Ok accepted) left before now old new result is runs stops loads ends =
    let its = runs accepted loads.0 in
    ran-ended holds words form output accepted left before now old new result is its.0 its.1 ends
answered holds words form output judges (Err why) left before now old new result is runs stops loads ends =
    stopped-call holds words form left before now old new why result ends.0 is (stops why loads) ends.1

pub run-answered : (holds : Option Files) (words : List (List ℕ)) (output : Output) (paths : Paths) (loaded : Result Accepted Stopped) (left : Left) (before now : Counts) (old new : Option (List ℕ)) (result : Status)
    → IsForm words (Run output paths) → Brings holds (Judges holds paths) before.faults now.faults before.missed now.missed loaded
    → LoadedEnds output left old new before.failed now.failed result loaded → EndsWith holds words left before now old new result
run-answered holds words output paths loaded left before now old new result is =
    answered holds words (Run output paths) output (Judges holds paths) loaded left before now old new result is
    (λ accepted judges. (judges, λ text writes. (accepted, judges, writes))) (λ why stops. stops)

pub load-answered : (holds : Option Files) (words : List (List ℕ)) (rack : List ℕ) (count seed : ℕ) (loaded : Result Accepted Stopped) (left : Left) (before now : Counts) (old new : Option (List ℕ)) (result : Status)
    → IsForm words (Load rack count seed) → Brings holds (JudgesMade holds rack count seed) before.faults now.faults before.missed now.missed loaded
    → LoadedEnds Report left old new before.failed now.failed result loaded → EndsWith holds words left before now old new result
load-answered holds words rack count seed loaded left before now old new result is =
    answered holds words (Load rack count seed) Report (JudgesMade holds rack count seed) loaded left before now old new result is
    (λ accepted judges. (judges, λ text writes. (accepted, judges, writes))) (λ why stops. stops)

pub run-said : (output : Output) (accepted : Accepted) (left : Left) (old new : Option (List ℕ)) (failed failed' : ℕ) (said text : List ℕ) (result : Status) → RunWrites output accepted left text
    → said ≡ text → SaysText old new failed failed' said status.Done result → RunEnds output accepted left old new failed failed' result
run-said output accepted left old new failed failed' said text result writes same says =
    let P : List ℕ → Type 0 = λ t. SaysText old new failed failed' t status.Done result in inr (inr (text, writes, subst P same says))

-- ---- a check

-- which leaves nothing
abbrev pub nothing : Left
nothing = record { log = []; end = None }

pub check-ended : (holds : Option Files) (words : List (List ℕ)) (paths : Paths) (journal : List ℕ) (inputs : Checkable) (before now : Counts) (old new : Option (List ℕ)) (result : Status)
    → IsForm words (Check paths journal) → JudgesCheck holds paths journal (Ok inputs) → CheckEnds inputs old new before.failed now.failed result
    → EndsWith holds words nothing before now old new result
check-ended holds words paths journal inputs before now old new result is judges (inl (none, kept)) =
    let P : Status → Type 0 = λ s. EndsWith holds words nothing before now old new s in subst P (sym none) ((Check paths journal, is), (refl, inl refl), kept)
check-ended holds words paths journal inputs before now old new result is judges (inr (inl (text, whole, says))) =
    said holds words nothing before now old new text status.Done result (Check paths journal, is, (inputs, judges, whole, (refl, refl))) says
check-ended holds words paths journal inputs before now old new result is judges (inr (inr (label, stuck, says))) =
    said-line holds words (Check paths journal) nothing before now old new (not_a_run_line label) status.NotARun result (refl, refl) is
    (paths, journal, is, inputs, judges, label, stuck, (refl, refl), refl) says

-- ---- a schedule that is made

pub make-ended : (holds : Option Files) (words : List (List ℕ)) (rack : List ℕ) (count seed : ℕ) (plan : RackPlan) (before now : Counts) (old new : Option (List ℕ)) (result : Status)
    → IsForm words (Make rack count seed) → JudgesOne holds rack 65536 rack_seen_judged (Ok plan)
    → SaysLine old new before.failed now.failed (generated_text plan count seed) status.Done result → EndsWith holds words nothing before now old new result
make-ended holds words rack count seed plan before now old new result is judges says =
    said-line holds words (Make rack count seed) nothing before now old new (generated_text plan count seed) status.Done result (refl, refl) is
    (Make rack count seed, is, (plan, judges, refl, (refl, refl))) says

-- ---- a text of instructions and an image

pub asm-ended : (holds : Option Files) (words : List (List ℕ)) (name image said_image : List ℕ) (before now : Counts) (old new : Option (List ℕ)) (result : Status)
    → IsForm words (Asm name) → JudgesOne holds name 4194304 text_seen_judged (Ok image) → said_image ≡ image
    → SaysText old new before.failed now.failed said_image status.Done result → EndsWith holds words nothing before now old new result
asm-ended holds words name image said_image before now old new result is judges same says =
    let P : List ℕ → Type 0 = λ t. SaysText old new before.failed now.failed t status.Done result in
    said holds words nothing before now old new image status.Done result (Asm name, is, (judges, (refl, refl))) (subst P same says)

pub dis-ended : (holds : Option Files) (words : List (List ℕ)) (name image slice : List ℕ) (before now : Counts) (old new : Option (List ℕ)) (result : Status)
    → IsForm words (Dis name) → JudgesOne holds name 65536 words_seen_judged (Ok image) → slice ≡ image
    → SaysLine old new before.failed now.failed (disassembled (image_words slice)) status.Done result → EndsWith holds words nothing before now old new result
dis-ended holds words name image slice before now old new result is judges same says =
    let P : List ℕ → Type 0 = λ t. SaysLine old new before.failed now.failed (disassembled (image_words t)) status.Done result in
    said-line holds words (Dis name) nothing before now old new (disassembled (image_words image)) status.Done result (refl, refl) is
    (Dis name, is, (image, judges, refl, (refl, refl))) (subst P same says)

-- a log that stayed empty, and no rack
pub with-nothing : (holds : Option Files) (words : List (List ℕ)) (log : List Note) (before now : Counts) (old new : Option (List ℕ)) (result : Status)
    → log ≡ [] → EndsWith holds words nothing before now old new result → EndsWith holds words (record { log = log; end = None }) before now old new result
with-nothing holds words log before now old new result empty ends =
    let P : List Note → Type 0 = λ l. EndsWith holds words (record { log = l; end = None }) before now old new result in subst P (sym empty) ends

-- a line that was said in another spelling
pub line-said : (old new : Option (List ℕ)) (failed failed' : ℕ) (said text : List ℕ) (due result : Status) → said ≡ text → SaysText old new failed failed' said due result
    → SaysLine old new failed failed' text due result
line-said old new failed failed' said text due result same says =
    let P : List ℕ → Type 0 = λ t. SaysText old new failed failed' t due result in inr (subst P same says)
