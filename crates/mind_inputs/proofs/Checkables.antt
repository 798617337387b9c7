-- A journal is read and judged behind the inputs of a run.
use Rattle.std.proofs.Common.{◌≡◌, ℕ, ◌≤◌, ◌∙◌, List, ap, sym, refl, subst, Option, Some, Result, Ok, Err}
use Rattle.mind_base.specs.Log.{LogView}
use Rattle.mind_base.specs.Store.{Files}
use Rattle.mind_base.specs.declared.notes.Note.{Note}
use Rattle.journal_text.specs.declared.refusals.JournalFault.{JournalFault}
use Rattle.journal_text.proofs.Callers.{one}
use Rattle.mind_inputs.specs.Inputs.{Seen, Absent, Long, Bytes, Ending, Refused, Judged, Accepted, SeesFile, Judges}
use Rattle.mind_inputs.specs.Journals.{IsJournal, JudgedJournal, GivesJournal, JudgesJournal, Checkable, AfterJournal, AfterRun, JudgesCheck, IsOnlyJudgement, notes_of}
use Rattle.mind_inputs.specs.Loading.{Stays, StopsBy, Brings}
use Rattle.mind_inputs.specs.Words.{Paths}
use Rattle.mind_inputs.specs.declared.refusals.Refusal.TheVariants.{JournalRefused}
use Rattle.mind_inputs.specs.declared.stopped.Stopped.{Stopped}
use Rattle.mind_inputs.specs.declared.stopped.Stopped.TheVariants as stopped
use Rattle.mind_inputs.proofs.Chains.{stays-on, stops-at, stops-so, judges-judge}

-- the bytes of a journal that was read are judged as the code answers
pub brings-journal : (holds : Option Files) (name : List ℕ) (f f' m m' : ℕ) (bytes : List ℕ) (result : Result LogView Stopped)
    → SeesFile holds name 268435456 (Bytes bytes) → GivesJournal bytes result → Stays f f' m m' → Brings holds (JudgesJournal holds name) f f' m m' (notes_of result)
brings-journal holds name f f' m m' bytes (Ok log) reads gives stays = ((Bytes bytes, reads, gives), stays)
brings-journal holds name f f' m m' bytes (Err (stopped.Refused refusal)) reads gives stays = ((Bytes bytes, reads, gives), stays)
brings-journal holds name f f' m m' bytes (Err stopped.ReadFault) reads gives stays = absurd gives
brings-journal holds name f f' m m' bytes (Err stopped.NoMemory) reads gives stays = stays

-- what stops the inputs of a run stops a check
pub run-stops : (h : Option Files) (p : Paths) (journal : List ℕ) (f f' m m' : ℕ) (why : Stopped) → StopsBy h (λ ending. Judges h p (Err ending)) f f' m m' why
    → StopsBy h (λ ending. JudgesCheck h p journal (Err ending)) f f' m m' why
run-stops h p journal f f' m m' why stops =
    stops-so h (λ ending. Judges h p (Err ending)) (λ ending. JudgesCheck h p journal (Err ending)) f f' m m' why (λ ending judges. (Err ending, judges, refl)) stops

-- what stops the journal stops the check
pub journal-stops : (h h1 : Option Files) (p : Paths) (journal : List ℕ) (accepted : Accepted) (f f1 f2 m m1 m2 : ℕ) (why : Stopped) → h1 ≡ h
    → Judges h p (Ok accepted) × Stays f f1 m m1 → StopsBy h1 (λ ending. JudgesJournal h1 journal (Err ending)) f1 f2 m1 m2 why
    → StopsBy h (λ ending. JudgesCheck h p journal (Err ending)) f f2 m m2 why
journal-stops h h1 p journal accepted f f1 f2 m m1 m2 why same (judges, stays) stops =
    stops-at h h1 (λ o ending. JudgesJournal o journal (Err ending)) (λ ending. JudgesCheck h p journal (Err ending)) f f1 f2 m m1 m2 why same stays
    (λ ending part. (Ok accepted, judges, (Err ending, part, refl))) stops

pub all-read : (h h1 : Option Files) (p : Paths) (journal : List ℕ) (accepted : Accepted) (notes : List Note) (f f1 f2 m m1 m2 : ℕ) → h1 ≡ h
    → Judges h p (Ok accepted) × Stays f f1 m m1 → JudgesJournal h1 journal (Ok notes) × Stays f1 f2 m1 m2
    → JudgesCheck h p journal (Ok (record { accepted = accepted; notes = notes })) × Stays f f2 m m2
all-read h h1 p journal accepted notes f f1 f2 m m1 m2 same (judges, first) (last, second) =
    let P : Option Files → Type 0 = λ o. JudgesJournal o journal (Ok notes) in
    ((Ok accepted, judges, (Ok notes, subst P same last, refl)), stays-on f f1 f2 m m1 m2 first second)

-- ---- where the store tells what it holds, a check has one judgement

abbrev journal-answer : Result (List Note) (ℕ × JournalFault) → Result (List Note) Ending
journal-answer (Ok notes) = Ok notes
journal-answer (Err (line, what)) = Err (Refused (JournalRefused line what))

one-journal : (bytes : List ℕ) (a b : Result (List Note) Ending) → IsJournal bytes a → IsJournal bytes b → a ≡ b
one-journal bytes (Ok ns) (Ok ms) p q = ap journal-answer (one bytes (Ok ns) (Ok ms) p q)
one-journal bytes (Ok ns) (Err e) p (line, what, is, fault) = ap journal-answer (one bytes (Ok ns) (Err (line, what)) p fault) ∙ ap (λ x. Err x) (sym is)
one-journal bytes (Err e) (Ok ns) (line, what, is, fault) p = ap (λ x. Err x) is ∙ ap journal-answer (one bytes (Err (line, what)) (Ok ns) fault p)
one-journal bytes (Err e) (Err f) (line, what, is, fault) (other, why, also, again) =
    ap (λ x. Err x) is ∙ ap journal-answer (one bytes (Err (line, what)) (Err (other, why)) fault again) ∙ ap (λ x. Err x) (sym also)

one-seen : (seen : Seen) (a b : Result (List Note) Ending) → JudgedJournal seen a → JudgedJournal seen b → a ≡ b
one-seen Absent a b p q = p ∙ sym q
one-seen Long a b p q = p ∙ sym q
one-seen (Bytes bytes) a b p q = one-journal bytes a b p q

one-name : (files : Files) (name : List ℕ) (a b : Result (List Note) Ending) → JudgesJournal (Some files) name a → JudgesJournal (Some files) name b → a ≡ b
one-name files name a b (seen, reads, p) (other, also, q) =
    let P : Seen → Type 0 = λ s. JudgedJournal s b in one-seen seen a b p (subst P (sym also ∙ reads) q)

after-journal : (accepted : Accepted) (notes : Result (List Note) Ending) (a b : Result Checkable Ending) → AfterJournal accepted notes a → AfterJournal accepted notes b → a ≡ b
after-journal accepted (Ok notes) a b p q = p ∙ sym q
after-journal accepted (Err ending) a b p q = p ∙ sym q

after-run : (files : Files) (journal : List ℕ) (j : Judged) (a b : Result Checkable Ending) → AfterRun (Some files) journal j a → AfterRun (Some files) journal j b → a ≡ b
after-run files journal (Err ending) a b p q = p ∙ sym q
after-run files journal (Ok accepted) a b (notes, judges, p) (other, also, q) =
    let P : Result (List Note) Ending → Type 0 = λ r. AfterJournal accepted r b in
    after-journal accepted notes a b p (subst P (one-name files journal other notes also judges) q)

pub one-check : (files : Files) (paths : Paths) (journal : List ℕ) (a b : Result Checkable Ending) → JudgesCheck (Some files) paths journal a → JudgesCheck (Some files) paths journal b → a ≡ b
one-check files paths journal a b (j, judges, p) (k, also, q) =
    let P : Judged → Type 0 = λ x. AfterRun (Some files) journal x b in
    after-run files journal j a b p (subst P (judges-judge files paths k also ∙ sym (judges-judge files paths j judges)) q)

pub only : (files : Files) (paths : Paths) (journal : List ℕ) (answer : Result Checkable Ending) → JudgesCheck (Some files) paths journal answer → IsOnlyJudgement files paths journal answer
only files paths journal answer judges = (judges, λ other also. one-check files paths journal other answer also judges)
