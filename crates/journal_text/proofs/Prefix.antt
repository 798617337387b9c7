-- The lines of notes that were read, and what is left of a text.
use Rattle.std.proofs.Common.{◌≡◌, ℕ, ◌+◌, ◌<◌, ◌≤◌, ◌∙◌, List, [], ◌∷◌, ◌++◌, length, ap, sym, refl, subst, arith, append_assoc, append-nil, length-append}
use Rattle.mind_base.specs.declared.notes.Note.{Note}
use Rattle.mind_base.specs.declared.notes.Note.TheVariants.{Event, Exec, Drain, Command, Moved, Take, Give, Down, Region, Gone, Split, Merge}
use Rattle.journal_text.specs.Journal.{note_line, note_lines, IsJournalNote, AreJournalNotes}
use Rattle.journal_text.specs.Reading.{LacksLine, IsBadLine}
use Rattle.journal_text.proofs.Growth.{line-more}

-- the notes begin with those that were read, and what is left is the lines of the others
pub record Continues (notes read : List Note) (rest : List ℕ) : Type 0 where
  pub more : List Note
  pub within : AreJournalNotes more
  pub is : notes ≡ read ++ more
  pub left : rest ≡ note_lines more

-- these notes were read, and this is left; the next line has this number
pub record Reading (lines : List ℕ) (read : List Note) (rest : List ℕ) (line : ℕ) : Type 0 where
  pub within : AreJournalNotes read
  pub front : lines ≡ note_lines read ++ rest
  pub number : line ≡ length read + 2
  pub room : line + length rest ≤ length lines + 2
  pub only : (notes : List Note) → AreJournalNotes notes → lines ≡ note_lines notes → Continues notes read rest

pub at_start : (lines : List ℕ) (read : List Note) → read ≡ [] → Reading lines read lines 2
at_start lines read e =
    let P : List Note → Type 0 = λ ns. Reading lines ns lines 2 in
    subst P (sym e) (record { within = tt; front = refl; number = refl; room = omega arith; only = λ notes within is. record { more = notes; within = within; is = refl; left = is } })

pub line_some : (note : Note) → 0 < length (note_line note)
line_some (Event index) = omega arith
line_some (Exec hart) = omega arith
line_some (Drain hart) = omega arith
line_some (Command index) = omega arith
line_some (Moved index outcome) = omega arith
line_some (Take blade page writable) = omega arith
line_some (Give blade page) = omega arith
line_some (Down blade page) = omega arith
line_some (Region range state) = omega arith
line_some (Gone range) = omega arith
line_some (Split range) = omega arith
line_some (Merge range) = omega arith

pub shorter : (note : Note) (rest more : List ℕ) → rest ≡ note_line note ++ more → length more < length rest
shorter note rest more e = omega (arith, ap length e, length-append (note_line note) more, line_some note)

within-more : (read : List Note) (note : Note) → AreJournalNotes read → IsJournalNote note → AreJournalNotes (read ++ note ∷ [])
within-more [] note all one = (one, tt)
within-more (n ∷ ns) note all one = (all.0, within-more ns note all.1 one)

-- what is left begins with this note's line, and with no other note's
pub record Begins (rest : List ℕ) (note : Note) (more : List ℕ) : Type 0 where
  pub within : IsJournalNote note
  pub front : rest ≡ note_line note ++ more
  pub only : (other : Note) (behind : List ℕ) → IsJournalNote other → rest ≡ note_line other ++ behind → (note ≡ other) × (more ≡ behind)

continues-more : (notes read : List Note) (rest : List ℕ) (note : Note) (more : List ℕ) → Begins rest note more → (others : List Note) → AreJournalNotes others → notes ≡ read ++ others
    → rest ≡ note_lines others → Continues notes (read ++ note ∷ []) more
continues-more notes read rest note more begins [] all is left = absurd (omega (arith, ap length left, shorter note rest more begins.front))
continues-more notes read rest note more begins (o ∷ os) all is left =
    let same = begins.only o (note_lines os) all.0 left in
    record {
      more = os;
      within = all.1;
      is = is ∙ ap (λ n. read ++ n ∷ os) (sym same.0) ∙ sym (append_assoc read (note ∷ []) os);
      left = same.1;
    }

pub next : (lines : List ℕ) (read : List Note) (rest : List ℕ) (line : ℕ) (note : Note) (more : List ℕ) (new : List Note) → Reading lines read rest line → Begins rest note more
    → new ≡ read ++ note ∷ [] → Reading lines new more (line + 1)
next lines read rest line note more new r b e =
    let P : List Note → Type 0 = λ ns. Reading lines ns more (line + 1) in
    subst P (sym e) (record {
      within = within-more read note r.within b.within;
      front = r.front ∙ ap (λ t. note_lines read ++ t) b.front ∙ sym (append_assoc (note_lines read) (note_line note) more) ∙ ap (λ t. t ++ more) (sym (line-more read note));
      number = omega (arith, r.number, length-append read (note ∷ []));
      room = omega (arith, r.room, shorter note rest more b.front);
      only = λ notes within is. let k = r.only notes within is in continues-more notes read rest note more b k.more k.within k.is k.left;
    })

no_continuation : (rest : List ℕ) (others : List Note) → (rest ≡ [] → ⊥) → LacksLine rest → AreJournalNotes others → rest ≡ note_lines others → ⊥
no_continuation rest [] some lacks all left = some left
no_continuation rest (o ∷ os) some lacks all left = lacks o (note_lines os) all.0 left

pub stopped : (lines : List ℕ) (read : List Note) (rest : List ℕ) (line : ℕ) → Reading lines read rest line → (rest ≡ [] → ⊥) → LacksLine rest → IsBadLine lines line
stopped lines read rest line r some lacks =
    record { notes = read; rest = rest; within = r.within; front = r.front; number = r.number; some = some; no_line = lacks }

pub none_else : (lines : List ℕ) (read : List Note) (rest : List ℕ) (line : ℕ) → Reading lines read rest line → (rest ≡ [] → ⊥) → LacksLine rest
    → (notes : List Note) → AreJournalNotes notes → lines ≡ note_lines notes → ⊥
none_else lines read rest line r some lacks notes within is = let k = r.only notes within is in no_continuation rest k.more some lacks k.within k.left

end_only : (read notes others : List Note) (rest : List ℕ) → rest ≡ [] → notes ≡ read ++ others → rest ≡ note_lines others → read ≡ notes
end_only read notes [] rest done is left = sym (is ∙ append-nil read)
end_only read notes (o ∷ os) rest done is left = absurd (omega (arith, ap length (sym done ∙ left), length-append (note_line o) (note_lines os), line_some o))

pub whole : (lines : List ℕ) (read : List Note) (rest : List ℕ) (line : ℕ) → Reading lines read rest line → rest ≡ [] → lines ≡ note_lines read
whole lines read rest line r done = r.front ∙ ap (λ t. note_lines read ++ t) done ∙ append-nil (note_lines read)

pub whole_only : (lines : List ℕ) (read : List Note) (rest : List ℕ) (line : ℕ) → Reading lines read rest line → rest ≡ []
    → (notes : List Note) → AreJournalNotes notes → lines ≡ note_lines notes → read ≡ notes
whole_only lines read rest line r done notes within is = let k = r.only notes within is in end_only read notes k.more rest done k.is k.left

pub empty_of : (text : List ℕ) → length text ≡ 0 → text ≡ []
empty_of [] none = refl
empty_of (b ∷ bs) none = absurd (omega arith)
