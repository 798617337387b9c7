-- A text has one judgement.
use Rattle.std.proofs.Common.{◌≡◌, ℕ, ◌∙◌, List, [], ◌∷◌, ◌++◌, length, drop, append_assoc, append-nil, length-append, Result, Ok, Err, ap, sym, refl, arith}
use Rattle.mind_base.specs.declared.notes.Note.{Note}
use Rattle.journal_text.specs.Journal.{heading, note_line, note_lines, journal_text_of, AreJournalNotes}
use Rattle.journal_text.specs.Reading.{LacksLine, IsBadLine, IsJournalFault, IsJudged}
use Rattle.journal_text.specs.declared.refusals.JournalFault.{JournalFault}
use Rattle.journal_text.specs.declared.refusals.JournalFault.TheVariants.{Head, Line}
use Rattle.journal_text.proofs.Prefix.{line_some}
use Rattle.journal_text.proofs.Spellings.{same-line}

none-lacks : LacksLine []
none-lacks note rest within e = omega (arith, ap length e, length-append (note_line note) rest, line_some note)

-- the lines of notes, and then more, which does not begin with the line of one
same-lines : (ns ms : List Note) (x y : List ℕ) → AreJournalNotes ns → AreJournalNotes ms → LacksLine x → LacksLine y → note_lines ns ++ x ≡ note_lines ms ++ y → (ns ≡ ms) × (x ≡ y)
same-lines [] [] x y p q a b e = (refl, e)
same-lines [] (m ∷ ms) x y p q a b e = absurd (a m (note_lines ms ++ y) q.0 (e ∙ append_assoc (note_line m) (note_lines ms) y))
same-lines (n ∷ ns) [] x y p q a b e = absurd (b n (note_lines ns ++ x) p.0 (sym e ∙ append_assoc (note_line n) (note_lines ns) x))
same-lines (n ∷ ns) (m ∷ ms) x y p q a b e =
    let first = same-line n m (note_lines ns ++ x) (note_lines ms ++ y) p.0 q.0
    (sym (append_assoc (note_line n) (note_lines ns) x) ∙ e ∙ append_assoc (note_line m) (note_lines ms) y) in
    let rest = same-lines ns ms x y p.1 q.1 a b first.1 in
    ((λ i. first.0 i ∷ rest.0 i), rest.1)

behind-heading : (x y : List ℕ) → heading ++ x ≡ heading ++ y → x ≡ y
behind-heading x y e = ap (drop 15) e

-- lines of notes have no fault
no-fault : (notes : List Note) (lines : List ℕ) (line : ℕ) → AreJournalNotes notes → lines ≡ note_lines notes → IsBadLine lines line → ⊥
no-fault notes lines line within is bad =
    bad.some (sym (same-lines notes bad.notes [] bad.rest within bad.within none-lacks bad.no_line (append-nil (note_lines notes) ∙ sym is ∙ bad.front)).1)

-- lines have one first fault
one-fault : (lines more : List ℕ) (line other : ℕ) → lines ≡ more → IsBadLine lines line → IsBadLine more other → line ≡ other
one-fault lines more line other same a b =
    let notes = (same-lines a.notes b.notes a.rest b.rest a.within b.within a.no_line b.no_line (sym a.front ∙ same ∙ b.front)).0 in
    omega (arith, a.number, b.number, ap length notes)

refused-twice : (bytes : List ℕ) (line other : ℕ) (what why : JournalFault) → IsJournalFault bytes line what → IsJournalFault bytes other why → (line ≡ other) × (what ≡ why)
refused-twice bytes line other Head Head a b = (a.0 ∙ sym b.0, refl)
refused-twice bytes line other Head Line (first, lacks) (lines, is, bad) = absurd (lacks lines is)
refused-twice bytes line other Line Head (lines, is, bad) (first, lacks) = absurd (lacks lines is)
refused-twice bytes line other Line Line (lines, is, bad) (more, also, worse) =
    (one-fault lines more line other (behind-heading lines more (sym is ∙ also)) bad worse, refl)

not-both : (bytes : List ℕ) (notes : List Note) (line : ℕ) (what : JournalFault) → AreJournalNotes notes → bytes ≡ journal_text_of notes → IsJournalFault bytes line what → ⊥
not-both bytes notes line Head within is (first, lacks) = lacks (note_lines notes) is
not-both bytes notes line Line within is (lines, also, bad) = no-fault notes lines line within (behind-heading lines (note_lines notes) (sym also ∙ is)) bad

pub one : (bytes : List ℕ) (a b : Result (List Note) (ℕ × JournalFault)) → IsJudged bytes a → IsJudged bytes b → a ≡ b
one bytes (Ok ns) (Ok ms) (p, a) (q, b) =
    let same = behind-heading (note_lines ns) (note_lines ms) (sym a ∙ b) in
    ap (λ notes. Ok notes) (same-lines ns ms [] [] p q none-lacks none-lacks (append-nil (note_lines ns) ∙ same ∙ sym (append-nil (note_lines ms)))).0
one bytes (Ok ns) (Err (line, what)) (p, a) fault = absurd (not-both bytes ns line what p a fault)
one bytes (Err (line, what)) (Ok ns) fault (p, a) = absurd (not-both bytes ns line what p a fault)
one bytes (Err (line, what)) (Err (other, why)) fault again = let r = refused-twice bytes line other what why fault again in λ i. Err (r.0 i, r.1 i)
