-- The loop over the splits: what each does to the list, and what is still to do behind it.
use Rattle.std.proofs.Common.{◌≡◌, ℕ, ◌+◌, ◌-◌, ◌<◌, ◌≤◌, Option, Some, None, List, [], ◌∷◌, ◌++◌, length, get_or, take, drop, slice_get, refl, ap, sym, subst, ◌∙◌, zero, suc, arith}
use Rattle.std.specs.Option.{option_and_then, option_map, option_map_or}
use Rattle.std.proofs.lemmas.Option.{slice_get-get_or}
use Rattle.std.proofs.lemmas.List.{append-nil}
use Rattle.mind_base.specs.declared.notes.Note.{Note}
use Rattle.mind_base.specs.declared.notes.Note.TheVariants as note
use Rattle.region_directory.specs.Directory.{DirectoryView}
use Rattle.region_directory.specs.Split.{with_split}
use Rattle.region_directory.specs.declared.entries.Entry.{Entry}
use Rattle.region_directory.proofs.Callers.{blank}
use Rattle.bounded_split.specs.Epoch.{Stays, Splits, hot_split, hot_at, entries_left, split_notes}
use Rattle.bounded_split.specs.Hot.{hot_block, hot_turns, hot_turns_in, split_noted}
use Rattle.bounded_split.proofs.Walking.{IsWalking, left_from, notes_from, walking-stays, walking-turns}

abbrev pub halves_at : ℕ → ℕ → List Entry → ℕ → Option (Entry × Entry)
halves_at t free es i = option_and_then (hot_split t free) (slice_get es i)

turns-stay : (t free : ℕ) (a : Entry) (es : List Entry) → hot_split t free a ≡ None → hot_turns t free (a ∷ es) ≡ Stays a ∷ hot_turns t free es
turns-stay t free a es e =
    ap (λ (o : Option (Entry × Entry)). option_map_or (λ halves. Splits a halves ∷ hot_turns t (free - 1) es) o (Stays a ∷ hot_turns t free es)) e

turns-split : (t free : ℕ) (a : Entry) (h : Entry × Entry) (es : List Entry) → hot_split t free a ≡ Some h → hot_turns t free (a ∷ es) ≡ Splits a h ∷ hot_turns t (free - 1) es
turns-split t free a h es e =
    ap (λ (o : Option (Entry × Entry)). option_map_or (λ halves. Splits a halves ∷ hot_turns t (free - 1) es) o (Stays a ∷ hot_turns t free es)) e

stay-left : (t free : ℕ) (es : List Entry) (i : ℕ) → i < length es → halves_at t free es i ≡ None → left_from (hot_turns t free) es (suc i) ≡ left_from (hot_turns t free) es i
stay-left t free [] i lt e = absurd (omega arith)
stay-left t free (a ∷ es) zero lt e = sym (ap entries_left (turns-stay t free a es e))
stay-left t free (a ∷ es) (suc i) lt e = ap (λ xs. a ∷ xs) (stay-left t free es i (omega arith) e)

stay-notes : (t free : ℕ) (es : List Entry) (i : ℕ) → i < length es → halves_at t free es i ≡ None → notes_from split_notes (hot_turns t free) es (suc i) ≡ notes_from split_notes (hot_turns t free) es i
stay-notes t free [] i lt e = absurd (omega arith)
stay-notes t free (a ∷ es) zero lt e = sym (ap split_notes (turns-stay t free a es e))
stay-notes t free (a ∷ es) (suc i) lt e = stay-notes t free es i (omega arith) e

abbrev pub two_at : ℕ → Entry × Entry → List Entry → List Entry
two_at i h es = take i es ++ h.0 ∷ h.1 ∷ drop (suc i) es

split-left : (t free : ℕ) (es : List Entry) (i : ℕ) (h : Entry × Entry) → i < length es → halves_at t free es i ≡ Some h → left_from (hot_turns t (free - 1)) (two_at i h es) (suc (suc i)) ≡ left_from (hot_turns t free) es i
split-left t free [] i h lt e = absurd (omega arith)
split-left t free (a ∷ es) zero h lt e = sym (ap entries_left (turns-split t free a h es e))
split-left t free (a ∷ es) (suc i) h lt e = ap (λ xs. a ∷ xs) (split-left t free es i h (omega arith) e)

split-noted : (t free : ℕ) (es : List Entry) (i : ℕ) (h : Entry × Entry) (e : Entry) → slice_get es i ≡ Some e → halves_at t free es i ≡ Some h → note.Split e.range ∷ notes_from split_notes (hot_turns t (free - 1)) (two_at i h es) (suc (suc i)) ≡ notes_from split_notes (hot_turns t free) es i
split-noted t free [] i h e at s = absurd (cc)
split-noted t free (a ∷ es) zero h e at s =
    ap (λ (o : Option Entry). option_map_or (λ x. note.Split x.range ∷ split_notes (hot_turns t (free - 1) es)) o []) (sym at) ∙ sym (ap split_notes (turns-split t free a h es s))
split-noted t free (a ∷ es) (suc i) h e at s = split-noted t free es i h e at s

split-more : (es : List Entry) (i : ℕ) (h : Entry × Entry) → i < length es → length (two_at i h es) ≡ length es + 1
split-more [] i h lt = absurd (omega arith)
split-more (a ∷ es) zero h lt = omega arith
split-more (a ∷ es) (suc i) h lt = omega (arith, split-more es i h (omega arith))

-- where the loop stands: the directory and the log as they are, how much room there is, and how many were split
abbrev pub IsSplitting : ℕ → DirectoryView → DirectoryView → List Note → List Note → ℕ → ℕ → ℕ → Type 0
IsSplitting t first now before notes spare i splits =
    IsWalking (hot_turns t (first.slots - length now.entries)) split_notes (hot_turns_in t first) first now before notes (spare + i) i splits

at-same : (t s : ℕ) (d : DirectoryView) (i : ℕ) (o : Option (Entry × Entry)) → d.slots ≡ s → hot_at t d i ≡ o → halves_at t (s - length d.entries) d.entries i ≡ o
at-same t s d i o e c = sym (ap (λ (k : ℕ). halves_at t (k - length d.entries) d.entries i) e) ∙ c

splitting-stays : (t : ℕ) (first now : DirectoryView) (before notes : List Note) (spare less i splits : ℕ) → IsSplitting t first now before notes spare i splits → i < length now.entries → hot_at t now i ≡ None → spare ≤ less → IsSplitting t first now before notes less (i + 1) splits
splitting-stays t first now before notes spare less i splits h lt none room =
    let free : ℕ = first.slots - length now.entries in
    let at = at-same t first.slots now i None h.slots none in
    walking-stays _ _ _ first now before notes (spare + i) (less + (i + 1)) i splits h lt (stay-left t free now.entries i lt at) (stay-notes t free now.entries i lt at) (omega (arith, room))

splitting-splits : (t : ℕ) (first now next : DirectoryView) (before notes after : List Note) (spare less i splits : ℕ) (h : Entry × Entry) (e : Entry) → IsSplitting t first now before notes spare i splits → slice_get now.entries i ≡ Some e → i < length now.entries → hot_at t now i ≡ Some h
    → next ≡ record now { entries = with_split i (Some h) now.entries } → after ≡ notes ++ note.Split e.range ∷ [] → spare ≤ less + 1 → IsSplitting t first next before after less (i + 1 + 1) (splits + 1)
splitting-splits t first now next before notes after spare less i splits h e is at lt some f g room =
    let n : suc (suc i) ≡ i + 1 + 1 = omega arith in
    let m : i + 1 ≡ suc i = omega arith in
    let free : ℕ = first.slots - length now.entries in
    let halves = at-same t first.slots now i (Some h) is.slots some in
    let es : List Entry = two_at i h now.entries in
    let shown : next ≡ record now { entries = es } = f ∙ ap (λ (k : ℕ). record now { entries = take i now.entries ++ h.0 ∷ h.1 ∷ drop k now.entries }) m in
    let more = split-more now.entries i h lt in
    let freed : first.slots - length es ≡ free - 1 = omega (arith, more) in
    subst (λ (k : ℕ). IsSplitting t first next before after less k (splits + 1)) n
    (subst (λ (d : DirectoryView). IsSplitting t first d before after less (suc (suc i)) (splits + 1)) (sym shown)
    (walking-turns _ (hot_turns t (first.slots - length es)) _ _ first now es before notes after (note.Split e.range) (spare + i) (less + suc (suc i)) i (suc (suc i)) splits is
    (ap (λ (k : ℕ). left_from (hot_turns t k) es (suc (suc i))) freed ∙ split-left t free now.entries i h lt halves)
    (ap (λ (k : ℕ). note.Split e.range ∷ notes_from split_notes (hot_turns t k) es (suc (suc i))) freed ∙ split-noted t free now.entries i h e at halves)
    g (omega (arith, is.room, more)) (omega arith) (omega (arith, more))))

-- one step of the loop
block-is : (t : ℕ) (d : DirectoryView) (i : ℕ) (e : Entry) → slice_get d.entries i ≡ Some e → hot_block t d i ≡ option_map (λ _. e.range) (hot_at t d i)
block-is t d i e at =
    ap (λ (o : Option Entry). option_and_then (λ (entry : Entry). option_map (λ _. entry.range) (hot_split t (d.slots - length d.entries) entry)) o) at
    ∙ sym (ap (λ (o : Option Entry). option_map (λ _. e.range) (option_and_then (hot_split t (d.slots - length d.entries)) o)) at)

pub splitting-step : (t : ℕ) (first now next : DirectoryView) (before notes after : List Note) (spare less i splits added : ℕ) → IsSplitting t first now before notes spare i splits → i < length now.entries
    → next ≡ record now { entries = with_split i (hot_at t now i) now.entries } → after ≡ notes ++ split_noted (hot_block t now i) → added ≡ length (split_noted (hot_block t now i)) → spare ≤ less + added
    → IsSplitting t first next before after less (i + (1 + added)) (splits + added)
splitting-step t first now next before notes after spare less i splits added h lt e f n room =
    by (hot_at t now i) refl e (f ∙ ap (λ o. notes ++ split_noted o) block) (n ∙ ap (λ o. length (split_noted o)) block) where
      entry : Entry
      entry = get_or now.entries i blank

      found : slice_get now.entries i ≡ Some entry
      found = slice_get-get_or now.entries i blank lt

      block : hot_block t now i ≡ option_map (λ _. entry.range) (hot_at t now i)
      block = block-is t now i entry found

      by : (o : Option (Entry × Entry)) → hot_at t now i ≡ o → next ≡ record now { entries = with_split i o now.entries } → after ≡ notes ++ split_noted (option_map (λ _. entry.range) o) → added ≡ length (split_noted (option_map (λ _. entry.range) o))
          → IsSplitting t first next before after less (i + (1 + added)) (splits + added)
      by None s e f n =
          let sum : splits + added ≡ splits = omega (arith, n) in
          let place : i + (1 + added) ≡ i + 1 = omega (arith, n) in
          rw (e, f, append-nil, sum, place) (splitting-stays t first now before notes spare less i splits h lt s (omega (arith, room, n)))
      by (Some halves) s e f n =
          let sum : splits + added ≡ splits + 1 = omega (arith, n) in
          let place : i + (1 + added) ≡ i + 1 + 1 = omega (arith, n) in
          rw (sum, place) (splitting-splits t first now next before notes after spare less i splits halves entry h found lt s e f (omega (arith, room, n)))
