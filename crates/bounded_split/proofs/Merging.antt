-- The loop over the merges: what each does to the list, and what is still to do behind it.
use Rattle.std.proofs.Common.{◌≡◌, ℕ, ◌+◌, ◌-◌, ◌<◌, ◌≤◌, Option, Some, None, List, [], ◌∷◌, ◌++◌, length, take, drop, slice_get, refl, ap, sym, subst, ◌∙◌, zero, suc, arith}
use Rattle.std.specs.Option.{option_and_then, option_map_or}
use Rattle.std.proofs.lemmas.List.{append-nil}
use Rattle.mind_base.specs.declared.notes.Note.{Note}
use Rattle.mind_base.specs.declared.notes.Note.TheVariants as note
use Rattle.region_directory.specs.Directory.{DirectoryView}
use Rattle.region_directory.specs.Merge.{merged_entry, merge_of, with_merge}
use Rattle.region_directory.specs.declared.entries.Entry.{Entry}
use Rattle.bounded_split.specs.Epoch.{Stays, Merges, cold_merge, cold_at, merge_noted, turns_behind, merged_turns, entries_left, merge_notes, turns_of_merges}
use Rattle.bounded_split.proofs.Walking.{IsWalking, left_from, notes_from, walking-stays, walking-turns}

abbrev pub pair_at : ℕ → ℕ → List Entry → ℕ → Option Entry
pair_at t m es i = option_and_then (λ lower. option_and_then (cold_merge t m lower) (slice_get es (suc i))) (slice_get es i)

-- two neighbours that do not become one
turns-stay : (t m : ℕ) (a b : Entry) (es : List Entry) → cold_merge t m a b ≡ None → merged_turns t m (a ∷ b ∷ es) ≡ Stays a ∷ merged_turns t m (b ∷ es)
turns-stay t m a b es e =
    ap (λ (o : Option Entry). option_map_or (λ whole. Merges whole ∷ turns_behind t m None es) o (Stays a ∷ turns_behind t m (Some b) es)) e

-- and two that do
turns-merge : (t m : ℕ) (a b w : Entry) (es : List Entry) → cold_merge t m a b ≡ Some w → merged_turns t m (a ∷ b ∷ es) ≡ Merges w ∷ merged_turns t m es
turns-merge t m a b w es e =
    ap (λ (o : Option Entry). option_map_or (λ whole. Merges whole ∷ turns_behind t m None es) o (Stays a ∷ turns_behind t m (Some b) es)) e

stay-left : (t m : ℕ) (es : List Entry) (i : ℕ) → i < length es → pair_at t m es i ≡ None → left_from (merged_turns t m) es (suc i) ≡ left_from (merged_turns t m) es i
stay-left t m [] i lt e = absurd (omega arith)
stay-left t m (a ∷ []) zero lt e = refl
stay-left t m (a ∷ b ∷ es) zero lt e = sym (ap entries_left (turns-stay t m a b es e))
stay-left t m (a ∷ es) (suc i) lt e = ap (λ xs. a ∷ xs) (stay-left t m es i (omega arith) e)

stay-notes : (t m : ℕ) (es : List Entry) (i : ℕ) → i < length es → pair_at t m es i ≡ None → notes_from merge_notes (merged_turns t m) es (suc i) ≡ notes_from merge_notes (merged_turns t m) es i
stay-notes t m [] i lt e = absurd (omega arith)
stay-notes t m (a ∷ []) zero lt e = refl
stay-notes t m (a ∷ b ∷ es) zero lt e = sym (ap merge_notes (turns-stay t m a b es e))
stay-notes t m (a ∷ es) (suc i) lt e = stay-notes t m es i (omega arith) e

abbrev pub one_at : ℕ → Entry → List Entry → List Entry
one_at i w es = take i es ++ w ∷ drop (suc (suc i)) es

merge-left : (t m : ℕ) (es : List Entry) (i : ℕ) (w : Entry) → i < length es → pair_at t m es i ≡ Some w → left_from (merged_turns t m) (one_at i w es) (suc i) ≡ left_from (merged_turns t m) es i
merge-left t m [] i w lt e = absurd (omega arith)
merge-left t m (a ∷ []) zero w lt e = absurd (cc)
merge-left t m (a ∷ b ∷ es) zero w lt e = sym (ap entries_left (turns-merge t m a b w es e))
merge-left t m (a ∷ es) (suc i) w lt e = ap (λ xs. a ∷ xs) (merge-left t m es i w (omega arith) e)

merge-noted : (t m : ℕ) (es : List Entry) (i : ℕ) (w : Entry) → i < length es → pair_at t m es i ≡ Some w → note.Merge w.range ∷ notes_from merge_notes (merged_turns t m) (one_at i w es) (suc i) ≡ notes_from merge_notes (merged_turns t m) es i
merge-noted t m [] i w lt e = absurd (omega arith)
merge-noted t m (a ∷ []) zero w lt e = absurd (cc)
merge-noted t m (a ∷ b ∷ es) zero w lt e = sym (ap merge_notes (turns-merge t m a b w es e))
merge-noted t m (a ∷ es) (suc i) w lt e = merge-noted t m es i w (omega arith) e

merge-fewer : (t m : ℕ) (es : List Entry) (i : ℕ) (w : Entry) → i < length es → pair_at t m es i ≡ Some w → length (one_at i w es) + 1 ≡ length es
merge-fewer t m [] i w lt e = absurd (omega arith)
merge-fewer t m (a ∷ []) zero w lt e = absurd (cc)
merge-fewer t m (a ∷ b ∷ es) zero w lt e = omega arith
merge-fewer t m (a ∷ es) (suc i) w lt e = omega (arith, merge-fewer t m es i w (omega arith) e)

merge-within : (t m : ℕ) (es : List Entry) (i : ℕ) (w : Entry) → i < length es → pair_at t m es i ≡ Some w → suc i ≤ length (one_at i w es)
merge-within t m [] i w lt e = absurd (omega arith)
merge-within t m (a ∷ []) zero w lt e = absurd (cc)
merge-within t m (a ∷ b ∷ es) zero w lt e = omega arith
merge-within t m (a ∷ es) (suc i) w lt e = omega (arith, merge-within t m es i w (omega arith) e)

-- where the loop stands: the directory and the log as they are, how much room there is, and how many were merged
abbrev pub IsMerging : ℕ → DirectoryView → DirectoryView → List Note → List Note → ℕ → ℕ → ℕ → Type 0
IsMerging t first now before notes spare i merges =
    IsWalking (merged_turns t first.most) merge_notes (turns_of_merges t first) first now before notes spare i merges

pair-same : (t m : ℕ) (d : DirectoryView) (i : ℕ) (o : Option Entry) → d.most ≡ m → cold_at t d i ≡ o → pair_at t m d.entries i ≡ o
pair-same t m d i o e c =
    let n : i + 1 ≡ suc i = omega arith in
    sym (ap (λ (k : ℕ). option_and_then (λ (lower : Entry). option_and_then (cold_merge t m lower) (slice_get d.entries k)) (slice_get d.entries i)) n)
    ∙ sym (ap (λ (k : ℕ). option_and_then (λ (lower : Entry). option_and_then (cold_merge t k lower) (slice_get d.entries (i + 1))) (slice_get d.entries i)) e) ∙ c

merging-stays : (t : ℕ) (first now : DirectoryView) (before notes : List Note) (spare less i merges : ℕ) → IsMerging t first now before notes spare i merges → i < length now.entries → cold_at t now i ≡ None → spare ≤ less → IsMerging t first now before notes less (i + 1) merges
merging-stays t first now before notes spare less i merges h lt none room =
    let pair = pair-same t first.most now i None h.most none in
    walking-stays _ _ _ first now before notes spare less i merges h lt (stay-left t first.most now.entries i lt pair) (stay-notes t first.most now.entries i lt pair) room

merging-merges : (t : ℕ) (first now next : DirectoryView) (before notes after : List Note) (spare less i merges : ℕ) (w : Entry) → IsMerging t first now before notes spare i merges → i < length now.entries → cold_at t now i ≡ Some w
    → next ≡ record now { entries = with_merge i (Some w) now.entries } → after ≡ notes ++ note.Merge w.range ∷ [] → spare ≤ less + 1 → IsMerging t first next before after less (i + 1) (merges + 1)
merging-merges t first now next before notes after spare less i merges w h lt some e f room =
    let n : suc i ≡ i + 1 = omega arith in
    let m : i + 2 ≡ suc (suc i) = omega arith in
    let pair = pair-same t first.most now i (Some w) h.most some in
    let fewer = merge-fewer t first.most now.entries i w lt pair in
    let shown : next ≡ record now { entries = one_at i w now.entries } = e ∙ ap (λ (k : ℕ). record now { entries = take i now.entries ++ w ∷ drop k now.entries }) m in
    subst (λ (k : ℕ). IsMerging t first next before after less k (merges + 1)) n
    (subst (λ (d : DirectoryView). IsMerging t first d before after less (suc i) (merges + 1)) (sym shown)
    (walking-turns _ (merged_turns t first.most) _ _ first now (one_at i w now.entries) before notes after (note.Merge w.range) spare less i (suc i) merges h
    (merge-left t first.most now.entries i w lt pair) (merge-noted t first.most now.entries i w lt pair) f (omega (arith, h.room)) (omega arith) (merge-within t first.most now.entries i w lt pair)))

-- one step of the loop
pub merging-step : (t : ℕ) (first now next : DirectoryView) (before notes after : List Note) (spare less i merges added : ℕ) → IsMerging t first now before notes spare i merges → i < length now.entries
    → next ≡ record now { entries = with_merge i (cold_at t now i) now.entries } → after ≡ notes ++ merge_noted (cold_at t now i) → added ≡ length (merge_noted (cold_at t now i)) → spare ≤ less + added
    → IsMerging t first next before after less (i + 1) (merges + added)
merging-step t first now next before notes after spare less i merges added h lt e f n room = by (cold_at t now i) refl e f n where
  by : (o : Option Entry) → cold_at t now i ≡ o → next ≡ record now { entries = with_merge i o now.entries } → after ≡ notes ++ merge_noted o → added ≡ length (merge_noted o) → IsMerging t first next before after less (i + 1) (merges + added)
  by None s e f n =
      let sum : merges + added ≡ merges = omega (arith, n) in
      rw (e, f, append-nil, sum) (merging-stays t first now before notes spare less i merges h lt s (omega (arith, room, n)))
  by (Some w) s e f n =
      let sum : merges + added ≡ merges + 1 = omega (arith, n) in
      rw (sum) (merging-merges t first now next before notes after spare less i merges w h lt s e f (omega (arith, room, n)))

pub noted-few : (o : Option Entry) → length (merge_noted o) ≤ 1
noted-few None = omega arith
noted-few (Some w) = omega arith

-- the loop ends
pub merging-smaller : (t : ℕ) (now next : DirectoryView) (i : ℕ) → i < length now.entries → next ≡ record now { entries = with_merge i (cold_at t now i) now.entries } → length next.entries - (i + 1) < length now.entries - i
merging-smaller t now next i lt e = by (cold_at t now i) refl e where
  by : (o : Option Entry) → cold_at t now i ≡ o → next ≡ record now { entries = with_merge i o now.entries } → length next.entries - (i + 1) < length now.entries - i
  by None s e = omega (arith, ap (λ (d : DirectoryView). length d.entries) e)
  by (Some w) s e =
      let m : i + 2 ≡ suc (suc i) = omega arith in
      let same : length next.entries ≡ length (one_at i w now.entries) = ap (λ (d : DirectoryView). length d.entries) e ∙ ap (λ (k : ℕ). length (take i now.entries ++ w ∷ drop k now.entries)) m in
      omega (arith, same, merge-fewer t now.most now.entries i w lt (pair-same t now.most now i (Some w) refl s))

pub past-end : (es : List Entry) (k : ℕ) → length es ≤ k → slice_get es k ≡ None
past-end [] k le = refl
past-end (e ∷ es) zero le = absurd (omega arith)
past-end (e ∷ es) (suc k) le = past-end es k (omega arith)

-- what is asked of the two neighbours
pub cold-here : (t : ℕ) (d : DirectoryView) (i : ℕ) (a b : Entry) → slice_get d.entries i ≡ Some a → slice_get d.entries (i + 1) ≡ Some b → cold_at t d i ≡ cold_merge t d.most a b
cold-here t d i a b p q =
    ap (λ (o : Option Entry). option_and_then (λ (lower : Entry). option_and_then (cold_merge t d.most lower) (slice_get d.entries (i + 1))) o) p ∙ ap (λ (o : Option Entry). option_and_then (cold_merge t d.most a) o) q

pub merge-here : (d : DirectoryView) (i : ℕ) (a b : Entry) → slice_get d.entries i ≡ Some a → slice_get d.entries (i + 1) ≡ Some b → merge_of d i ≡ merged_entry d.most a b
merge-here d i a b p q =
    ap (λ (o : Option Entry). option_and_then (λ (lower : Entry). option_and_then (merged_entry d.most lower) (slice_get d.entries (i + 1))) o) p ∙ ap (λ (o : Option Entry). option_and_then (merged_entry d.most a) o) q

pub cold-last : (t : ℕ) (d : DirectoryView) (i : ℕ) (o : Option Entry) → slice_get d.entries i ≡ o → slice_get d.entries (i + 1) ≡ None → cold_at t d i ≡ None
cold-last t d i None p q = ap (λ (o : Option Entry). option_and_then (λ (lower : Entry). option_and_then (cold_merge t d.most lower) (slice_get d.entries (i + 1))) o) p
cold-last t d i (Some a) p q =
    ap (λ (o : Option Entry). option_and_then (λ (lower : Entry). option_and_then (cold_merge t d.most lower) (slice_get d.entries (i + 1))) o) p ∙ ap (λ (o : Option Entry). option_and_then (cold_merge t d.most a) o) q
