-- An epoch step by step: each turn that changes the list is a step at the place that the turns before it left.
use Rattle.std.proofs.Common.{◌≡◌, ℕ, ◌+◌, ◌-◌, ◌<◌, Bool, true, false, cond, ◌&&◌, ◌==◌, nat_lt, Option, Some, None, List, [], ◌∷◌, ◌++◌, length, take, drop, slice_get, refl, ap, sym, subst, ◌∙◌, suc, arith, append_assoc}
use Rattle.std.specs.Option.{option_and_then, option_map_or}
use Rattle.std.proofs.lemmas.Bool.Decides.{nat_tests}
use Rattle.mind_base.specs.declared.notes.Note.{Note}
use Rattle.region_directory.specs.Directory.{DirectoryView}
use Rattle.region_directory.specs.Merge.{merged_entry}
use Rattle.region_directory.specs.Split.{split_entry}
use Rattle.region_directory.specs.declared.entries.Entry.{Entry}
use Rattle.bounded_split.specs.Epoch.{Turn, Stays, Merges, Splits, judged, cold_merge, hot_split, turns_behind, split_turns, entries_left, merge_notes, split_notes, turns_of_merges, epoch_turns, after_epoch, epoch_notes}
use Rattle.bounded_split.specs.Verdict.{is_split, is_cold}
use Rattle.bounded_split.specs.Steps.{EpochStep, Joins, Parts, MayStep, after_epoch_step, epoch_step_note, GoesBySteps}
use Rattle.bounded_split.proofs.Merging.{one_at, merge-here}
use Rattle.bounded_split.proofs.Splitting.{two_at}
use Rattle.bounded_split.proofs.Turning.{AreKept, are-kept, epoch-merges, merged-from}

-- a step, and then the others
steps-on : (step : EpochStep) (old next new : DirectoryView) (notes : List Note) → MayStep step old → after_epoch_step step old ≡ next → GoesBySteps next new notes → GoesBySteps old new (epoch_step_note step ∷ notes)
steps-on step old next new notes may e rest =
    let goes : GoesBySteps (after_epoch_step step old) new notes = subst (λ (d : DirectoryView). GoesBySteps d new notes) (sym e) rest in record {
      steps = step ∷ goes.steps;
      may = (may, goes.may);
      noted = ap (λ ns. epoch_step_note step ∷ ns) goes.noted;
      cleared = goes.cleared;
    }

-- ---- the entries behind those that were turned

at-front : (front es : List Entry) (a : Entry) → slice_get (front ++ a ∷ es) (length front) ≡ Some a
at-front [] es a = refl
at-front (x ∷ front) es a = at-front front es a

behind-front : (front es : List Entry) (a b : Entry) → slice_get (front ++ a ∷ b ∷ es) (suc (length front)) ≡ Some b
behind-front [] es a b = refl
behind-front (x ∷ front) es a b = behind-front front es a b

one-behind : (front es : List Entry) (a b w : Entry) → one_at (length front) w (front ++ a ∷ b ∷ es) ≡ front ++ w ∷ es
one-behind [] es a b w = refl
one-behind (x ∷ front) es a b w = ap (λ xs. x ∷ xs) (one-behind front es a b w)

two-behind : (front es : List Entry) (a : Entry) (h : Entry × Entry) → two_at (length front) h (front ++ a ∷ es) ≡ front ++ h.0 ∷ h.1 ∷ es
two-behind [] es a h = refl
two-behind (x ∷ front) es a h = ap (λ xs. x ∷ xs) (two-behind front es a h)

counted : (front es : List Entry) → length (front ++ es) ≡ length front + length es
counted [] es = omega arith
counted (x ∷ front) es = omega (arith, counted front es)

abbrev directory_of : ℕ → ℕ → List Entry → DirectoryView
directory_of slots most es = record { slots = slots; most = most; entries = es }

-- ---- a merge behind them

may-join : (slots most : ℕ) (front es : List Entry) (a b w : Entry) → merged_entry most a b ≡ Some w → MayStep (Joins (length front) w) (directory_of slots most (front ++ a ∷ b ∷ es))
may-join slots most front es a b w e =
    let d = directory_of slots most (front ++ a ∷ b ∷ es) in
    let n : suc (length front) ≡ length front + 1 = omega arith in
    let second : slice_get d.entries (length front + 1) ≡ Some b = subst (λ k. slice_get d.entries k ≡ Some b) n (behind-front front es a b) in
    merge-here d (length front) a b (at-front front (b ∷ es) a) second ∙ e

joined : (slots most : ℕ) (front es : List Entry) (a b w : Entry) → after_epoch_step (Joins (length front) w) (directory_of slots most (front ++ a ∷ b ∷ es)) ≡ directory_of slots most (front ++ w ∷ es)
joined slots most front es a b w =
    let all : List Entry = front ++ a ∷ b ∷ es in
    let n : length front + 2 ≡ suc (suc (length front)) = omega arith in
    ap (directory_of slots most) (ap (λ k. take (length front) all ++ w ∷ drop k all) n ∙ one-behind front es a b w)

-- the entry that waits for the next one, before the others
abbrev waiting : Option Entry → List Entry → List Entry
waiting None es = es
waiting (Some a) es = a ∷ es

-- from a directory with these entries
abbrev Goes : ℕ → ℕ → DirectoryView → List Entry → List Note → Type 0
Goes slots most new es notes = GoesBySteps (directory_of slots most es) new notes

-- the merges, and then what follows them
joins : (t slots most : ℕ) (new : DirectoryView) (rest : List Note) (front : List Entry) (held : Option Entry) (es : List Entry)
    → GoesBySteps (directory_of slots most (front ++ entries_left (turns_behind t most held es))) new rest
    → GoesBySteps (directory_of slots most (front ++ waiting held es)) new (merge_notes (turns_behind t most held es) ++ rest)
joins t slots most new rest front None [] go = go
joins t slots most new rest front (Some a) [] go = go
joins t slots most new rest front None (e ∷ es) go = joins t slots most new rest front (Some e) es go
joins t slots most new rest front (Some a) (b ∷ es) go =
    by (λ go. joins t slots most new rest (front ++ a ∷ []) (Some b) es go) (λ w go. joins t slots most new rest (front ++ w ∷ []) None es go) (cold_merge t most a b) refl go where
      by : (Goes slots most new ((front ++ a ∷ []) ++ entries_left (turns_behind t most (Some b) es)) rest → Goes slots most new ((front ++ a ∷ []) ++ b ∷ es) (merge_notes (turns_behind t most (Some b) es) ++ rest))
          → ((w : Entry) → Goes slots most new ((front ++ w ∷ []) ++ entries_left (turns_behind t most None es)) rest → Goes slots most new ((front ++ w ∷ []) ++ es) (merge_notes (turns_behind t most None es) ++ rest))
          → (o : Option Entry) → cold_merge t most a b ≡ o
          → Goes slots most new (front ++ entries_left (option_map_or (λ whole. Merges whole ∷ turns_behind t most None es) o (Stays a ∷ turns_behind t most (Some b) es))) rest
          → Goes slots most new (front ++ a ∷ b ∷ es) (merge_notes (option_map_or (λ whole. Merges whole ∷ turns_behind t most None es) o (Stays a ∷ turns_behind t most (Some b) es)) ++ rest)
      by stays merges None e go =
          subst (λ xs. Goes slots most new xs (merge_notes (turns_behind t most (Some b) es) ++ rest)) (append_assoc front (a ∷ []) (b ∷ es))
          (stays (subst (λ xs. Goes slots most new xs rest) (sym (append_assoc front (a ∷ []) (entries_left (turns_behind t most (Some b) es)))) go))
      by stays merges (Some w) e go =
          let told : List Note = merge_notes (turns_behind t most None es) ++ rest in
          let on : Goes slots most new (front ++ w ∷ es) told = subst (λ xs. Goes slots most new xs told) (append_assoc front (w ∷ []) es)
          (merges w (subst (λ xs. Goes slots most new xs rest) (sym (append_assoc front (w ∷ []) (entries_left (turns_behind t most None es)))) go)) in
          let pair : merged_entry most a b ≡ Some w = (merged-from (is_cold (judged t a)) (is_cold (judged t b)) (merged_entry most a b) w e).2 in
          steps-on (Joins (length front) w) (directory_of slots most (front ++ a ∷ b ∷ es)) (directory_of slots most (front ++ w ∷ es)) new told (may-join slots most front es a b w pair) (joined slots most front es a b w) on

-- ---- a split behind them

some-free : (n : ℕ) → nat_lt 0 n ≡ true → 0 < n
some-free n e = grind (arith, nat_tests)

not-full : (l s : ℕ) → l < s → (l == s) ≡ false
not-full l s lt = grind (arith, nat_tests)

hot-tests : (x y : Bool) (o : Option (Entry × Entry)) (h : Entry × Entry) → cond (x && y) o None ≡ Some h → (x ≡ true) × (o ≡ Some h)
hot-tests true true o h e = (refl, e)
hot-tests true false o h e = absurd (cc)
hot-tests false y o h e = absurd (cc)

may-part : (t slots most free : ℕ) (front es : List Entry) (a : Entry) (h : Entry × Entry) → free ≡ slots - length (front ++ a ∷ es) → hot_split t free a ≡ Some h → MayStep (Parts (length front) a h) (directory_of slots most (front ++ a ∷ es))
may-part t slots most free front es a h left e =
    let all : List Entry = front ++ a ∷ es in
    let hot = hot-tests (nat_lt 0 free) (is_split (judged t a)) (split_entry a) h e in
    let room : (length all == slots) ≡ false = not-full (length all) slots (omega (arith, left, some-free free hot.0)) in (
      at-front front es a,
      ap (λ b. cond b None (option_and_then split_entry (slice_get all (length front)))) room ∙ ap (option_and_then split_entry) (at-front front es a) ∙ hot.1,
    )

parted : (slots most : ℕ) (front es : List Entry) (a : Entry) (h : Entry × Entry) → after_epoch_step (Parts (length front) a h) (directory_of slots most (front ++ a ∷ es)) ≡ directory_of slots most (front ++ h.0 ∷ h.1 ∷ es)
parted slots most front es a h =
    let all : List Entry = front ++ a ∷ es in
    let n : length front + 1 ≡ suc (length front) = omega arith in
    ap (directory_of slots most) (ap (λ k. take (length front) all ++ h.0 ∷ h.1 ∷ drop k all) n ∙ two-behind front es a h)

-- as many slots are free when the entries in front are read as one list
as-free : (slots free : ℕ) (front some es : List Entry) → free ≡ slots - length (front ++ (some ++ es)) → free ≡ slots - length ((front ++ some) ++ es)
as-free slots free front some es e = e ∙ ap (λ xs. slots - length xs) (sym (append_assoc front some es))

one-less : (slots free : ℕ) (front es : List Entry) (a : Entry) (h : Entry × Entry) → free ≡ slots - length (front ++ a ∷ es) → free - 1 ≡ slots - length (front ++ h.0 ∷ h.1 ∷ es)
one-less slots free front es a h e = omega (arith, e, counted front (a ∷ es), counted front (h.0 ∷ h.1 ∷ es))

-- the splits
parts : (t slots most : ℕ) (new : DirectoryView) (front : List Entry) (free : ℕ) (turns : List Turn) → AreKept t turns → free ≡ slots - length (front ++ entries_left turns)
    → GoesBySteps (directory_of slots most (front ++ entries_left (split_turns t free turns))) new []
    → GoesBySteps (directory_of slots most (front ++ entries_left turns)) new (split_notes (split_turns t free turns))
parts t slots most new front free [] kept left go = go
parts t slots most new front free (Merges w ∷ turns) kept left go =
    subst (λ xs. GoesBySteps (directory_of slots most xs) new (split_notes (split_turns t free turns))) (append_assoc front (w ∷ []) (entries_left turns))
    (parts t slots most new (front ++ w ∷ []) free turns kept.1 (as-free slots free front (w ∷ []) (entries_left turns) left)
    (subst (λ xs. GoesBySteps (directory_of slots most xs) new []) (sym (append_assoc front (w ∷ []) (entries_left (split_turns t free turns)))) go))
parts t slots most new front free (Splits e h ∷ turns) kept left go = absurd kept
parts t slots most new front free (Stays e ∷ turns) kept left go =
    by (λ left go. parts t slots most new (front ++ e ∷ []) free turns kept left go) (λ h left go. parts t slots most new (front ++ h.0 ∷ h.1 ∷ []) (free - 1) turns kept left go) (hot_split t free e) refl go where
      by : (free ≡ slots - length ((front ++ e ∷ []) ++ entries_left turns) → Goes slots most new ((front ++ e ∷ []) ++ entries_left (split_turns t free turns)) [] → Goes slots most new ((front ++ e ∷ []) ++ entries_left turns) (split_notes (split_turns t free turns)))
          → ((h : Entry × Entry) → free - 1 ≡ slots - length ((front ++ h.0 ∷ h.1 ∷ []) ++ entries_left turns) → Goes slots most new ((front ++ h.0 ∷ h.1 ∷ []) ++ entries_left (split_turns t (free - 1) turns)) [] → Goes slots most new ((front ++ h.0 ∷ h.1 ∷ []) ++ entries_left turns) (split_notes (split_turns t (free - 1) turns)))
          → (o : Option (Entry × Entry)) → hot_split t free e ≡ o
          → Goes slots most new (front ++ entries_left (option_map_or (λ halves. Splits e halves ∷ split_turns t (free - 1) turns) o (Stays e ∷ split_turns t free turns))) []
          → Goes slots most new (front ++ e ∷ entries_left turns) (split_notes (option_map_or (λ halves. Splits e halves ∷ split_turns t (free - 1) turns) o (Stays e ∷ split_turns t free turns)))
      by stays splits None s go =
          subst (λ xs. Goes slots most new xs (split_notes (split_turns t free turns))) (append_assoc front (e ∷ []) (entries_left turns))
          (stays (as-free slots free front (e ∷ []) (entries_left turns) left) (subst (λ xs. Goes slots most new xs []) (sym (append_assoc front (e ∷ []) (entries_left (split_turns t free turns)))) go))
      by stays splits (Some h) s go =
          let told : List Note = split_notes (split_turns t (free - 1) turns) in
          let fewer = as-free slots (free - 1) front (h.0 ∷ h.1 ∷ []) (entries_left turns) (one-less slots free front (entries_left turns) e h left) in
          let on : Goes slots most new (front ++ h.0 ∷ h.1 ∷ entries_left turns) told = subst (λ xs. Goes slots most new xs told) (append_assoc front (h.0 ∷ h.1 ∷ []) (entries_left turns))
          (splits h fewer (subst (λ xs. Goes slots most new xs []) (sym (append_assoc front (h.0 ∷ h.1 ∷ []) (entries_left (split_turns t (free - 1) turns)))) go)) in
          steps-on (Parts (length front) e h) (directory_of slots most (front ++ e ∷ entries_left turns)) (directory_of slots most (front ++ h.0 ∷ h.1 ∷ entries_left turns)) new told
          (may-part t slots most free front (entries_left turns) e h left s) (parted slots most front (entries_left turns) e h) on

pub goes-by-steps : (t : ℕ) (d : DirectoryView) → GoesBySteps d (after_epoch t d) (epoch_notes t d)
goes-by-steps t d =
    let merged : List Turn = turns_of_merges t d in
    let free : ℕ = d.slots - length (entries_left merged) in
    let told : List Note = split_notes (epoch_turns t d) in
    let ends : GoesBySteps (directory_of d.slots d.most (entries_left (epoch_turns t d))) (after_epoch t d) [] = record { steps = []; may = tt; noted = refl; cleared = refl } in
    let splits : GoesBySteps (directory_of d.slots d.most (entries_left merged)) (after_epoch t d) told = parts t d.slots d.most (after_epoch t d) [] free merged (are-kept t d.most None d.entries) refl ends in
    let all : GoesBySteps d (after_epoch t d) (merge_notes merged ++ told) = joins t d.slots d.most (after_epoch t d) told [] None d.entries splits in
    subst (λ notes. GoesBySteps d (after_epoch t d) (notes ++ told)) (sym (epoch-merges t d)) all
