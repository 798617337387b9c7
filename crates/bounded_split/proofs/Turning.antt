-- The splits go over the entries that the merges left: one that was merged is cold, and so is not split. And why splits are few.
use Rattle.std.proofs.Common.{◌≡◌, ℕ, ◌+◌, ◌-◌, ◌*◌, ◌<◌, ◌≤◌, ◌^◌, Bool, true, false, cond, ◌&&◌, nat_lt, ◌==◌, min, Option, Some, None, List, [], ◌∷◌, length, refl, ap, sym, ◌∙◌, suc, arith}
use Rattle.std.specs.Option.{option_map_or}
use Rattle.std.proofs.lemmas.Bool.Decides.{nat_tests}
use Rattle.std.proofs.lemmas.List.Sums.{sum_by-cons}
use Rattle.mind_base.specs.declared.notes.Note.TheVariants as note
use Rattle.region_directory.specs.Directory.{DirectoryView}
use Rattle.region_directory.specs.Merge.{merged_entry}
use Rattle.region_directory.specs.Split.{split_entry}
use Rattle.region_directory.specs.declared.entries.Entry.{Entry}
use Rattle.region_directory.proofs.Callers.{merged-hits}
use Rattle.bounded_split.specs.Epoch.{Turn, Stays, Merges, Splits, judged, cold_merge, turns_behind, hot_split, split_turns, entries_left, merge_notes, split_notes, turns_of_merges, epoch_turns, total_hits}
use Rattle.bounded_split.specs.Hot.{hot_turns, hot_turns_in}
use Rattle.bounded_split.specs.Verdict.{is_split, is_cold}
use Rattle.bounded_split.specs.declared.loads.Verdict.TheVariants.{Split, Keep, Cold}

-- ---- verdicts

cold-tests : (x y : Bool) → is_cold (cond x Split (cond y Cold Keep)) ≡ true → y ≡ true
cold-tests true y e = absurd (cc)
cold-tests false true e = refl
cold-tests false false e = absurd (cc)

split-tests : (x y : Bool) → is_split (cond x Split (cond y Cold Keep)) ≡ x
split-tests true y = refl
split-tests false true = refl
split-tests false false = refl

tests-zero : (n : ℕ) → (n == 0) ≡ true → n ≡ 0
tests-zero n e = grind (arith, nat_tests)

-- a cold entry has no hits
pub cold-hits : (t : ℕ) (e : Entry) → is_cold (judged t e) ≡ true → e.hits ≡ 0
cold-hits t e c = tests-zero e.hits (cold-tests (nat_lt 0 e.range.log && nat_lt t e.hits) (e.hits == 0) c)

no-hits : (l t n : ℕ) → n ≡ 0 → (nat_lt 0 l && nat_lt t n) ≡ false
no-hits l t n e = grind (arith, nat_tests)

-- an entry without hits is not to be split
pub still-kept : (t : ℕ) (e : Entry) → e.hits ≡ 0 → is_split (judged t e) ≡ false
still-kept t e z = split-tests (nat_lt 0 e.range.log && nat_lt t e.hits) (e.hits == 0) ∙ no-hits e.range.log t e.hits z

many : (l t n : ℕ) → (nat_lt 0 l && nat_lt t n) ≡ true → t < n
many l t n e = grind (arith, nat_tests)

-- one that is to be split has more hits than the threshold
pub split-hits : (t : ℕ) (e : Entry) → is_split (judged t e) ≡ true → t < e.hits
split-hits t e s = many e.range.log t e.hits (sym (split-tests (nat_lt 0 e.range.log && nat_lt t e.hits) (e.hits == 0)) ∙ s)

-- ---- what was merged is not split

both-true : (x y : Bool) → (x && y) ≡ true → (x ≡ true) × (y ≡ true)
both-true true true e = (refl, refl)
both-true true false e = absurd (cc)
both-true false y e = absurd (cc)

pub merged-from : (x y : Bool) (o : Option Entry) (w : Entry) → cond (x && y) o None ≡ Some w → (x ≡ true) × (y ≡ true) × (o ≡ Some w)
merged-from true true o w e = (refl, refl, e)
merged-from true false o w e = absurd (cc)
merged-from false y o w e = absurd (cc)

merged-kept : (t m : ℕ) (a b w : Entry) → cold_merge t m a b ≡ Some w → is_split (judged t w) ≡ false
merged-kept t m a b w e =
    let f = merged-from (is_cold (judged t a)) (is_cold (judged t b)) (merged_entry m a b) w e in
    let sum : w.hits ≡ min (a.hits + b.hits) (2 ^ 32 - 1) = merged-hits m a b w f.2 in
    still-kept t w (omega (arith, sum, cold-hits t a f.0, cold-hits t b f.1))

-- turns of merges alone, each of entries that are not to be split
abbrev pub AreKept : ℕ → List Turn → Type 0
AreKept t [] = Unit {0}
AreKept t (Stays e ∷ ts) = AreKept t ts
AreKept t (Merges w ∷ ts) = (is_split (judged t w) ≡ false) × AreKept t ts
AreKept t (Splits e h ∷ ts) = ⊥

pub are-kept : (t m : ℕ) (o : Option Entry) (es : List Entry) → AreKept t (turns_behind t m o es)
are-kept t m None [] = tt
are-kept t m (Some a) [] = tt
are-kept t m None (e ∷ es) = are-kept t m (Some e) es
are-kept t m (Some a) (b ∷ es) = by (are-kept t m (Some b) es) (are-kept t m None es) (cold_merge t m a b) refl where
  by : AreKept t (turns_behind t m (Some b) es) → AreKept t (turns_behind t m None es) → (o : Option Entry) → cold_merge t m a b ≡ o → AreKept t (option_map_or (λ whole. Merges whole ∷ turns_behind t m None es) o (Stays a ∷ turns_behind t m (Some b) es))
  by stay merge None e = stay
  by stay merge (Some w) e = (merged-kept t m a b w e, merge)

kept-whole : (t free : ℕ) (w : Entry) → is_split (judged t w) ≡ false → hot_split t free w ≡ None
kept-whole t free w k = by (nat_lt 0 free) (is_split (judged t w)) k where
  by : (x y : Bool) → y ≡ false → cond (x && y) (split_entry w) None ≡ None
  by true true e = absurd (cc)
  by true false e = refl
  by false y e = refl

-- so the turns over what the merges left are the same
pub same-left : (t free : ℕ) (ts : List Turn) → AreKept t ts → entries_left (split_turns t free ts) ≡ entries_left (hot_turns t free (entries_left ts))
same-left t free [] k = refl
same-left t free (Stays e ∷ ts) k = by (same-left t free ts k) (same-left t (free - 1) ts k) (hot_split t free e) where
  by : entries_left (split_turns t free ts) ≡ entries_left (hot_turns t free (entries_left ts)) → entries_left (split_turns t (free - 1) ts) ≡ entries_left (hot_turns t (free - 1) (entries_left ts)) → (o : Option (Entry × Entry)) → entries_left (option_map_or (λ halves. Splits e halves ∷ split_turns t (free - 1) ts) o (Stays e ∷ split_turns t free ts))
      ≡ entries_left (option_map_or (λ halves. Splits e halves ∷ hot_turns t (free - 1) (entries_left ts)) o (Stays e ∷ hot_turns t free (entries_left ts)))
  by stay halve None = ap (λ xs. e ∷ xs) stay
  by stay halve (Some h) = ap (λ xs. h.0 ∷ h.1 ∷ xs) halve
same-left t free (Merges w ∷ ts) k =
    ap (λ xs. w ∷ xs) (same-left t free ts k.1)
    ∙ sym (ap (λ (o : Option (Entry × Entry)). entries_left (option_map_or (λ halves. Splits w halves ∷ hot_turns t (free - 1) (entries_left ts)) o (Stays w ∷ hot_turns t free (entries_left ts)))) (kept-whole t free w k.0))
same-left t free (Splits e h ∷ ts) k = absurd k

pub same-splits : (t free : ℕ) (ts : List Turn) → AreKept t ts → split_notes (split_turns t free ts) ≡ split_notes (hot_turns t free (entries_left ts))
same-splits t free [] k = refl
same-splits t free (Stays e ∷ ts) k = by (same-splits t free ts k) (same-splits t (free - 1) ts k) (hot_split t free e) where
  by : split_notes (split_turns t free ts) ≡ split_notes (hot_turns t free (entries_left ts)) → split_notes (split_turns t (free - 1) ts) ≡ split_notes (hot_turns t (free - 1) (entries_left ts)) → (o : Option (Entry × Entry)) → split_notes (option_map_or (λ halves. Splits e halves ∷ split_turns t (free - 1) ts) o (Stays e ∷ split_turns t free ts))
      ≡ split_notes (option_map_or (λ halves. Splits e halves ∷ hot_turns t (free - 1) (entries_left ts)) o (Stays e ∷ hot_turns t free (entries_left ts)))
  by stay halve None = stay
  by stay halve (Some h) = ap (λ xs. note.Split e.range ∷ xs) halve
same-splits t free (Merges w ∷ ts) k =
    same-splits t free ts k.1
    ∙ sym (ap (λ (o : Option (Entry × Entry)). split_notes (option_map_or (λ halves. Splits w halves ∷ hot_turns t (free - 1) (entries_left ts)) o (Stays w ∷ hot_turns t free (entries_left ts)))) (kept-whole t free w k.0))
same-splits t free (Splits e h ∷ ts) k = absurd k

pub same-merges : (t free : ℕ) (ts : List Turn) → AreKept t ts → merge_notes (split_turns t free ts) ≡ merge_notes ts
same-merges t free [] k = refl
same-merges t free (Stays e ∷ ts) k = by (same-merges t free ts k) (same-merges t (free - 1) ts k) (hot_split t free e) where
  by : merge_notes (split_turns t free ts) ≡ merge_notes ts → merge_notes (split_turns t (free - 1) ts) ≡ merge_notes ts → (o : Option (Entry × Entry)) → merge_notes (option_map_or (λ halves. Splits e halves ∷ split_turns t (free - 1) ts) o (Stays e ∷ split_turns t free ts)) ≡ merge_notes ts
  by stay halve None = stay
  by stay halve (Some h) = halve
same-merges t free (Merges w ∷ ts) k = ap (λ xs. note.Merge w.range ∷ xs) (same-merges t free ts k.1)
same-merges t free (Splits e h ∷ ts) k = absurd k

-- the directory when the merges are done
abbrev pub merged_directory : ℕ → DirectoryView → DirectoryView
merged_directory t d = record d { entries = entries_left (turns_of_merges t d) }

pub epoch-left : (t : ℕ) (d : DirectoryView) → entries_left (epoch_turns t d) ≡ entries_left (hot_turns_in t (merged_directory t d))
epoch-left t d = same-left t (d.slots - length (entries_left (turns_of_merges t d))) (turns_of_merges t d) (are-kept t d.most None d.entries)

pub epoch-splits : (t : ℕ) (d : DirectoryView) → split_notes (epoch_turns t d) ≡ split_notes (hot_turns_in t (merged_directory t d))
epoch-splits t d = same-splits t (d.slots - length (entries_left (turns_of_merges t d))) (turns_of_merges t d) (are-kept t d.most None d.entries)

pub epoch-merges : (t : ℕ) (d : DirectoryView) → merge_notes (epoch_turns t d) ≡ merge_notes (turns_of_merges t d)
epoch-merges t d = same-merges t (d.slots - length (entries_left (turns_of_merges t d))) (turns_of_merges t d) (are-kept t d.most None d.entries)

-- ---- splits are few

-- the hits of the entries that stay
abbrev kept_hits : List Turn → ℕ
kept_hits [] = 0
kept_hits (Stays e ∷ ts) = e.hits + kept_hits ts
kept_hits (Merges w ∷ ts) = kept_hits ts
kept_hits (Splits e h ∷ ts) = kept_hits ts

hot-hits : (t free : ℕ) (e : Entry) (h : Entry × Entry) → hot_split t free e ≡ Some h → t < e.hits
hot-hits t free e h s = split-hits t e (by (nat_lt 0 free) (is_split (judged t e)) s) where
  by : (x y : Bool) → cond (x && y) (split_entry e) None ≡ Some h → y ≡ true
  by true true q = refl
  by true false q = absurd (cc)
  by false y q = absurd (cc)

one-more : (n k p q : ℕ) → n * k ≤ p → k ≤ q → suc n * k ≤ q + p
one-more n k p q a b = omega arith

few-splits : (t free : ℕ) (ts : List Turn) → AreKept t ts → length (split_notes (split_turns t free ts)) * (t + 1) ≤ kept_hits ts
few-splits t free [] k = omega arith
few-splits t free (Stays e ∷ ts) k = by (few-splits t free ts k) (few-splits t (free - 1) ts k) (hot_split t free e) refl where
  by : length (split_notes (split_turns t free ts)) * (t + 1) ≤ kept_hits ts → length (split_notes (split_turns t (free - 1) ts)) * (t + 1) ≤ kept_hits ts → (o : Option (Entry × Entry)) → hot_split t free e ≡ o → length (split_notes (option_map_or (λ halves. Splits e halves ∷ split_turns t (free - 1) ts) o (Stays e ∷ split_turns t free ts))) * (t + 1) ≤ e.hits + kept_hits ts
  by stay halve None s = omega (arith, stay)
  by stay halve (Some h) s = one-more (length (split_notes (split_turns t (free - 1) ts))) (t + 1) (kept_hits ts) e.hits halve (omega (arith, hot-hits t free e h s))
few-splits t free (Merges w ∷ ts) k = few-splits t free ts k.1
few-splits t free (Splits e h ∷ ts) k = absurd k

abbrev waiting_hits : Option Entry → ℕ
waiting_hits None = 0
waiting_hits (Some e) = e.hits

total-cons : (e : Entry) (es : List Entry) → total_hits (e ∷ es) ≡ e.hits + total_hits es
total-cons e es = sum_by-cons (λ (x : Entry). x.hits) e es

kept-fewer : (t m : ℕ) (o : Option Entry) (es : List Entry) → kept_hits (turns_behind t m o es) ≤ waiting_hits o + total_hits es
kept-fewer t m None [] = omega arith
kept-fewer t m (Some a) [] = omega arith
kept-fewer t m None (e ∷ es) = omega (arith, kept-fewer t m (Some e) es, total-cons e es)
kept-fewer t m (Some a) (b ∷ es) = by (kept-fewer t m (Some b) es) (kept-fewer t m None es) (cold_merge t m a b) where
  by : kept_hits (turns_behind t m (Some b) es) ≤ b.hits + total_hits es → kept_hits (turns_behind t m None es) ≤ 0 + total_hits es → (o : Option Entry) → kept_hits (option_map_or (λ whole. Merges whole ∷ turns_behind t m None es) o (Stays a ∷ turns_behind t m (Some b) es)) ≤ a.hits + total_hits (b ∷ es)
  by stay merge None = omega (arith, stay, total-cons b es)
  by stay merge (Some w) = omega (arith, merge, total-cons b es)

-- each split used up more hits than the threshold
pub splits-bound : (t : ℕ) (d : DirectoryView) → length (split_notes (epoch_turns t d)) * (t + 1) ≤ total_hits d.entries
splits-bound t d =
    omega (arith, few-splits t (d.slots - length (entries_left (turns_of_merges t d))) (turns_of_merges t d) (are-kept t d.most None d.entries), kept-fewer t d.most None d.entries)
