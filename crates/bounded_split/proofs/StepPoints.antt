-- A step of an epoch leaves a directory.
use Rattle.std.proofs.Common.{◌≡◌, ℕ, ◌+◌, ◌<◌, ◌≤◌, false, cond, ◌==◌, inl, inr, Some, None, List, [], ◌∷◌, ◌++◌, length, get_or, take, drop, slice_get, refl, ap, sym, subst, ◌∙◌, suc, arith}
use Rattle.std.specs.Option.{option_and_then}
use Rattle.std.proofs.lemmas.Bool.{cases_Bool}
use Rattle.std.proofs.lemmas.Bool.Decides.{nat_tests}
use Rattle.std.proofs.lemmas.Option.{same_Some, none-some, option_and_then_some, slice_get-get_or, slice_get_within}
use Rattle.region_directory.specs.Directory.{DirectoryView, IsDirectory}
use Rattle.region_directory.specs.Merge.{merged_entry, merge_of}
use Rattle.region_directory.specs.Split.{split_entry, split_of}
use Rattle.region_directory.specs.declared.entries.Entry.{Entry}
use Rattle.region_directory.proofs.Callers.{IsHalved, IsDirectory-merge, IsDirectory-two, split-halved}
use Rattle.bounded_split.specs.Steps.{EpochStep, Joins, Parts, MayStep, MayStepEach, after_epoch_step, AreDirectories}

-- two entries that become one stand there
second-there : (d : DirectoryView) (i : ℕ) (whole : Entry) → merge_of d i ≡ Some whole → i + 1 < length d.entries
second-there d i whole e =
    option_and_then_some (λ lower. option_and_then (merged_entry d.most lower) (slice_get d.entries (i + 1))) (slice_get d.entries i) whole e (λ lower at f.
    option_and_then_some (merged_entry d.most lower) (slice_get d.entries (i + 1)) whole f (λ upper next g. slice_get_within d.entries (i + 1) upper next))

not-full : (l s : ℕ) → (l == s) ≡ false → l ≤ s → l < s
not-full l s e le = grind (arith, nat_tests)

joins : (d : DirectoryView) (i : ℕ) (whole : Entry) → IsDirectory d → merge_of d i ≡ Some whole → IsDirectory (after_epoch_step (Joins i whole) d)
joins d i whole h e =
    IsDirectory-merge d.slots d.most i d.entries (take i d.entries ++ whole ∷ drop (i + 2) d.entries) whole (second-there d i whole e) e h refl

parts : (d : DirectoryView) (i : ℕ) (entry : Entry) (halves : Entry × Entry) → IsDirectory d → slice_get d.entries i ≡ Some entry → split_of d i ≡ Some halves → IsDirectory (after_epoch_step (Parts i entry halves) d)
parts d i entry halves h at e = elim (cases_Bool (length d.entries == d.slots)) [
  | inl full ↦ absurd (none-some halves (sym (ap (λ b. cond b None (option_and_then split_entry (slice_get d.entries i))) full) ∙ e))
  | inr free ↦
      let made : split_entry entry ≡ Some halves =
      sym (ap (option_and_then split_entry) at) ∙ sym (ap (λ b. cond b None (option_and_then split_entry (slice_get d.entries i))) free) ∙ e in
      let within : i < length d.entries = slice_get_within d.entries i entry at in
      let same : get_or d.entries i entry ≡ entry = same_Some (get_or d.entries i entry) entry (sym (slice_get-get_or d.entries i entry within) ∙ at) in
      let halved : IsHalved (get_or d.entries i entry).range halves.0.range halves.1.range =
      subst (λ (x : Entry). IsHalved x.range halves.0.range halves.1.range) (sym same) (split-halved entry halves made) in
      let next : i + 1 ≡ suc i = omega arith in
      IsDirectory-two d.slots d.most i d.entries (take i d.entries ++ halves.0 ∷ halves.1 ∷ drop (i + 1) d.entries) halves.0 halves.1 entry
      (not-full (length d.entries) d.slots free h.fits) within halved h (ap (λ k. take i d.entries ++ halves.0 ∷ halves.1 ∷ drop k d.entries) next)
]

stays : (step : EpochStep) (d : DirectoryView) → IsDirectory d → MayStep step d → IsDirectory (after_epoch_step step d)
stays (Joins i whole) d h may = joins d i whole h may
stays (Parts i entry halves) d h may = parts d i entry halves h may.0 may.1

pub are-directories : (steps : List EpochStep) (d : DirectoryView) → IsDirectory d → MayStepEach steps d → AreDirectories steps d
are-directories [] d h may = h
are-directories (step ∷ steps) d h may = (h, are-directories steps (after_epoch_step step d) (stays step d h may.0) may.1)
