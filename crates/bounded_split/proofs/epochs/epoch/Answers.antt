use Rattle.std.proofs.Common.{◌≡◌, ℕ, ◌+◌, ◌*◌, ◌≤◌, List, ◌++◌, length, map, ap, subst, sym, ◌∙◌, append_assoc}
use Rattle.mind_base.specs.declared.notes.Note.{Note}
use Rattle.region_directory.specs.Directory.{DirectoryView}
use Rattle.region_directory.specs.Entry.{with_hits}
use Rattle.region_directory.specs.declared.entries.Entry.{Entry}
use Rattle.bounded_split.specs.Epoch.{epoch_turns, entries_left, merge_notes, split_notes, turns_of_merges}
use Rattle.bounded_split.specs.Hot.{hot_turns_in}
use Rattle.bounded_split.specs.declared.epochs.EpochSums.{EpochSums}
use Rattle.bounded_split.proofs.Turning.{merged_directory, epoch-left, epoch-merges, epoch-splits, splits-bound}
use Rattle.bounded_split.proofs.epochs.epoch.Goals as goal

pub returns-clause-directory : goal.returns-clause-directory
returns-clause-directory g c =
    let t = c.args.policy.now.threshold in
    let d = c.args.directory.now in
    c.clear_hits.ensures.cleared
    ∙ ap (λ (v : DirectoryView). record v { entries = map (with_hits 0) v.entries }) c.split_all-splits.ensures.turned.changed
    ∙ ap (λ (v : DirectoryView). record v { entries = map (with_hits 0) (entries_left (hot_turns_in t v)) }) c.merge_all-merges.ensures.turned.changed
    ∙ ap (λ (xs : List Entry). record d { entries = map (with_hits 0) xs }) (sym (epoch-left t d))

pub returns-clause-notes : goal.returns-clause-notes
returns-clause-notes g c =
    let t = c.args.policy.now.threshold in
    let d = c.args.directory.now in
    let old : List Note = c.args.log.now.notes in
    let merged : List Note = merge_notes (turns_of_merges t d) in
    c.split_all-splits.ensures.turned.notes
    ∙ ap (λ (xs : List Note). xs ++ split_notes (hot_turns_in t c.merge_all-merges.new.directory)) (c.merge_all-merges.ensures.turned.notes ∙ ap (λ (xs : List Note). xs ++ merged) c.reserve.ensures.notes)
    ∙ append_assoc old merged (split_notes (hot_turns_in t c.merge_all-merges.new.directory))
    ∙ ap (λ (v : DirectoryView). old ++ (merged ++ split_notes (hot_turns_in t v))) c.merge_all-merges.ensures.turned.changed
    ∙ ap (λ (xs : List Note). old ++ (xs ++ split_notes (hot_turns_in t (merged_directory t d)))) (sym (epoch-merges t d))
    ∙ ap (λ (xs : List Note). old ++ (merge_notes (epoch_turns t d) ++ xs)) (sym (epoch-splits t d))

pub returns-clause-sums : goal.returns-clause-sums
returns-clause-sums g c =
    let t = c.args.policy.now.threshold in
    let d = c.args.directory.now in
    let made : ℕ → ℕ → ℕ → EpochSums = λ merges splits hits. record { merges = merges; splits = splits; hits = hits } in
    let merges : c.merge_all-merges.result ≡ length (merge_notes (epoch_turns t d)) = c.merge_all-merges.ensures.turned.count ∙ ap (λ (xs : List Note). length xs) (sym (epoch-merges t d)) in
    let splits : c.split_all-splits.result ≡ length (split_notes (epoch_turns t d)) =
    c.split_all-splits.ensures.turned.count ∙ ap (λ (v : DirectoryView). length (split_notes (hot_turns_in t v))) c.merge_all-merges.ensures.turned.changed ∙ ap (λ (xs : List Note). length xs) (sym (epoch-splits t d)) in
    ap (λ (n : ℕ). made n c.split_all-splits.result c.total_hits-hits.result) merges
    ∙ ap (λ (n : ℕ). made (length (merge_notes (epoch_turns t d))) n c.total_hits-hits.result) splits
    ∙ ap (λ (n : ℕ). made (length (merge_notes (epoch_turns t d))) (length (split_notes (epoch_turns t d))) n) c.total_hits-hits.ensures

pub returns-clause-bound : goal.returns-clause-bound
returns-clause-bound g c =
    let t = c.args.policy.now.threshold in
    let d = c.args.directory.now in
    let splits : c.split_all-splits.result ≡ length (split_notes (epoch_turns t d)) =
    c.split_all-splits.ensures.turned.count ∙ ap (λ (v : DirectoryView). length (split_notes (hot_turns_in t v))) c.merge_all-merges.ensures.turned.changed ∙ ap (λ (xs : List Note). length xs) (sym (epoch-splits t d)) in
    subst (λ (n : ℕ). n * (t + 1) ≤ c.total_hits-hits.result) (sym splits)
    (subst (λ (h : ℕ). length (split_notes (epoch_turns t d)) * (t + 1) ≤ h) (sym c.total_hits-hits.ensures) (splits-bound t d))
