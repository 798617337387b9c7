use Rattle.std.proofs.Common.{◌≡◌, ℕ, ◌<◌, ◌≤◌, ap, subst, sym, ◌∙◌}
use Rattle.std.proofs.lemmas.Bool.{cases_lt}
use Rattle.region_directory.specs.Block.{block_of}
use Rattle.region_directory.specs.Directory.{DirectoryView}
use Rattle.region_directory.specs.Entry.{MeetsNone}
use Rattle.region_directory.proofs.SearchLemmas.{new-free, new-largest}
use Rattle.region_directory.proofs.directories.Directory.new_range.Goals as goal

pub returns-clause-free : goal.returns-clause-free
returns-clause-free c =
    let same : c.as_slice.result.now ≡ c.args.self.now.entries = c.as_slice.ensures.value ∙ ap (λ (v : DirectoryView). v.entries) c.self.view_is in
    let free : 0 < c.largest_free.result.log → MeetsNone c.args.self.now.entries c.largest_free.result = λ lt. subst (λ es. MeetsNone es c.largest_free.result) same (c.largest_free.ensures.free lt) in
    new-free c.args.self.now.entries c.args.page c.largest_free.result c.largest_free.ensures.block free c.requires.unknown (cases_lt 0 c.largest_free.result.log)

pub returns-clause-largest : goal.returns-clause-largest
returns-clause-largest c other block has size free =
    let same : c.as_slice.result.now ≡ c.args.self.now.entries = c.as_slice.ensures.value ∙ ap (λ (v : DirectoryView). v.entries) c.self.view_is in
    let none : (k : ℕ) → c.largest_free.result.log < k → k ≤ c.args.log → MeetsNone c.args.self.now.entries (block_of c.args.page k) → ⊥ = λ k lo hi meets.
    c.largest_free.ensures.largest k lo hi (subst (λ es. MeetsNone es (block_of c.args.page k)) (sym same) meets) in
    new-largest c.args.self.now.entries c.args.page c.args.log c.largest_free.result other none block has size free (cases_lt c.largest_free.result.log other.log)
