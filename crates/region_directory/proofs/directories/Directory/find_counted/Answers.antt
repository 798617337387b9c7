use Rattle.std.proofs.Common.{◌≡◌, ◌+◌, ◌-◌, ◌/◌, true, get_or, length, refl, sym, ◌∙◌, inl, inr, arith}
use Rattle.std.proofs.lemmas.Bool.{cases_lt, true≢false}
use Rattle.mind_base.specs.Range.{in_range}
use Rattle.region_directory.specs.Entry.{NoneHas}
use Rattle.region_directory.specs.Side.{where_lies}
use Rattle.region_directory.specs.declared.sides.Where.TheVariants.{Before, After}
use Rattle.region_directory.proofs.LookUpLemmas.{FailBetween, lies-inside, before-fails, after-fails, found-inside, found-nowhere, narrowed, few-steps}
use Rattle.region_directory.proofs.SearchLemmas.{blank, at-got, found-has, none-has, some-has}
use Rattle.region_directory.proofs.directories.Directory.find_counted.Goals as goal

pub probe-requires-clause-counts : goal.probe-requires-clause-counts
probe-requires-clause-counts c =
    let valid = c.len-high.ensures.valid in
    let few = few-steps (c.loop-low.steps - c.args.steps.now) (length c.args.self.now.entries) c.loop-low.invariant.6 (omega (arith, valid.fits, valid.slots_bound)) in
    omega (arith, few, c.requires)

pub loop-low-preserved-in-Before : goal.loop-low-preserved-in-Before
loop-low-preserved-in-Before c =
    let middle = c.loop-low.low + (c.loop-low.high - c.loop-low.low) / 2 in
    let there = at-got (λ entry. c.probe.result ≡ where_lies entry.range c.args.page) c.args.self.now.entries middle blank c.probe.ensures.side in
    let before : where_lies (get_or c.args.self.now.entries middle blank).range c.args.page ≡ Before = sym there.1 ∙ c.in-Before.is in
    let few = narrowed c.args.steps.now c.loop-low.steps c.probe.new.steps (length c.args.self.now.entries) (c.loop-low.high - c.loop-low.low) (middle - c.loop-low.low) c.loop-low.invariant.4 c.probe.ensures.counted c.loop-low.invariant.5 (omega arith) (omega arith) in
    (omega arith, omega (arith, there.0), c.loop-low.invariant.2, before-fails c.args.self.now c.args.page c.len-high.ensures.valid middle there.0 before, omega (arith, c.probe.ensures.counted, c.loop-low.invariant.4), few.0, few.1)

pub returns-in-Inside-clause-first : goal.returns-in-Inside-clause-first
returns-in-Inside-clause-first c =
    let middle = c.loop-low.low + (c.loop-low.high - c.loop-low.low) / 2 in
    let there = at-got (λ entry. c.probe.result ≡ where_lies entry.range c.args.page) c.args.self.now.entries middle blank c.probe.ensures.side in
    let inside : in_range (get_or c.args.self.now.entries middle blank).range c.args.page ≡ true = lies-inside (get_or c.args.self.now.entries middle blank).range c.args.page (sym there.1 ∙ c.in-Inside.is) in
    sym (found-inside c.args.self.now c.args.page c.len-high.ensures.valid middle there.0 inside)

pub returns-in-Inside-clause-none : goal.returns-in-Inside-clause-none
returns-in-Inside-clause-none c =
    let middle = c.loop-low.low + (c.loop-low.high - c.loop-low.low) / 2 in
    let found = found-has c.args.self.now.entries c.args.page middle (sym (returns-in-Inside-clause-first c)) in
    (λ e. absurd (true≢false e), λ none. absurd (some-has c.args.self.now.entries c.args.page middle found none))

pub returns-in-Inside-clause-few : goal.returns-in-Inside-clause-few
returns-in-Inside-clause-few c =
    (narrowed c.args.steps.now c.loop-low.steps c.probe.new.steps (length c.args.self.now.entries) (c.loop-low.high - c.loop-low.low) 0 c.loop-low.invariant.4 c.probe.ensures.counted c.loop-low.invariant.5 (omega arith) (omega arith)).1

pub loop-low-preserved : goal.loop-low-preserved
loop-low-preserved c =
    let middle = c.loop-low.low + (c.loop-low.high - c.loop-low.low) / 2 in
    let there = at-got (λ entry. c.probe.result ≡ where_lies entry.range c.args.page) c.args.self.now.entries middle blank c.probe.ensures.side in
    let after : where_lies (get_or c.args.self.now.entries middle blank).range c.args.page ≡ After = sym there.1 ∙ c.in-After.is in
    let few = narrowed c.args.steps.now c.loop-low.steps c.probe.new.steps (length c.args.self.now.entries) (c.loop-low.high - c.loop-low.low) (c.loop-low.high - (middle + 1)) c.loop-low.invariant.4 c.probe.ensures.counted c.loop-low.invariant.5 (omega arith) (omega arith) in
    let fail = after-fails c.args.self.now c.args.page c.len-high.ensures.valid middle there.0 after in
    (omega arith, c.loop-low.invariant.1, (λ k le lt. fail k le (omega arith)), c.loop-low.invariant.3, omega (arith, c.probe.ensures.counted, c.loop-low.invariant.4), few.0, few.1)

pub returns-clause-first : goal.returns-clause-first
returns-clause-first c =
    let all : FailBetween c.args.self.now.entries c.args.page 0 (length c.args.self.now.entries) = λ k le lt.
    elim (cases_lt k c.loop-low.low) [
      | inl below ↦ c.loop-low.invariant.2 k le below
      | inr past ↦ c.loop-low.invariant.3 k (omega (arith, c.loop-low.invariant.0)) lt
    ] in
    sym (found-nowhere c.args.self.now.entries c.args.page all)

pub returns-clause-none : goal.returns-clause-none
returns-clause-none c =
    let all : NoneHas c.args.self.now.entries c.args.page = none-has c.args.self.now.entries c.args.page (sym (returns-clause-first c)) in
    (λ _. all, λ _. refl)
