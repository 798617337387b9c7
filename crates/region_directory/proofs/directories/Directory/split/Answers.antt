use Rattle.std.proofs.Common.{◌≡◌, ◌+◌, ◌<◌, List, ◌∷◌, ◌++◌, Option, Some, length, get_or, take, drop, is_some, ap, subst, sym, ◌∙◌, suc, arith}
use Rattle.std.proofs.lemmas.Bool.{true≢false}
use Rattle.region_directory.specs.Directory.{DirectoryView}
use Rattle.region_directory.specs.Split.{split_entry, split_of, with_split}
use Rattle.region_directory.specs.declared.entries.Entry.{Entry}
use Rattle.region_directory.proofs.ResizeLemmas.{IsHalved, IsDirectory-two, split-halved, split-some, split-there}
use Rattle.region_directory.proofs.directories.Directory.split.Goals as goal

pub returns-clause-valid : goal.returns-clause-valid
returns-clause-valid c =
    let es = c.self.inside.entries.items in
    let e = c.index.result.now in
    let made : split_entry e ≡ Some (c.in-Some.lower, c.in-Some.upper) = cc in
    let halved : IsHalved (get_or es c.args.i e).range c.in-Some.lower.range c.in-Some.upper.range =
    subst (λ (x : Entry). IsHalved x.range c.in-Some.lower.range c.in-Some.upper.range) c.index.ensures (split-halved e (c.in-Some.lower, c.in-Some.upper) made) in
    let within : c.args.i < length es = subst (λ (v : DirectoryView). c.args.i < length v.entries) (sym c.self.view_is) c.requires in
    let space : length es < c.self.inside.slots = omega (arith, c.self.invariant.1.fits, c.len.ensures) in
    let next : c.args.i + 1 ≡ suc c.args.i = omega arith in
    IsDirectory-two c.self.inside.slots c.self.inside.most c.args.i es c.put_two.new.entries.items c.in-Some.lower c.in-Some.upper e space within halved c.self.invariant.1
    (c.put_two.ensures.entries ∙ ap (λ k. take c.args.i es ++ c.in-Some.lower ∷ c.in-Some.upper ∷ drop k es) next)

pub invariant_of-self : goal.invariant_of-self
invariant_of-self c =
    (omega (arith, c.self.invariant.0, c.put_two.ensures.capacity), returns-clause-valid c)

pub returns-clause-split : goal.returns-clause-split
returns-clause-split c =
    let there = split-there c.self.inside.slots c.self.inside.most c.args.i c.self.inside.entries.items c.args.self.now c.index.result.now (c.in-Some.lower, c.in-Some.upper) c.self.view_is c.requires c.index.ensures (λ full. absurd (omega (arith, c.len.ensures))) cc in
    sym (ap (λ (o : Option (Entry × Entry)). is_some o) there.split)

pub returns-clause-none : goal.returns-clause-none
returns-clause-none c =
    let there = split-there c.self.inside.slots c.self.inside.most c.args.i c.self.inside.entries.items c.args.self.now c.index.result.now (c.in-Some.lower, c.in-Some.upper) c.self.view_is c.requires c.index.ensures (λ full. absurd (omega (arith, c.len.ensures))) cc in
    (λ t. absurd (true≢false t), λ w. absurd (split-some c.args.self.now c.args.i c.index.result.now (c.in-Some.lower, c.in-Some.upper) there.free there.at there.halved w))

pub returns-clause-changed : goal.returns-clause-changed
returns-clause-changed c =
    let there = split-there c.self.inside.slots c.self.inside.most c.args.i c.self.inside.entries.items c.args.self.now c.index.result.now (c.in-Some.lower, c.in-Some.upper) c.self.view_is c.requires c.index.ensures (λ full. absurd (omega (arith, c.len.ensures))) cc in
    let new : DirectoryView = record { slots = c.self.inside.slots; most = c.self.inside.most; entries = c.put_two.new.entries.items } in
    subst (λ (v : DirectoryView). new ≡ record { slots = v.slots; most = v.most; entries = with_split c.args.i (split_of c.args.self.now c.args.i) v.entries }) c.self.view_is
    (ap (λ (xs : List Entry). record new { entries = xs }) (c.put_two.ensures.entries ∙ ap (λ (o : Option (Entry × Entry)). with_split c.args.i o c.self.inside.entries.items) (sym there.split)))
