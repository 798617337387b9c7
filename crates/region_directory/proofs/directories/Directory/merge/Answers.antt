use Rattle.std.proofs.Common.{◌≡◌, ◌+◌, ◌<◌, List, Option, Some, length, refl, ap, subst, sym, ◌∙◌, arith}
use Rattle.std.specs.Option.{option_map}
use Rattle.region_directory.specs.Directory.{DirectoryView}
use Rattle.region_directory.specs.Merge.{merged_pair, merge_of, with_merge}
use Rattle.region_directory.specs.declared.entries.Entry.{Entry}
use Rattle.region_directory.proofs.ResizeLemmas.{IsDirectory-merge}
use Rattle.region_directory.proofs.directories.Directory.merge.Goals as goal

pub returns-clause-valid : goal.returns-clause-valid
returns-clause-valid c =
    let es = c.self.inside.entries.items in
    let next : c.args.i + 1 < length es = omega (arith, ap length c.as_slice.ensures.value, c.in-Some.ensures.next refl) in
    let pair : merged_pair c.self.inside.most es c.args.i ≡ Some c.in-Some.whole = sym (c.in-Some.ensures.pair ∙ ap (λ (xs : List Entry). merged_pair c.self.inside.most xs c.args.i) c.as_slice.ensures.value) in
    IsDirectory-merge c.self.inside.slots c.self.inside.most c.args.i es c.put_one.new.entries.items c.in-Some.whole next pair c.self.invariant.1 c.put_one.ensures.entries

pub invariant_of-self : goal.invariant_of-self
invariant_of-self c =
    (omega (arith, c.self.invariant.0, c.put_one.ensures.capacity), returns-clause-valid c)

pub returns-clause-block : goal.returns-clause-block
returns-clause-block c =
    let pair : merged_pair c.self.inside.most c.self.inside.entries.items c.args.i ≡ Some c.in-Some.whole = sym (c.in-Some.ensures.pair ∙ ap (λ (xs : List Entry). merged_pair c.self.inside.most xs c.args.i) c.as_slice.ensures.value) in
    sym (ap (λ (v : DirectoryView). option_map (λ (whole : Entry). whole.range) (merge_of v c.args.i)) (sym c.self.view_is) ∙ ap (λ (o : Option Entry). option_map (λ (whole : Entry). whole.range) o) pair)

pub returns-clause-changed : goal.returns-clause-changed
returns-clause-changed c =
    let es = c.self.inside.entries.items in
    let pair : merged_pair c.self.inside.most es c.args.i ≡ Some c.in-Some.whole = sym (c.in-Some.ensures.pair ∙ ap (λ (xs : List Entry). merged_pair c.self.inside.most xs c.args.i) c.as_slice.ensures.value) in
    let new : DirectoryView = record { slots = c.self.inside.slots; most = c.self.inside.most; entries = c.put_one.new.entries.items } in
    subst (λ (v : DirectoryView). new ≡ record { slots = v.slots; most = v.most; entries = with_merge c.args.i (merge_of v c.args.i) v.entries }) c.self.view_is
    (ap (λ (xs : List Entry). record new { entries = xs }) (c.put_one.ensures.entries ∙ ap (λ (o : Option Entry). with_merge c.args.i o es) (sym pair)))
