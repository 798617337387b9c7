use Rattle.std.proofs.Common.{◌∙◌, refl, sym, ap, drop_of_length-le}
use Rattle.std.specs.FinMap.{get, get-empty}
use Rattle.std.specs.Ordering.{nat_cmp}
use Rattle.std.specs.Cmp.Lexicographic.{slice_cmp}
use Rattle.mind_base.specs.Store.{file_map}
use Rattle.mind_base.specs.MemStore.{contents}
use Rattle.mind_base.proofs.Files.{get-at_file}
use Rattle.mind_base.proofs.memory_stores.find.Goals as goal

pub returns-then-eq : goal.returns-then-eq
returns-then-eq c =
    let step = get-at_file c.args.files.now c.loop-file.file-index c.file-item.result c.args.name.now c.loop-file-test.true c.file-item.is in
    sym (c.loop-file.invariant ∙ step ∙ rw (← c.as_str.ensures, ← c.if-eq.ensures) refl)

pub loop-file-preserved : goal.loop-file-preserved
loop-file-preserved c =
    let step = get-at_file c.args.files.now c.loop-file.file-index c.file-item.result c.args.name.now c.loop-file-test.true c.file-item.is in
    c.loop-file.invariant ∙ step ∙ rw (← c.as_str.ensures, ← c.if-eq.ensures) refl

pub returns : goal.returns
returns c = sym (c.loop-file.invariant
    ∙ ap (λ fs. get (file_map (contents fs)) c.args.name.now) (drop_of_length-le c.args.files.now c.loop-file-test.false)
    ∙ get-empty (slice_cmp nat_cmp) c.args.name.now)
