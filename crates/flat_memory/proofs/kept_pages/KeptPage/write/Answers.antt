use Rattle.std.proofs.Common.{◌≡◌, ◌+◌, ◌-◌, ◌++◌, take, drop, length, drop-drop, get_or, arith, refl, ap, sym, ◌∙◌}
use Rattle.std.proofs.lemmas.List.{with_items_is}
use Rattle.flat_memory.proofs.Pages.{get_or-copied, length-copied}
use Rattle.flat_memory.proofs.kept_pages.KeptPage.write.Goals as goal

pub returns : goal.returns
returns c k =
    let bytes : c.deref_mut.result.now ≡ c.args.self.now = c.deref_mut.ensures.value ∙ rw (← c.self.view_is) refl in
    let size : c.args.offset + length c.args.bytes.now - c.args.offset ≡ length c.args.bytes.now = omega arith in
    let count : length c.args.self.now ≡ 4096 = ap length (sym c.self.view_is) ∙ c.self.invariant in
    let over : take c.args.offset c.deref_mut.result.now ++ (c.copy_from_slice.new.self ++ drop (c.args.offset + length c.args.bytes.now - c.args.offset) (drop c.args.offset c.deref_mut.result.now)) ≡ take c.args.offset c.args.self.now ++ (c.args.bytes.now ++ drop (c.args.offset + length c.args.bytes.now) c.args.self.now) = rw (bytes, c.copy_from_slice.ensures.after, size, drop-drop) refl in
    let full : length (take c.args.offset c.deref_mut.result.now ++ (c.copy_from_slice.new.self ++ drop (c.args.offset + length c.args.bytes.now - c.args.offset) (drop c.args.offset c.deref_mut.result.now))) ≡ c.self.inside.bytes.len = ap length over ∙ (length-copied c.args.self.now c.args.bytes.now c.args.offset (rw count c.requires) ∙ (count ∙ sym (c.self.inside.bytes.ok.0 ∙ c.self.invariant))) in
    ap (λ xs. get_or xs k 0) (with_items_is c.self.inside.bytes _ full ∙ over) ∙ get_or-copied c.args.self.now c.args.bytes.now c.args.offset k (rw count c.requires)
