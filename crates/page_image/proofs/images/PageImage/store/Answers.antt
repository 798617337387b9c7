use Rattle.std.proofs.Common.{◌≡◌, ◌+◌, ◌-◌, ◌++◌, take, drop, length, drop-drop, arith, refl, ap, sym, subst, ◌∙◌}
use Rattle.std.specs.Int.{w32, to_le_bytes}
use Rattle.std.proofs.lemmas.List.{with_items_is}
use Rattle.page_image.specs.PageImage.{IsPageImage}
use Rattle.page_image.proofs.Laws.{view-write, length-write, IsPageImage-image_after}
use Rattle.page_image.proofs.images.PageImage.store.Goals as goal

pub returns-clause-after : goal.returns-clause-after
returns-clause-after c =
    let bytes : c.deref_mut.result.now ≡ c.args.self.now.bytes = c.deref_mut.ensures.value ∙ rw (← c.self.view_is) refl in
    let size : c.args.offset + c.args.size - c.args.offset ≡ c.args.size = omega arith in
    let part : c.copy_from_slice.new.self ≡ take c.args.size (to_le_bytes w32 c.args.value) = c.copy_from_slice.ensures.after ∙ rw c.to_le_bytes-bytes.ensures refl in
    let written : take c.args.offset c.deref_mut.result.now ++ (c.copy_from_slice.new.self ++ drop (c.args.offset + c.args.size - c.args.offset) (drop c.args.offset c.deref_mut.result.now)) ≡ take c.args.offset c.args.self.now.bytes ++ (take c.args.size (to_le_bytes w32 c.args.value) ++ drop (c.args.offset + c.args.size) c.args.self.now.bytes) = rw (bytes, part, size, drop-drop) refl in
    let is : IsPageImage c.args.self.now = subst IsPageImage c.self.view_is c.self.invariant in
    let count : c.self.inside.bytes.len ≡ 4096 = c.self.inside.bytes.ok.0 ∙ c.self.invariant.byte_count in
    let full : length (take c.args.offset c.deref_mut.result.now ++ (c.copy_from_slice.new.self ++ drop (c.args.offset + c.args.size - c.args.offset) (drop c.args.offset c.deref_mut.result.now))) ≡ c.self.inside.bytes.len = ap length written ∙ (length-write c.args.self.now.bytes c.args.offset c.args.size c.args.value is.byte_count c.requires ∙ sym count) in
    view-write c.args.self.now c.args.offset c.args.size c.args.value c.args.tag _ _ (with_items_is c.self.inside.bytes _ full ∙ written) (rw (← c.self.view_is) refl)

pub returns-clause-shape : goal.returns-clause-shape
returns-clause-shape c =
    let is : IsPageImage c.args.self.now = subst IsPageImage c.self.view_is c.self.invariant in
    subst IsPageImage (sym (returns-clause-after c)) (IsPageImage-image_after c.args.self.now c.args.offset c.args.size c.args.value c.args.tag is c.requires c.ranges.tag.fits)
