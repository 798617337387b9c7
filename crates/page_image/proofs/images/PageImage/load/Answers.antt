use Rattle.std.proofs.Common.{◌≡◌, ◌+◌, ◌-◌, take, drop, arith, refl, ◌∙◌}
use Rattle.page_image.proofs.Laws.{number_at-read, get_or-drop-zero_word}
use Rattle.page_image.proofs.images.PageImage.load.Goals as goal

pub returns-clause-number : goal.returns-clause-number
returns-clause-number c =
    let size : c.args.offset + c.args.size - c.args.offset ≡ c.args.size = omega arith in
    let part : c.copy_from_slice.new.self ≡ take c.args.size (drop c.args.offset c.args.self.now.bytes) =
    c.copy_from_slice.ensures.after ∙ rw (size, c.deref.ensures.value, ← c.self.view_is) refl in
    number_at-read c.args.self.now c.args.offset c.args.size _ c.copy_from_slice.new.self _ part (get_or-drop-zero_word c.args.size) c.from_le_bytes.ensures
