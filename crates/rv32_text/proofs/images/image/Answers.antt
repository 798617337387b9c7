use Rattle.std.proofs.Common.{◌++◌, List, ℕ, get_or, ap, ◌∙◌}
use Rattle.rv32_decode.specs.declared.instruction.Instr.TheVariants as instr
use Rattle.rv32_text.specs.declared.items.Item.{Item}
use Rattle.rv32_text.specs.declared.items.Item.TheVariants as item
use Rattle.rv32_text.specs.Image.{item_bytes}
use Rattle.rv32_text.proofs.Steps.{one_item_more}
use Rattle.rv32_text.proofs.images.image.Goals as goal

pub loop-item-preserved : goal.loop-item-preserved
loop-item-preserved c =
    let none : Item = item.Instr (instr.Lui 0 0) in
    c.in_ok-put_word.ensures
    ∙ ap (λ (bytes : List ℕ). bytes ++ item_bytes (get_or c.args.items.now c.loop-item.item-index none)) c.loop-item.invariant
    ∙ one_item_more c.args.items.now c.loop-item.item-index none c.loop-item-test.true
