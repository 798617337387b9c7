-- A memory blade that handles a message makes the weight of what is still to come less.
use Rattle.std.proofs.Common.{ℕ, ◌+◌, ◌≤◌, List, arith}
use Rattle.page_image.specs.PageImage.{PageImageView}
use Rattle.wire_msg.specs.declared.msgs.Msg.{Msg}
use Rattle.wire_msg.specs.declared.msgs.Msg.TheVariants.{Read}
use Rattle.memory_blade.specs.MemoryBlade as memory
use Rattle.rack_core.specs.Events.{answer_to_switch}
use Rattle.rack_settle.specs.Weight.{weight_of, sent_weight}

pub memory_lightens : (number : ℕ) (images : List PageImageView) (message : Msg) → sent_weight (answer_to_switch number (memory.answer_to images message)) + 1 ≤ weight_of message
memory_lightens number images (Read phys blade page) = omega arith
memory_lightens number images message = omega arith
