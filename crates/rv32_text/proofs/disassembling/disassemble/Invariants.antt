use Rattle.std.proofs.Common.{◌≡◌, ◌%◌, ◌++◌, length}
use Rattle.rv32_text.specs.Image.{image_words}
use Rattle.rv32_text.specs.Written.{disassembled}
use Rattle.rv32_text.proofs.disassembling.disassemble.Given as goal

abbrev pub invariant-loop-rest : goal.invariant-loop-rest
invariant-loop-rest l = record {
  same : l.out.items ++ disassembled (image_words l.rest) ≡ disassembled (image_words l.image);
  whole : length l.rest % 4 ≡ 0;
}

abbrev pub decreases-loop-rest : goal.decreases-loop-rest
decreases-loop-rest l = length l.rest
