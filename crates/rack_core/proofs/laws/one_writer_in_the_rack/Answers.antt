use Rattle.std.proofs.Common.{sym, ◌∙◌}
use Rattle.coherence.proofs.Callers.{single_writer}
use Rattle.rack_core.specs.Seen.{seen}
use Rattle.rack_core.proofs.laws.one_writer_in_the_rack.Goals as goal

pub returns-clause-single_writer : goal.returns-clause-single_writer
returns-clause-single_writer c = λ rack a b page f g safe held writable other. single_writer (seen rack safe.flat) a b page f g safe.coherent held writable other

pub returns-clause-same_image : goal.returns-clause-same_image
returns-clause-same_image c = λ rack a b page f g safe held other.
    (safe.coherent.frames a page f held).newest ∙ sym (safe.coherent.frames b page g other).newest
