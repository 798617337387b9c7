use Rattle.std.proofs.Common.{sym, ◌∙◌}
use Rattle.coherence.proofs.Callers.{single_writer}
use Rattle.rack_core.specs.Seen.{seen}
use Rattle.rack_core.proofs.Events.Starting.{starts}
use Rattle.rack_core.proofs.Events.Whole.{run_keeps-all}
use Rattle.rack_core.proofs.laws.caches_agree.Goals as goal

pub returns-clause-single_writer : goal.returns-clause-single_writer
returns-clause-single_writer c = λ images plan first last events noted fit start of reaches a b page f g held writable other.
    let safe = run_keeps-all images events first last noted of (starts plan first fit start) reaches in
    single_writer (seen last safe.flat) a b page f g safe.coherent held writable other

pub returns-clause-same_image : goal.returns-clause-same_image
returns-clause-same_image c = λ images plan first last events noted fit start of reaches a b page f g held other.
    let safe = run_keeps-all images events first last noted of (starts plan first fit start) reaches in
    (safe.coherent.frames a page f held).newest ∙ sym (safe.coherent.frames b page g other).newest

pub returns-clause-named : goal.returns-clause-named
returns-clause-named c = λ images plan first last events noted fit start of reaches blade page f held.
    let safe = run_keeps-all images events first last noted of (starts plan first fit start) reaches in
    let is = safe.coherent.frames blade page f held in
    (is.held, is.writer)
