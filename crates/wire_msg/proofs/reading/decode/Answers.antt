use Rattle.std.proofs.Common.{ap, sym, subst, ◌∙◌, arith}
use Rattle.wire_msg.specs.Reading.{GivesRead, message_of}
use Rattle.wire_msg.proofs.Messages.{is_found, is_refused, whole_again}
use Rattle.wire_msg.proofs.reading.decode.Goals as goal

pub returns-clause-found : goal.returns-clause-found
returns-clause-found c = is_found c.args.bytes.now c.whole.result (λ i. omega (arith, c.type_inv.bytes i)) c.whole.ensures

pub returns-clause-only : goal.returns-clause-only
returns-clause-only c = λ m h e. subst (λ f. GivesRead (λ m. m) c.whole.result f) (ap message_of (sym e) ∙ whole_again m h) c.whole.ensures

pub returns-clause-refused : goal.returns-clause-refused
returns-clause-refused c = λ bad m h e. is_refused c.args.bytes.now c.whole.result c.whole.ensures bad m h e
