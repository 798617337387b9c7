use Rattle.link_retry.specs.Link.{new_link}
use Rattle.link_retry.proofs.InOrder.{in_order}
use Rattle.link_retry.proofs.laws.in_order.Goals as goal

pub returns : goal.returns
returns c = λ calls link run. in_order new_link calls link run
