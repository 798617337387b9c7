use Rattle.rack_net.proofs.Carrying.{link-resent}
use Rattle.rack_net.proofs.carried.resend_on.Goals as goal

pub returns-clause-selective_repeat : goal.returns-clause-selective_repeat
returns-clause-selective_repeat c = link-resent c.resend.result c.args.link.now c.resend.new.self c.resend.ensures.selective_repeat
