use Rattle.rack_settle.proofs.TurnsFall.{deliver, resend, drain}
use Rattle.rack_settle.proofs.laws_of_links.each_turn_leaves_fewer.Goals as goal

pub returns : goal.returns
returns c = record { deliver = deliver; resend = resend; drain = drain }
