use Rattle.std.proofs.Common.{◌≡◌, ℕ, List, ◌++◌, ap, ◌∙◌}
use Rattle.wire_msg.specs.Spelling.{spelling}
use Rattle.link_retry.specs.Link.{after_send}
use Rattle.rack_net.specs.Kept.{IsHeld}
use Rattle.rack_net.proofs.Carrying.{fifo-sent, link-sent, held-sent, on_ok}
use Rattle.rack_net.proofs.carried.send_on.Goals as goal

-- the link takes the spelling
bytes : (c : goal.After-send) → after_send c.args.link.now.link c.encode.new.out.items ≡ after_send c.args.link.now.link (spelling c.args.msg.now)
bytes c = ap (after_send c.args.link.now.link) (c.in-Ok.ensures.ok ∙ ap (λ (xs : List ℕ). xs ++ spelling c.args.msg.now) c.in_ok-bytes.ensures.items)

held : (c : goal.After-send) → c.send.new.self.link ≡ after_send c.args.link.now.link c.encode.new.out.items → IsHeld c.send.new.self
held c sent = held-sent c.args.link.now c.send.new.self c.args.msg.now c.requires.held c.in-Ok.ensures.formed c.send.ensures.link (sent ∙ bytes c)

pub returns-in-Ok-clause-fifo : goal.returns-in-Ok-clause-fifo
returns-in-Ok-clause-fifo c =
    on_ok c.send.result c.send.ensures.ok (λ sent. fifo-sent c.args.link.now c.send.new.self c.args.msg.now c.in-Ok.ensures.formed (sent ∙ bytes c))

pub returns-in-Ok-clause-link : goal.returns-in-Ok-clause-link
returns-in-Ok-clause-link c =
    on_ok c.send.result c.send.ensures.ok (λ sent. link-sent c.args.link.now c.send.new.self c.args.msg.now c.requires.held (held c sent) (sent ∙ bytes c))

pub returns-in-Ok-clause-held : goal.returns-in-Ok-clause-held
returns-in-Ok-clause-held c = on_ok c.send.result c.send.ensures.ok (λ sent. held c sent)
