use Rattle.std.proofs.Common.{sym, ap, ◌∙◌}
use Rattle.link_retry.specs.SelectiveRepeat.{SelectiveView}
use Rattle.link_retry.proofs.Keeping.{parted}
use Rattle.link_retry.proofs.links.Link.accept.Goals as goal

pub returns-in-Ok-clause-taken : goal.returns-in-Ok-clause-taken
returns-in-Ok-clause-taken c =
    sym (ap (λ (v : SelectiveView). v.link.pending) c.self.view_is)
    ∙ parted c.self.inside.pending.items c.in-Ok.taken.items c.take_front.new.pending.items _ c.in-Ok.ensures.taken c.in-Ok.ensures.left
