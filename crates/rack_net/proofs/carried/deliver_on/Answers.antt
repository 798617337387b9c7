use Rattle.std.proofs.Common.{◌≡◌, ℕ, List, ◌++◌, map, All, sym, subst}
use Rattle.std.specs.Global.{Vec}
use Rattle.link_retry.specs.Link.{FrameDelivers}
use Rattle.link_retry.specs.SelectiveRepeat.{SelectiveView, DeliversSelectively}
use Rattle.wire_msg.specs.Spelling.{spelling}
use Rattle.wire_msg.specs.declared.msgs.Msg.{Msg}
use Rattle.wire_msg.specs.WellFormed.{IsWellFormed}
use Rattle.rack_net.specs.Net.{spelled, with_windows}
use Rattle.rack_net.specs.Kept.{IsSpelled, link_of}
use Rattle.rack_net.proofs.Carrying.{taken-spelled, held-delivered, fifo-delivered, as-messages, when-read}
use Rattle.rack_net.proofs.Texts.{all-formed}
use Rattle.rack_net.proofs.carried.deliver_on.Goals as goal

pub read_all-requires : goal.read_all-requires
read_all-requires c =
    subst (λ (texts : List (Vec ℕ)). All IsSpelled (map (λ v. v.items) texts)) (sym c.as_slice.ensures.value)
    (taken-spelled c.args.link.now c.args.side c.args.k _ c.deliver.new.self c.requires c.in_ok-taken.ensures.ok)

pub returns-clause-fifo : goal.returns-clause-fifo
returns-clause-fifo c =
    when-read (λ (msgs : List Msg). (link_of c.args.link.now).pending ≡ msgs ++ (link_of c.deliver.new.self).pending) _ _ _ c.in_ok-msgs.ensures c.as_slice.ensures.value
    (fifo-delivered c.args.link.now c.args.side c.args.k _ c.deliver.new.self c.in_ok-taken.ensures.ok)

pub returns-clause-link : goal.returns-clause-link
returns-clause-link c =
    when-read (λ (msgs : List Msg). FrameDelivers (spelled (link_of c.args.link.now)) c.args.side c.args.k (map spelling msgs) (spelled (link_of c.deliver.new.self))) _ _ _ c.in_ok-msgs.ensures c.as_slice.ensures.value
    (as-messages (λ (a : SelectiveView) (t : List (List ℕ)) (b : SelectiveView). FrameDelivers a.link c.args.side c.args.k t b.link) c.args.link.now c.args.side c.args.k _ c.deliver.new.self
    c.requires c.in_ok-taken.ensures.link c.in_ok-taken.ensures.ok c.in_ok-taken.ensures.ok)

pub returns-clause-selective_repeat : goal.returns-clause-selective_repeat
returns-clause-selective_repeat c =
    when-read (λ (msgs : List Msg). DeliversSelectively (with_windows (link_of c.args.link.now)) c.args.side c.args.k (map spelling msgs) (with_windows (link_of c.deliver.new.self))) _ _ _ c.in_ok-msgs.ensures c.as_slice.ensures.value
    (as-messages (λ (a : SelectiveView) (t : List (List ℕ)) (b : SelectiveView). DeliversSelectively a c.args.side c.args.k t b) c.args.link.now c.args.side c.args.k _ c.deliver.new.self
    c.requires c.in_ok-taken.ensures.link c.in_ok-taken.ensures.ok c.in_ok-taken.ensures.selective_repeat)

pub returns-clause-formed : goal.returns-clause-formed
returns-clause-formed c =
    when-read (All IsWellFormed) _ _ _ c.in_ok-msgs.ensures c.as_slice.ensures.value
    (all-formed _ (taken-spelled c.args.link.now c.args.side c.args.k _ c.deliver.new.self c.requires c.in_ok-taken.ensures.ok))

pub returns-clause-held : goal.returns-clause-held
returns-clause-held c = held-delivered c.args.link.now c.args.side c.args.k _ c.deliver.new.self c.requires c.in_ok-taken.ensures.link c.in_ok-taken.ensures.ok
