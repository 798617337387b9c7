-- A number that each turn of a settling makes less. A turn delivers the first frame of a wire, or sends kept messages again
-- where no frame is left. So a settling ends.
use Rattle.std.specs.Prelude.{ℕ, ◌+◌, ◌*◌, ◌^◌, Bool, false, ◌==◌, nat_lt, List, [], ◌∷◌, length, if◌then◌else◌}
use Rattle.std.specs.List.{list_any}
use Rattle.link_retry.specs.Link.{first_kept}
use Rattle.rack_net.specs.Net.{NetLink, NetView, spelled}
use Rattle.rack_core.specs.Rack.{RackView}
use Rattle.rack_settle.specs.Weight.{rack_weight, over_links}

-- ---- one link

-- the first frame has this number
abbrev pub starts_with : ℕ → List ℕ → Bool
starts_with number [] = false
starts_with number (frame ∷ frames) = frame == number

-- whether the frames that are under way will make the link keep fewer messages: an acknowledgement passes the number of the
-- first kept one; or none is under way, and the first frame is that of the first kept message, so that one will be
abbrev pub will_pass : ℕ → List ℕ → List ℕ → Bool
will_pass first messages [] = starts_with first messages
will_pass first messages (ack ∷ acks) = list_any (λ number. nat_lt first number) (ack ∷ acks)

abbrev pub is_hopeful : NetLink → Bool
is_hopeful link = will_pass (first_kept (spelled link)) link.messages link.acks

-- two for each kept message, and one where it has to be sent again before fewer are kept
abbrev pub keeping_left : NetLink → ℕ
keeping_left link = 2 * link.kept + (if is_hopeful link then 0 else 1)

-- each frame of a message may bring one acknowledgement
abbrev pub frames_left : NetLink → ℕ
frames_left link = 2 * length link.messages + length link.acks

-- what the link alone has still to do: a wire has at most 64 frames, so that those weigh less than one that is kept
abbrev pub link_turns : NetLink → ℕ
link_turns link = 193 * keeping_left link + frames_left link

-- it is less than this
abbrev pub most_link_turns : ℕ
most_link_turns = 193 * 2 ^ 33

-- ---- all links

abbrev pub net_turns : NetView → ℕ
net_turns net = over_links link_turns net

-- it is less than this, which only the number of links decides
abbrev pub most_net_turns : NetView → ℕ
most_net_turns net = over_links (λ link. most_link_turns) net + 1

-- ---- the rack

-- what is still to come in the rack, before what the links have to do alone
abbrev pub turns_left : RackView → ℕ
turns_left rack = rack_weight rack * most_net_turns rack.net + net_turns rack.net
