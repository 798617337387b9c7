-- Each turn of a settling leaves fewer.
use Rattle.std.proofs.Common.{◌≡◌, refl, sym, ap, subst, ℕ, ◌+◌, ◌*◌, ◌<◌, ◌≤◌, List, [], ◌∷◌, length, map, slice_get, Some, arith, mul-le-mul_right}
use Rattle.mind_base.specs.declared.events.Event.TheVariants.{Deliver, Drain, Resend}
use Rattle.mind_base.specs.declared.images.Image.{Image}
use Rattle.mind_base.specs.declared.links.LinkName.{LinkName}
use Rattle.mind_base.specs.declared.links.Side.{Side}
use Rattle.mind_base.specs.declared.links.Side.TheVariants.{Messages, Acks}
use Rattle.mind_base.specs.declared.notes.Note.{Note}
use Rattle.mind_base.specs.declared.plans.ThreadPlan.{ThreadPlan}
use Rattle.wire_msg.specs.Spelling.{spelling}
use Rattle.wire_msg.specs.declared.msgs.Msg.{Msg}
use Rattle.compute_blade.specs.Blade.{BladeView}
use Rattle.rack_net.specs.Net.{NetView, IsNet, IsFirstFrame, IsFirstKept, ChangesOnly, links_of, links_of_kind}
use Rattle.rack_core.specs.Calls.{IsKept, HasNoFrame}
use Rattle.rack_core.specs.Events.{HandsAll, Leads}
use Rattle.rack_core.specs.Rack.{RackView, with_net}
use Rattle.rack_core.proofs.Callers.{few-links}
use Rattle.rack_settle.specs.Turns.{link_turns, net_turns, most_net_turns, turns_left}
use Rattle.rack_settle.specs.Weight.{messages_weight, net_weight, rack_weight, HasToDrain}
use Rattle.rack_settle.proofs.HandedWeights.{delivery-lightens, delivery-as-many, drain-falls, drain-as-many}
use Rattle.rack_settle.proofs.LinkSums.{changed_on, most-same, net_turns-small}
use Rattle.rack_settle.proofs.LinkTurns.{link_delivered, sent_again}

-- ---- what comes first

less-first : (old new most most' turns turns' : ℕ) → new + 1 ≤ old → most' ≡ most → turns' < most' → new * most' + turns' < old * most + turns
less-first old new most most' turns turns' less same small =
    let times : (new + 1) * most ≤ old * most = mul-le-mul_right most less in
    let small_too : turns' < most = subst (λ m. turns' < m) same small in
    subst (λ m. new * m + turns' < old * most + turns) (sym same) (omega (arith, times, small_too))

less-later : (old new most most' turns turns' : ℕ) → new ≤ old → most' ≡ most → turns' < turns → new * most' + turns' < old * most + turns
less-later old new most most' turns turns' le same less =
    let times : new * most ≤ old * most = mul-le-mul_right most le in
    subst (λ m. new * m + turns' < old * most + turns) (sym same) (omega (arith, times, less))

-- the turns of all links, when one link has fewer
net-falls : (name : LinkName) (old new : NetView) → ChangesOnly name old new → name.number < links_of_kind old.blades old.memories name.kind
    → link_turns (links_of new name) < link_turns (links_of old name) → net_turns new < net_turns old
net-falls name old new only of_net less =
    let sum : net_turns new + 1 ≤ net_turns old + 0 =
    changed_on link_turns name.kind name.number old new 1 0 only (omega (arith, less)) (λ away. absurd (omega (arith, of_net, away))) in
    omega (arith, sum)

-- ---- a delivery

few : (old : RackView) (name : LinkName) → IsKept old → name.number < links_of_kind old.net.blades old.net.memories name.kind → name.number < 8
few old name kept of_net =
    few-links old.plan name.number name.kind kept.shape.fit
    (subst (λ m. name.number < links_of_kind (length old.plan.frames) m name.kind) kept.shape.links.1
    (subst (λ b. name.number < links_of_kind b old.net.memories name.kind) kept.shape.links.0 of_net))

pub deliver : (images : List Image) (name : LinkName) (side : Side) (old new : RackView) (noted : List Note) → IsKept old → IsNet old.net → IsNet new.net
    → IsFirstFrame old.net name side → Leads images (Deliver name side 0) old new noted → turns_left new < turns_left old
deliver images name side old new noted kept net later first given = by given.taken refl where
  lightens : rack_weight new + length given.taken ≤ rack_weight old
  lightens = delivery-lightens images name side 0 old new noted (few old name kept first.of_net) kept.safe first.of_net given

  most : most_net_turns new.net ≡ most_net_turns old.net
  most = let many = delivery-as-many images name side 0 old new noted given in most-same old.net new.net many.0 many.1

  link : net_turns given.net < net_turns old.net
  link = net-falls name old.net given.net given.only first.of_net
      (link_delivered side (links_of old.net name) (links_of given.net name) (map spelling given.taken) (net.sound name) first.some given.gives.link)

  by : (taken : List Msg) → given.taken ≡ taken → turns_left new < turns_left old
  by [] is =
      let handed = subst (λ t. HandsAll images name t (with_net given.net old) new noted) is given.handed in
      let same : net_turns new.net ≡ net_turns given.net = ap (λ (r : RackView). net_turns r.net) handed.0 in
      less-later (rack_weight old) (rack_weight new) (most_net_turns old.net) (most_net_turns new.net) (net_turns old.net) (net_turns new.net)
      (omega (arith, lightens)) most (omega (arith, link, same))
  by (message ∷ rest) is =
      let some : length given.taken ≡ length (message ∷ rest) = ap length is in
      less-first (rack_weight old) (rack_weight new) (most_net_turns old.net) (most_net_turns new.net) (net_turns old.net) (net_turns new.net)
      (omega (arith, lightens, some)) most (net_turns-small new.net later)

-- ---- sending again

pub resend : (images : List Image) (name : LinkName) (old new : RackView) (noted : List Note) → IsKept old → IsNet old.net → HasNoFrame old.net → IsFirstKept old.net name
    → Leads images (Resend name) old new noted → turns_left new < turns_left old
resend images name old new noted kept net empty first given = subst (λ (r : RackView). turns_left r < turns_left old) (sym given.after) falls where
  link : net_turns given.net < net_turns old.net
  link = net-falls name old.net given.net given.only first.of_net
      (sent_again (links_of old.net name) (links_of given.net name) (empty name Messages) (empty name Acks) first.some given.changes.link)

  weight : net_weight given.net ≤ net_weight old.net
  weight =
      let same : messages_weight (links_of given.net name).pending ≡ messages_weight (links_of old.net name).pending = ap messages_weight given.changes.fifo in
      let sum : net_weight given.net + 0 ≤ net_weight old.net + 0 =
      changed_on (λ link. messages_weight link.pending) name.kind name.number old.net given.net 0 0 given.only (omega (arith, same)) (λ away. omega arith) in
      omega (arith, sum)

  falls : turns_left (with_net given.net old) < turns_left old
  falls = less-later (rack_weight old) (rack_weight (with_net given.net old)) (most_net_turns old.net) (most_net_turns given.net) (net_turns old.net) (net_turns given.net)
      (omega (arith, weight)) (most-same old.net given.net given.only.blades given.only.memories) link

-- ---- a drain

pub drain : (images : List Image) (h : ℕ) (thread : ThreadPlan) (blade : BladeView) (old new : RackView) (noted : List Note) → IsNet new.net → slice_get old.plan.threads h ≡ Some thread
    → slice_get old.blades thread.blade ≡ Some blade → HasToDrain h blade → Leads images (Drain h) old new noted → turns_left new < turns_left old
drain images h thread blade old new noted later planned there has leads =
    let many = drain-as-many images h thread old new noted planned leads in
    less-first (rack_weight old) (rack_weight new) (most_net_turns old.net) (most_net_turns new.net) (net_turns old.net) (net_turns new.net)
    (drain-falls images h thread blade old new noted planned there has leads) (most-same old.net new.net many.0 many.1) (net_turns-small new.net later)
