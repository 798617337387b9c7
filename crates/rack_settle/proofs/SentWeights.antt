-- What a node sends adds its weight to that of the links.
use Rattle.std.proofs.Common.{◌≡◌, refl, sym, ap, ap₂, subst, ◌∙◌, ℕ, ◌+◌, ◌≤◌, List, [], ◌∷◌, ◌++◌, map, arith}
use Rattle.std.specs.List.{sum}
use Rattle.std.proofs.lemmas.List.Sums.{sum-map, sum_by-append, sum_by-cons}
use Rattle.mind_base.specs.declared.links.LinkKind.{LinkKind}
use Rattle.mind_base.specs.declared.links.LinkName.{LinkName}
use Rattle.wire_msg.specs.declared.msgs.Msg.{Msg}
use Rattle.rack_net.specs.Net.{NetView, links_of}
use Rattle.rack_core.specs.Events.{SendsOn, SendsAll, on}
use Rattle.rack_settle.specs.Weight.{weight_of, messages_weight, sent_weight, net_weight}
use Rattle.rack_settle.proofs.LinkSums.{changed_on}

-- ---- messages

pub messages-cons : (message : Msg) (messages : List Msg) → messages_weight (message ∷ messages) ≡ weight_of message + messages_weight messages
messages-cons message messages = sum_by-cons (λ n. n) (weight_of message) (map weight_of messages)

pub messages-append : (first later : List Msg) → messages_weight (first ++ later) ≡ messages_weight first + messages_weight later
messages-append first later =
    sum-map weight_of (first ++ later) ∙ sum_by-append weight_of first later
    ∙ sym (ap₂ (λ a b. a + b) (sum-map weight_of first) (sum-map weight_of later))

sent-cons : (message : LinkName × Msg) (sent : List (LinkName × Msg)) → sent_weight (message ∷ sent) ≡ weight_of message.1 + sent_weight sent
sent-cons message sent = sum_by-cons (λ n. n) (weight_of message.1) (map (λ m. weight_of m.1) sent)

same-weights : (kind : LinkKind) (number : ℕ) (messages : List Msg) → map (λ m. weight_of m.1) (on kind number messages) ≡ map weight_of messages
same-weights kind number [] = refl
same-weights kind number (message ∷ messages) = ap (λ rest. weight_of message ∷ rest) (same-weights kind number messages)

-- messages of one node
pub sent-on : (kind : LinkKind) (number : ℕ) (messages : List Msg) → sent_weight (on kind number messages) ≡ messages_weight messages
sent-on kind number messages = ap sum (same-weights kind number messages)

-- ---- links

one-weighs : (name : LinkName) (message : Msg) (old new : NetView) → SendsOn name message old new → net_weight new ≤ net_weight old + weight_of message
one-weighs name message old new sends =
    let pending : messages_weight (links_of new name).pending ≡ messages_weight (links_of old name).pending + messages_weight (message ∷ []) =
    ap messages_weight sends.0.fifo ∙ messages-append (links_of old name).pending (message ∷ []) in
    let sum : net_weight new + 0 ≤ net_weight old + weight_of message =
    changed_on (λ link. messages_weight link.pending) name.kind name.number old new 0 (weight_of message) sends.1 (omega (arith, pending, messages-cons message [])) (λ away. omega arith) in
    omega (arith, sum)

pub sends-weigh : (sent : List (LinkName × Msg)) (old new : NetView) → SendsAll sent old new → net_weight new ≤ net_weight old + sent_weight sent
sends-weigh [] old new sends = subst (λ net. net_weight net ≤ net_weight old + 0) (sym sends) (omega arith)
sends-weigh (message ∷ sent) old new sends =
    let first : net_weight sends.0 ≤ net_weight old + weight_of message.1 = one-weighs message.0 message.1 old sends.0 sends.1 in
    let later : net_weight new ≤ net_weight sends.0 + sent_weight sent = sends-weigh sent sends.0 new sends.2 in
    omega (arith, first, later, sent-cons message sent)
