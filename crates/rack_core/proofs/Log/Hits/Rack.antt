-- All hits, with those that are under way, grow by no more than what is noted as given up or lowered.
use Rattle.std.proofs.Common.{◌≡◌, refl, sym, ◌∙◌, ap, subst, ℕ, ◌+◌, ◌<◌, ◌≤◌, List, [], ◌∷◌, ◌++◌, Option, Some, None, append-nil, arith}
use Rattle.std.proofs.lemmas.Option.{same_Some}
use Rattle.mind_base.specs.Page.{PageView}
use Rattle.mind_base.specs.declared.events.Event.{Event}
use Rattle.mind_base.specs.declared.events.Event.TheVariants.{Step, Drain, Evict, Deliver, Lose, Repeat, Resend, Epoch, Ask, Settle}
use Rattle.mind_base.specs.declared.images.Image.{Image}
use Rattle.mind_base.specs.declared.links.LinkKind.{LinkKind}
use Rattle.mind_base.specs.declared.links.LinkKind.TheVariants.{Up, Down, To, From}
use Rattle.mind_base.specs.declared.links.LinkName.{LinkName}
use Rattle.mind_base.specs.declared.links.Side.{Side}
use Rattle.mind_base.specs.declared.notes.Note.{Note}
use Rattle.mind_base.specs.declared.notes.Note.TheVariants as note
use Rattle.mind_base.specs.declared.plans.RackPlan.{RackPlan}
use Rattle.mind_base.specs.declared.plans.ThreadPlan.{ThreadPlan}
use Rattle.page_image.specs.PageImage.{PageImageView}
use Rattle.protect_table.proofs.Callers.{sum_below-none, sum_below-same}
use Rattle.region_directory.specs.Directory.{DirectoryView}
use Rattle.wire_msg.specs.declared.msgs.Msg.{Msg}
use Rattle.compute_blade.specs.Blade.{BladeView, BladeEffect}
use Rattle.compute_blade.specs.Messages.{after_message}
use Rattle.compute_blade.specs.Pages.{given_up}
use Rattle.compute_blade.specs.Steps.{after_step, blade_after_drain}
use Rattle.memory_blade.specs.MemoryBlade as memory
use Rattle.rack_net.specs.Net.{NetView, ChangesOnly, links_of}
use Rattle.switch_core.specs.Switch.{place_in}
use Rattle.coherence.specs.Facts.{IsCoherent}
use Rattle.rack_core.specs.Events.{BladeActs, HartDoes, HandsTo, HandsAll, Delivers, Leads, SendsAll, SwitchHears, answer_to_switch, on}
use Rattle.rack_core.specs.Handing.{AskOn}
use Rattle.rack_core.specs.Rack.{RackView, with_net}
use Rattle.rack_core.specs.Released.{AreReleased, ack_counts, acks_under_way, all_hits, hits_of, released}
use Rattle.rack_core.specs.Safe.{IsOfRack, IsSafe, IsSound}
use Rattle.rack_core.specs.Seen.{pending_on, seen, sent_on}
use Rattle.rack_core.specs.Start.{IsStart}
use Rattle.rack_core.specs.SwitchMoves.{with_front}
use Rattle.rack_core.proofs.Moves.Blade.Delivers.{other_link, flip}
use Rattle.rack_core.proofs.Moves.Blade.Handed.{did}
use Rattle.rack_core.proofs.Moves.Blade.Seen.{pending-away, pending-here}
use Rattle.rack_core.proofs.Events.Delivering.{gave_on, with_net-sound, asks_taken}
use Rattle.rack_core.proofs.Events.Handing.{each-handed}
use Rattle.rack_core.proofs.Moves.Memory.Handed.{answers-quiet}
use Rattle.rack_core.proofs.Log.Hits.Blades.{CountsReleased, counts-then, drain-nothing, evicted-nothing, message-counts, nothing-counts, released-then, step-nothing}
use Rattle.rack_core.proofs.Log.Hits.Switch.{count_on, receives-added}
use Rattle.rack_core.proofs.Lists.Sums.{below-changed}
use Rattle.rack_core.proofs.Moves.Sent.{sends_all}

-- ---- links

-- the links up have what they had
same-acks : (old new : NetView) → ((c : ℕ) → pending_on new Up c ≡ pending_on old Up c) → acks_under_way new ≡ acks_under_way old
same-acks old new same = sum_below-same (λ c. ack_counts (pending_on new Up c)) (λ c. ack_counts (pending_on old Up c)) 8 (λ c lt. ap ack_counts (same c))

-- what is sent goes onto other links
quiet-acks : (sent : List (LinkName × Msg)) (old new : NetView) → SendsAll sent old new → ((c : ℕ) → sent_on Up c sent ≡ []) → acks_under_way new ≡ acks_under_way old
quiet-acks sent old new sends quiet =
    same-acks old new (λ c. sends_all Up c sent old new sends ∙ ap (λ s. pending_on old Up c ++ s) (quiet c) ∙ append-nil (pending_on old Up c))

-- a blade sends
sent-acks : (c : ℕ) (messages : List Msg) (old new : NetView) → SendsAll (on Up c messages) old new → acks_under_way new ≤ acks_under_way old + ack_counts messages
sent-acks c messages old new sends =
    let here : ack_counts (pending_on new Up c) ≡ ack_counts (pending_on old Up c) + ack_counts messages =
    ap ack_counts (pending-here c messages old new sends) ∙ counts-then (pending_on old Up c) messages in
    let sum : acks_under_way new + 0 ≤ acks_under_way old + ack_counts messages =
    below-changed 8 c 0 (ack_counts messages) (λ n. ack_counts (pending_on new Up n)) (λ n. ack_counts (pending_on old Up n))
    (λ n e. ap ack_counts (pending-away c messages old new sends Up n e)) (omega (arith, here)) (λ away. omega arith) in
    omega (arith, sum)

-- ---- one message

-- what a blade of the rack does
acts-released : (c : ℕ) (e : BladeEffect) (old new : RackView) (noted : List Note) → CountsReleased e → BladeActs c e old new noted → all_hits new ≤ all_hits old + released noted
acts-released c e old new noted counts acts =
    let after : all_hits new ≡ hits_of old.switch.directory.entries + acks_under_way acts.net = ap all_hits acts.after in
    let links : acks_under_way acts.net ≤ acks_under_way old.net + ack_counts e.sent = sent-acks c e.sent old.net acts.net acts.sent in
    omega (arith, after, links, counts, ap released acts.notes)

-- what the switch does with a message
hears-released : (name : LinkName) (message : Msg) (old new : RackView) (noted : List Note) → SwitchHears name message old new noted
    → all_hits new ≤ all_hits old + count_on name.kind message
hears-released name message old new noted hears =
    let added = receives-added name message old.switch hears.effect hears.heard in
    let after : all_hits new ≡ hits_of hears.effect.switch.directory.entries + acks_under_way hears.net = ap all_hits hears.after in
    omega (arith, after, added.hits, quiet-acks hears.effect.sent old.net hears.net hears.sent added.quiet)

one-released : (images : List Image) (kind : LinkKind) (number : ℕ) (message : Msg) (old new : RackView) (noted : List Note) → IsSound old → HandsTo kind images number message old new noted
    → all_hits new ≤ all_hits old + count_on kind message + released noted
one-released images Up number message old new noted sound hands = omega (arith, hears-released (record { kind = Up; number = number }) message old new noted hands)
one-released images From number message old new noted sound hands = omega (arith, hears-released (record { kind = From; number = number }) message old new noted hands)
one-released images Down number message old new noted sound hands =
    let d = did number (λ blade. Some (after_message images message blade)) old new noted hands in
    omega (
      arith,
      acts-released number d.effect old new noted
          (subst CountsReleased (same_Some _ _ d.does) (message-counts images message d.blade (sound.blades number d.blade d.there).cache)) d.acts,
    )
one-released images To number message old new noted sound hands =
    let after : all_hits new ≡ hits_of old.switch.directory.entries + acks_under_way hands.net = ap all_hits hands.after in
    omega (
      arith,
      after,
      quiet-acks (answer_to_switch number (memory.answer_to hands.images message)) old.net hands.net hands.sent (λ c. (answers-quiet number (memory.answer_to hands.images message) c).0),
    )

-- ---- all messages that a link gave

counts_on : LinkKind → List Msg → ℕ
counts_on Up messages = ack_counts messages
counts_on Down messages = 0
counts_on To messages = 0
counts_on From messages = 0

on-cons : (kind : LinkKind) (message : Msg) (rest : List Msg) → counts_on kind (message ∷ rest) ≡ count_on kind message + counts_on kind rest
unfolding counts_on
on-cons Up message rest = refl
on-cons Down message rest = refl
on-cons To message rest = refl
on-cons From message rest = refl

all-released : (images : List Image) (kind : LinkKind) (number : ℕ) (messages : List Msg) (old new : RackView) (flat : PageView → PageImageView) (noted : List Note)
    → IsCoherent (with_front kind number messages (seen old flat)) → IsSound old → number < 8 → AskOn kind (place_in old.switch) number messages
    → HandsAll images (record { kind = kind; number = number }) messages old new noted → all_hits new ≤ all_hits old + counts_on kind messages + released noted
all-released images kind number =
    each-handed images kind number (λ messages old new noted. all_hits new ≤ all_hits old + counts_on kind messages + released noted)
    (λ old new noted same none. let hits : all_hits new ≡ all_hits old = ap all_hits same in omega (arith, hits))
    (λ message rest old mid new flat first later coherent sound hands fewer.
    let one = one-released images kind number message old mid first sound hands in
    omega (arith, one, fewer, released-then first later, on-cons kind message rest))

-- what the link gave is under way no longer
taken-acks : (kind : LinkKind) (c : ℕ) (taken : List Msg) (old net : NetView) → (8 ≤ c → ack_counts taken ≤ 0) → pending_on old kind c ≡ taken ++ pending_on net kind c
    → ChangesOnly (record { kind = kind; number = c }) old net → acks_under_way net + counts_on kind taken ≤ acks_under_way old
unfolding counts_on
taken-acks Up c taken old net none fifo only =
    let here : ack_counts (pending_on old Up c) ≡ ack_counts taken + ack_counts (pending_on net Up c) = ap ack_counts fifo ∙ counts-then taken (pending_on net Up c) in
    let sum : acks_under_way net + ack_counts taken ≤ acks_under_way old + 0 =
    below-changed 8 c (ack_counts taken) 0 (λ n. ack_counts (pending_on net Up n)) (λ n. ack_counts (pending_on old Up n))
    (λ n e. ap ack_counts (other_link (record { kind = Up; number = c }) old net only Up n (flip n c e))) (omega (arith, here)) none in
    omega (arith, sum)
taken-acks Down c taken old net none fifo only = omega (arith, same-acks old net (λ n. other_link (record { kind = Down; number = c }) old net only Up n refl))
taken-acks To c taken old net none fifo only = omega (arith, same-acks old net (λ n. other_link (record { kind = To; number = c }) old net only Up n refl))
taken-acks From c taken old net none fifo only = omega (arith, same-acks old net (λ n. other_link (record { kind = From; number = c }) old net only Up n refl))

deliver-released : (images : List Image) (name : LinkName) (side : Side) (k : ℕ) (old new : RackView) (noted : List Note)
    → name.number < 8 → IsSafe old → Delivers images name side k old new noted → all_hits new ≤ all_hits old + released noted
deliver-released images name side k old new noted lt safe given =
    let fifo = given.gives.fifo in
    let handed : all_hits new ≤ all_hits (with_net given.net old) + counts_on name.kind given.taken + released noted =
    all-released images name.kind name.number given.taken (with_net given.net old) new safe.flat noted
    (subst IsCoherent (gave_on name.kind name.number given.taken old given.net safe.flat fifo given.only) safe.coherent)
    (with_net-sound name.kind name.number given.taken old given.net fifo given.only safe.sound) lt
    (asks_taken name.kind name.number given.taken old given.net fifo safe.sound.asked) given.handed in
    let links : acks_under_way given.net + counts_on name.kind given.taken ≤ acks_under_way old.net =
    taken-acks name.kind name.number given.taken old.net given.net (λ away. absurd (omega (arith, lt, away))) fifo given.only in
    omega (arith, handed, links)

-- ---- every event

-- what a hart's blade does, by the plan
hart-released : (act : BladeView → Option BladeEffect) → ((blade : BladeView) (e : BladeEffect) → act blade ≡ Some e → CountsReleased e) → (thread : Option ThreadPlan) (old new : RackView) (noted : List Note)
    → HartDoes thread act old new noted → all_hits new ≤ all_hits old + released noted
hart-released act each None old new noted given = absurd given
hart-released act each (Some thread) old new noted given =
    let d = did thread.blade act old new noted given in
    acts-released thread.blade d.effect old new noted (each d.blade d.effect d.does) d.acts

-- a link changes, and has what it had
net-released : (name : LinkName) (old new : RackView) (net : NetView) (noted : List Note) → (links_of net name).pending ≡ (links_of old.net name).pending → ChangesOnly name old.net net
    → new ≡ with_net net old → all_hits new ≤ all_hits old + released noted
net-released name old new net noted same only after =
    let now : all_hits new ≡ hits_of old.switch.directory.entries + acks_under_way net = ap all_hits after in
    let links : acks_under_way net + counts_on name.kind [] ≤ acks_under_way old.net = taken-acks name.kind name.number [] old.net net (λ away. omega arith) (sym same) only in
    omega (arith, now, links)

pub event-released : (images : List Image) (event : Event) (old new : RackView) (noted : List Note) → IsOfRack event → IsSafe old → Leads images event old new noted
    → all_hits new ≤ all_hits old + released noted
event-released images (Step hart) old new noted fits safe given =
    hart-released (after_step images hart) (λ blade e does. nothing-counts e (step-nothing images hart blade e does)) _ old new noted given
event-released images (Drain hart) old new noted fits safe given =
    hart-released (blade_after_drain hart) (λ blade e does. nothing-counts e (drain-nothing hart blade e does)) _ old new noted given
event-released images (Evict c page) old new noted fits safe given =
    let d = did c (λ blade. Some (given_up page blade)) old new noted given in
    acts-released c d.effect old new noted (subst CountsReleased (same_Some _ _ d.does) (nothing-counts (given_up page d.blade) (evicted-nothing page d.blade))) d.acts
event-released images (Deliver link side k) old new noted fits safe given = deliver-released images link side k old new noted fits safe given
event-released images (Lose link side k) old new noted fits safe given = net-released link old new given.net noted given.changes.fifo given.only given.after
event-released images (Repeat link side k) old new noted fits safe given = net-released link old new given.net noted given.changes.fifo given.only given.after
event-released images (Resend link) old new noted fits safe given = net-released link old new given.net noted given.changes.fifo given.only given.after
event-released images Epoch old new noted fits safe given =
    let same : all_hits new ≡ all_hits old = ap all_hits given.0 in
    omega (arith, same)
event-released images (Ask command) old new noted fits safe given = absurd given
event-released images Settle old new noted fits safe given = absurd given

-- ---- logs

pub start-released : (plan : RackPlan) (rack : RackView) → IsStart plan rack → AreReleased rack []
start-released plan rack start =
    let hits : hits_of rack.switch.directory.entries ≡ 0 = ap (λ (d : DirectoryView). hits_of d.entries) start.switch.directory in
    let acks : acks_under_way rack.net ≡ 0 =
    sum_below-none (λ c. ack_counts (pending_on rack.net Up c)) 8 (λ c lt. ap (λ f. ack_counts (f (record { kind = Up; number = c })).pending) start.net) in
    omega (arith, hits, acks)

pub log-released : (old new : RackView) (log noted : List Note) → AreReleased old log → all_hits new ≤ all_hits old + released noted → AreReleased new (log ++ noted)
log-released old new log noted before grows = omega (arith, before, grows, released-then log noted)

-- the number of an event is of no page
pub noted-released : (rack : RackView) (log : List Note) (index : ℕ) → AreReleased rack log → AreReleased rack (log ++ note.Event index ∷ [])
noted-released rack log index before = omega (arith, before, released-then log (note.Event index ∷ []))
