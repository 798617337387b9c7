-- What one event of a schedule does to the rack: the node that it names acts, what the node sends goes onto
-- the links, and what a link gives is handed to the node at its end, message by message.
use Rattle.std.specs.Prelude.{◌≡◌, ℕ, List, [], ◌∷◌, ◌++◌, map, slice_get, Option, Some, None}
use Rattle.mind_base.specs.declared.events.Event.{Event}
use Rattle.mind_base.specs.declared.events.Event.TheVariants.{Step, Drain, Evict, Deliver, Lose, Repeat, Resend, Epoch, Ask, Settle}
use Rattle.mind_base.specs.declared.images.Image.{Image as ImageOf}
use Rattle.mind_base.specs.declared.links.LinkKind.{LinkKind}
use Rattle.mind_base.specs.declared.links.LinkKind.TheVariants.{Up, Down, To, From}
use Rattle.mind_base.specs.declared.links.LinkName.{LinkName}
use Rattle.mind_base.specs.declared.links.Side.{Side}
use Rattle.mind_base.specs.declared.notes.Note.{Note}
use Rattle.wire_msg.specs.declared.msgs.Msg.{Msg}
use Rattle.compute_blade.specs.Blade.{BladeView, BladeEffect}
use Rattle.compute_blade.specs.Messages.{after_message}
use Rattle.compute_blade.specs.Pages.{given_up}
use Rattle.compute_blade.specs.Steps.{after_step, blade_after_drain}
use Rattle.memory_blade.specs.MemoryBlade as memory
use Rattle.link_retry.specs.Link.{after_send, FrameDelivers, after_lose, after_repeat, Resends}
use Rattle.wire_msg.specs.Spelling.{spelling}
use Rattle.rack_net.specs.Net.{NetView, NetLink, ChangesOnly, links_of, spelled}
use Rattle.switch_core.specs.Handling.{Receives}
use Rattle.switch_core.specs.Switch.{SwitchEffect}
use Rattle.rack_core.specs.Rack.{RackView, with_blade_at, with_switch, with_memory, with_net}

-- ---- one link

-- `send`: the message is the last one pending, and else what a link does
pub record SendsOne (old : NetLink) (message : Msg) (new : NetLink) : Type 0 where
  pub fifo : new.pending ≡ old.pending ++ message ∷ []
  pub link : spelled new ≡ after_send (spelled old) (spelling message)

-- `deliver`: what is taken is the front of what was pending, and leaves it; and else what a link does
pub record Hands (old : NetLink) (side : Side) (k : ℕ) (taken : List Msg) (new : NetLink) : Type 0 where
  pub fifo : old.pending ≡ taken ++ new.pending
  pub link : FrameDelivers (spelled old) side k (map spelling taken) (spelled new)

-- `lose`, `repeat` and `resend`: nothing that is pending changes, and else what a link does
pub record Loses (old : NetLink) (side : Side) (k : ℕ) (new : NetLink) : Type 0 where
  pub fifo : new.pending ≡ old.pending
  pub link : spelled new ≡ after_lose (spelled old) side k

pub record Repeats (old : NetLink) (side : Side) (k : ℕ) (new : NetLink) : Type 0 where
  pub fifo : new.pending ≡ old.pending
  pub link : spelled new ≡ after_repeat (spelled old) side k

pub record SendsAgain (old new : NetLink) : Type 0 where
  pub fifo : new.pending ≡ old.pending
  pub link : Resends (spelled old) (spelled new)

-- ---- what is sent

-- a message goes onto its link
abbrev pub SendsOn : LinkName → Msg → NetView → NetView → Type 0
SendsOn name message old new = SendsOne (links_of old name) message (links_of new name) × ChangesOnly name old new

-- messages go onto their links, one after another
abbrev pub SendsAll : List (LinkName × Msg) → NetView → NetView → Type 0
SendsAll [] old new = new ≡ old
SendsAll (message ∷ messages) old new = (mid : NetView) × SendsOn message.0 message.1 old mid × SendsAll messages mid new

-- messages of one node, on its own link
abbrev pub on : LinkKind → ℕ → List Msg → List (LinkName × Msg)
on kind number messages = map (λ message. (record { kind = kind; number = number }, message)) messages

-- ---- a node acts

-- a compute blade: it changes, it sends on its link up, and it notes
pub record BladeActs (number : ℕ) (effect : BladeEffect) (old new : RackView) (noted : List Note) : Type 0 where
  pub net : NetView
  pub sent : SendsAll (on Up number effect.sent) old.net net
  pub after : new ≡ with_net net (with_blade_at number effect.blade old)
  pub notes : noted ≡ effect.noted

-- something is done by a blade of the rack; where it cannot be, nothing follows
abbrev pub Acts : ℕ → Option BladeEffect → RackView → RackView → List Note → Type 0
Acts number None old new noted = ⊥
Acts number (Some effect) old new noted = BladeActs number effect old new noted

abbrev pub ActsWith : Option BladeView → ℕ → (BladeView → Option BladeEffect) → RackView → RackView → List Note → Type 0
ActsWith None number act old new noted = ⊥
ActsWith (Some blade) number act old new noted = Acts number (act blade) old new noted

abbrev pub BladeDoes : ℕ → (BladeView → Option BladeEffect) → RackView → RackView → List Note → Type 0
BladeDoes number act old new noted = ActsWith (slice_get old.blades number) number act old new noted

-- the switch: it handles a message and serves; what it sends goes down to blades and to memory blades
pub record SwitchHears (name : LinkName) (message : Msg) (old new : RackView) (noted : List Note) : Type 0 where
  pub effect : SwitchEffect
  pub heard : Receives name message old.switch effect
  pub net : NetView
  pub sent : SendsAll effect.sent old.net net
  pub after : new ≡ with_net net (with_switch effect.switch old)
  pub notes : noted ≡ effect.noted

-- a memory blade: it changes, and its answer, if there is one, goes onto its link
abbrev pub answer_to_switch : ℕ → Option Msg → List (LinkName × Msg)
answer_to_switch number None = []
answer_to_switch number (Some message) = (record { kind = From; number = number }, message) ∷ []

pub record MemoryHears (number : ℕ) (message : Msg) (old new : RackView) (noted : List Note) : Type 0 where
  pub images : List Rattle.page_image.specs.PageImage.PageImageView
  pub before : slice_get old.memories number ≡ Some images
  pub net : NetView
  pub sent : SendsAll (answer_to_switch number (memory.answer_to images message)) old.net net
  pub after : new ≡ with_net net (with_memory number (memory.images_after images message) old)
  pub notes : noted ≡ []

-- a message is handed to the node at the end of its link
abbrev pub HandsTo : LinkKind → List ImageOf → ℕ → Msg → RackView → RackView → List Note → Type 0
HandsTo Up images number message old new noted = SwitchHears (record { kind = Up; number = number }) message old new noted
HandsTo Down images number message old new noted = BladeDoes number (λ blade. Some (after_message images message blade)) old new noted
HandsTo To images number message old new noted = MemoryHears number message old new noted
HandsTo From images number message old new noted = SwitchHears (record { kind = From; number = number }) message old new noted

-- messages of a link are handed over in order
abbrev pub HandsAll : List ImageOf → LinkName → List Msg → RackView → RackView → List Note → Type 0
HandsAll images name [] old new noted = (new ≡ old) × (noted ≡ [])
HandsAll images name (message ∷ messages) old new noted = (mid : RackView) × (first later : List Note)
    × HandsTo name.kind images name.number message old mid first
    × HandsAll images name messages mid new later × (noted ≡ first ++ later)

-- ---- events

-- the hart's blade, by the plan
abbrev pub HartDoes : Option Rattle.mind_base.specs.declared.plans.ThreadPlan.ThreadPlan → (BladeView → Option BladeEffect) → RackView → RackView → List Note → Type 0
HartDoes None act old new noted = ⊥
HartDoes (Some thread) act old new noted = BladeDoes thread.blade act old new noted

-- a wire or a link changes, and no node hears of it
pub record NetChanges (name : LinkName) (Changes : NetView → NetView → Type 0) (old new : RackView) (noted : List Note) : Type 0 where
  pub net : NetView
  pub changes : Changes old.net net
  pub only : ChangesOnly name old.net net
  pub after : new ≡ with_net net old
  pub notes : noted ≡ []

-- a frame is delivered: the link gives messages, and they are handed over
pub record Delivers (images : List ImageOf) (name : LinkName) (side : Side) (k : ℕ) (old new : RackView) (noted : List Note) : Type 0 where
  pub net : NetView
  pub taken : List Msg
  pub gives : Hands (links_of old.net name) side k taken (links_of net name)
  pub only : ChangesOnly name old.net net
  pub handed : HandsAll images name taken (with_net net old) new noted

-- the rack leads to the next one by an event, with these notes
abbrev pub Leads : List ImageOf → Event → RackView → RackView → List Note → Type 0
Leads images (Step hart) old new noted = HartDoes (slice_get old.plan.threads hart) (after_step images hart) old new noted
Leads images (Drain hart) old new noted = HartDoes (slice_get old.plan.threads hart) (blade_after_drain hart) old new noted
Leads images (Evict blade page) old new noted = BladeDoes blade (λ b. Some (given_up page b)) old new noted
Leads images (Deliver link side k) old new noted = Delivers images link side k old new noted
Leads images (Lose link side k) old new noted = NetChanges link (λ a b. Loses (links_of a link) side k (links_of b link)) old new noted
Leads images (Repeat link side k) old new noted = NetChanges link (λ a b. Repeats (links_of a link) side k (links_of b link)) old new noted
Leads images (Resend link) old new noted = NetChanges link (λ a b. SendsAgain (links_of a link) (links_of b link)) old new noted
Leads images Epoch old new noted = (new ≡ old) × (noted ≡ [])
Leads images (Ask command) old new noted = ⊥
Leads images Settle old new noted = ⊥
