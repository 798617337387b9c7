-- What the calls of a rack want, and what they leave.
use Rattle.std.specs.Prelude.{◌≡◌, ◌⊎◌, ℕ, ◌<◌, List, [], ◌++◌, length, slice_get, Some, All}
use Rattle.mind_base.specs.declared.events.Event.{Event}
use Rattle.mind_base.specs.declared.events.Event.TheVariants.{Step, Drain, Evict, Deliver, Lose, Repeat, Resend, Epoch, Ask, Settle}
use Rattle.mind_base.specs.declared.links.LinkName.{LinkName}
use Rattle.mind_base.specs.declared.links.LinkKind.{LinkKind}
use Rattle.mind_base.specs.declared.links.LinkKind.TheVariants.{Up, Down, To, From}
use Rattle.mind_base.specs.declared.links.Side.{Side}
use Rattle.mind_base.specs.declared.notes.Note.{Note}
use Rattle.mind_base.specs.declared.plans.RackPlan.{RackPlan}
use Rattle.page_image.specs.PageImage.{PageImageView}
use Rattle.wire_msg.specs.declared.msgs.Msg.{Msg}
use Rattle.compute_blade.specs.Blade.{BladeView, HasSpent}
use Rattle.compute_blade.specs.Messages.{MayComeToBlade}
use Rattle.memory_blade.specs.MemoryBlade.{IsFor}
use Rattle.rack_net.specs.Net.{NetView, links_of, links_of_kind, frames_on}
use Rattle.switch_core.specs.Handling.{IsQuietSwitch, MayComeToSwitch}
use Rattle.switch_core.specs.Serving.{IsServed}
use Rattle.rack_core.specs.Rack.{RackView}
use Rattle.rack_core.specs.Safe.{IsSafe}
use Rattle.rack_core.specs.Shape.{IsShaped}

-- ---- what a call wants

-- the link is one of a rack of this plan
abbrev pub HasLink : RackPlan → LinkName → Type 0
HasLink plan link = link.number < links_of_kind (length plan.frames) (length plan.memories) link.kind

-- The thread, the blade or the link that the event names is there. Commands are not taken yet, and a settling is a
-- series of other events.
abbrev pub IsEventFor : RackPlan → Event → Type 0
IsEventFor plan (Step hart) = hart < length plan.threads
IsEventFor plan (Drain hart) = hart < length plan.threads
IsEventFor plan (Evict blade page) = blade < length plan.frames
IsEventFor plan (Deliver link side k) = HasLink plan link
IsEventFor plan (Lose link side k) = HasLink plan link
IsEventFor plan (Repeat link side k) = HasLink plan link
IsEventFor plan (Resend link) = HasLink plan link
IsEventFor plan Epoch = Unit {0}
IsEventFor plan (Ask command) = ⊥
IsEventFor plan Settle = ⊥

-- the node at a link's end may be handed the message
abbrev pub MayBeHanded : LinkKind → ℕ → Msg → RackView → Type 0
MayBeHanded Up number message rack = MayComeToSwitch rack.switch (record { kind = Up; number = number }) message
MayBeHanded Down number message rack = (blade : BladeView) → slice_get rack.blades number ≡ Some blade → MayComeToBlade blade message
MayBeHanded To number message rack = (pages : List PageImageView) → slice_get rack.memories number ≡ Some pages → IsFor (length pages) message
MayBeHanded From number message rack = MayComeToSwitch rack.switch (record { kind = From; number = number }) message

-- ---- what a call leaves

-- A rack has its plan's shape, what is true of every rack is true of it, and the switch has served.
pub record IsKept (rack : RackView) : Type 0 where
  pub shape : IsShaped rack
  pub safe : IsSafe rack
  pub served : IsServed rack.switch

-- notes were added, and they are what was done
abbrev pub Notes : (List Note → Type 0) → List Note → List Note → Type 0
Notes Did old new = (added : List Note) × Did added × (new ≡ old ++ added)

-- a link has given its last number
abbrev pub HasSpentLink : NetView → Type 0
HasSpentLink net = (name : LinkName) × ((links_of net name).next ≡ 4294967295)

-- a blade has given a hart's last tag
abbrev pub HasSpentHart : List BladeView → Type 0
HasSpentHart all = (c : ℕ) × (blade : BladeView) × (h : ℕ) × (slice_get all c ≡ Some blade) × HasSpent h blade

-- a number of the rack has its last value: a link's next one, that of the last transition, or a count of stores
abbrev pub HasSpentNumber : RackView → Type 0
HasSpentNumber rack = HasSpentLink rack.net ⊎ ((rack.switch.last ≡ 4294967295) ⊎ HasSpentHart rack.blades)

-- all wires are empty, and no link keeps a message
abbrev pub HasNoFrame : NetView → Type 0
HasNoFrame net = (name : LinkName) (side : Side) → frames_on net name side ≡ []

abbrev pub KeepsNothing : NetView → Type 0
KeepsNothing net = (name : LinkName) → (links_of net name).kept ≡ 0

-- no frame is on a wire, no link keeps a message, and no blade and not the switch waits for anything
pub record IsQuiet (rack : RackView) : Type 0 where
  pub frames : HasNoFrame rack.net
  pub kept : KeepsNothing rack.net
  pub switch : IsQuietSwitch rack.switch
  pub blades : All (λ blade. blade.requests ≡ []) rack.blades
