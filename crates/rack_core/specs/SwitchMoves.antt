-- What the switch and a memory blade change in the rack as its coherence sees it, and what is true of every switch.
use Rattle.std.specs.Prelude.{Option, Some, ◌≡◌, ◌≤◌, ◌<◌, ℕ, true, is_some, List, [], ◌∷◌, ◌++◌, length}
use Rattle.std.specs.List.{AllByRecursion}
use Rattle.mind_base.specs.Page.{PageView}
use Rattle.mind_base.specs.declared.links.LinkKind.{LinkKind}
use Rattle.mind_base.specs.declared.links.LinkKind.TheVariants.{Up, Down, To, From}
use Rattle.mind_base.specs.declared.links.LinkName.{LinkName}
use Rattle.mind_base.specs.declared.plans.RackPlan.{RackPlan}
use Rattle.page_image.specs.PageImage.{PageImageView}
use Rattle.protect_table.specs.Protect.{permission_at}
use Rattle.region_directory.specs.Block.{AreBlocksApart}
use Rattle.region_directory.specs.declared.entries.Entry.{Entry}
use Rattle.request_list.specs.Requests.{AskOncePerPage}
use Rattle.wire_msg.specs.declared.msgs.Msg.{Msg}
use Rattle.wire_msg.specs.declared.msgs.Msg.TheVariants.{Back, Read, Write}
use Rattle.memory_blade.specs.MemoryBlade.{image_at, images_after, answer_to}
use Rattle.switch_core.specs.Invariant.{IsFitEntry}
use Rattle.switch_core.specs.Switch.{SwitchView, SwitchEffect, place_in}
use Rattle.coherence.specs.Moves.{Move, heard}
use Rattle.coherence.specs.Runs.{Run}
use Rattle.coherence.specs.World.{World, put}
use Rattle.rack_core.specs.Events.{answer_to_switch}
use Rattle.rack_core.specs.Rack.{RackView}
use Rattle.rack_core.specs.Seen.{pending_on, wanted_at, region_at, sent_on}

-- ---- the switch, as coherence sees it

-- what is seen of the switch is this one's, and what it sent is on the links from it
abbrev pub with_seen_switch : SwitchView → List (LinkName × Msg) → World → World
with_seen_switch switch sent w = record w {
  wants = wanted_at switch.requests;
  regions = region_at switch.directory.entries;
  last = switch.last;
  downs = λ blade. w.downs blade ++ sent_on Down blade sent;
  tos = λ memory. w.tos memory ++ sent_on To memory sent;
}

abbrev pub shown : World → SwitchEffect → World
shown w done = with_seen_switch done.switch done.sent w

-- a list of moves leads from one world to another
abbrev pub LeadsByMoves : World → World → Type 0
LeadsByMoves first last = (moves : List Move) × Run first moves last

-- where pages lie, and what may be done with them, is what the switch says
pub record HasPlaces (w : World) (switch : SwitchView) : Type 0 where
  pub places : w.places ≡ place_in switch
  pub perms : w.perms ≡ permission_at switch.protect

-- what the rack shows of the switch is this switch's
pub record Shows (w : World) (switch : SwitchView) : Type 0 where
  pub wants : w.wants ≡ wanted_at switch.requests
  pub regions : w.regions ≡ region_at switch.directory.entries
  pub last : w.last ≡ switch.last
  pub places : HasPlaces w switch

-- nothing goes onto a link to the switch
abbrev pub SendsNoneUp : List (LinkName × Msg) → Type 0
SendsNoneUp sent = (number : ℕ) → (sent_on Up number sent ≡ []) × (sent_on From number sent ≡ [])

-- what is asked of a memory blade is asked of a page that lies there
abbrev pub AsksAt : (PageView → Option (ℕ × ℕ)) → ℕ → Msg → Type 0
AsksAt places memory (Read phys blade page) = places page ≡ Some (memory, phys)
AsksAt places memory (Write phys image) = (page : PageView) × (places page ≡ Some (memory, phys))
AsksAt places memory message = ⊥

abbrev pub AskPlaces : (PageView → Option (ℕ × ℕ)) → List (LinkName × Msg) → Type 0
AskPlaces places sent = (memory : ℕ) → AllByRecursion (AsksAt places memory) (sent_on To memory sent)

-- all that is pending to a memory blade asks for pages that lie there
abbrev pub AreAsked : RackView → Type 0
AreAsked rack = (memory : ℕ) → AllByRecursion (AsksAt (place_in rack.switch) memory) (pending_on rack.net To memory)

-- the pages that lie in a memory blade have numbers below this one
abbrev pub LieBelow : (PageView → Option (ℕ × ℕ)) → ℕ → ℕ → Type 0
LieBelow places memory count = (page : PageView) (phys : ℕ) → places page ≡ Some (memory, phys) → phys < count

-- ---- what is true of every switch beside coherence

-- no two entries share a page
abbrev pub AreEntriesApart : List Entry → Type 0
AreEntriesApart [] = Unit {0}
AreEntriesApart (entry ∷ entries) = AllByRecursion (λ later. AreBlocksApart entry.range later.range) entries × AreEntriesApart entries

-- Requests are apart and of 8 blades, entries share no page, states and targets name those blades, and a new
-- entry is for a block of at most 2 ^ 9 pages.
pub record IsSoundSwitch (switch : SwitchView) : Type 0 where
  pub requests : AskOncePerPage switch.requests
  pub blades : AllByRecursion (λ r. r.blade < 8) switch.requests
  pub blocks : AreEntriesApart switch.directory.entries
  pub entries : AllByRecursion (IsFitEntry 8) switch.directory.entries
  pub region : switch.plan.region ≤ 9

-- the directory has as many slots as the plan says, and no more entries
pub record HasSlots (plan : RackPlan) (switch : SwitchView) : Type 0 where
  pub slots : switch.directory.slots ≡ plan.slots
  pub room : length switch.directory.entries ≤ plan.slots

-- ---- messages to the switch

-- a page that comes back lies somewhere
abbrev pub LiesWhere : World → Msg → Type 0
LiesWhere w (Back page image) = is_some (w.places page) ≡ true
LiesWhere w message = Unit {0}

-- a message is the first on its link to the switch
abbrev pub IsFirstOn : LinkKind → ℕ → Msg → List Msg → World → Type 0
IsFirstOn Up number message behind w = w.ups number ≡ message ∷ behind
IsFirstOn From number message behind w = w.froms number ≡ message ∷ behind
IsFirstOn Down number message behind w = ⊥
IsFirstOn To number message behind w = ⊥

-- it is taken
abbrev pub taken_from : LinkKind → ℕ → List Msg → World → World
taken_from Up number behind w = heard number behind w
taken_from From number behind w = record w { froms = put number behind w.froms }
taken_from Down number behind w = w
taken_from To number behind w = w

-- messages that a link gave and its end has not been handed yet stand before what is pending on it
abbrev pub with_front : LinkKind → ℕ → List Msg → World → World
with_front Up number messages w = record w { ups = put number (messages ++ w.ups number) w.ups }
with_front Down number messages w = record w { downs = put number (messages ++ w.downs number) w.downs }
with_front To number messages w = record w { tos = put number (messages ++ w.tos number) w.tos }
with_front From number messages w = record w { froms = put number (messages ++ w.froms number) w.froms }

-- ---- a memory blade, as coherence sees it

-- a memory blade has taken its first message, and answered it
abbrev pub with_seen_memory : ℕ → List PageImageView → Msg → List Msg → World → World
with_seen_memory number images message behind w = record w {
  tos = put number behind w.tos;
  froms = λ memory. w.froms memory ++ sent_on From memory (answer_to_switch number (answer_to images message));
  images = put number (image_at (images_after images message)) w.images;
}
