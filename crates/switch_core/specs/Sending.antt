-- Which messages the switch may send, and what stays while it works.
use Rattle.std.specs.Prelude.{◌≡◌, ℕ, ◌+◌, ◌<◌, true, List, [], ◌∷◌, ◌++◌, length, Option, Some, None}
use Rattle.std.specs.List.{AllByRecursion}
use Rattle.mind_base.specs.declared.links.LinkKind.{LinkKind}
use Rattle.mind_base.specs.declared.links.LinkKind.TheVariants.{Up, Down, To, From}
use Rattle.mind_base.specs.declared.links.LinkName.{LinkName}
use Rattle.mind_base.specs.declared.notes.Note.{Note}
use Rattle.mind_base.specs.declared.plans.RackPlan.{RackPlan}
use Rattle.mind_base.specs.Permission.{allows}
use Rattle.protect_table.specs.Protect.{permission_at}
use Rattle.region_directory.specs.declared.entries.Busy.{Busy}
use Rattle.region_directory.specs.declared.entries.Entry.{Entry}
use Rattle.wire_msg.specs.WellFormed.{FieldsAgree}
use Rattle.wire_msg.specs.declared.msgs.Msg.{Msg}
use Rattle.switch_core.specs.Switch.{SwitchView, SwitchEffect}

-- the link leads down to a compute blade of the plan, or to one of its memory blades
abbrev pub LeadsOut : RackPlan → LinkKind → ℕ → Type 0
LeadsOut plan Down number = number < length plan.frames
LeadsOut plan To number = number < length plan.memories
LeadsOut plan Up number = ⊥
LeadsOut plan From number = ⊥

-- a message goes out on such a link, and its fields agree with each other
pub record IsSendable (plan : RackPlan) (message : LinkName × Msg) : Type 0 where
  pub link : LeadsOut plan message.0.kind message.0.number
  pub fields : FieldsAgree message.1

-- the second list begins with the first
abbrev pub Begins : {A : Type 0} → List A → List A → Type 0
Begins {A = A} front whole = (rest : List A) × (whole ≡ front ++ rest)

-- ---- what there is when work begins, and what comes of it

pub record Start : Type 0 where
  pub switch : SwitchView
  pub out : List (LinkName × Msg)
  pub notes : List Note

abbrev pub start_at : SwitchView → List (LinkName × Msg) → List Note → Start
start_at switch out notes = record { switch = switch; out = out; notes = notes }

-- what is fetched is allowed by the permissions in force
abbrev pub AreFetchesAllowed : SwitchView → Type 0
AreFetchesAllowed switch = AllByRecursion (λ r. r.fetching ≡ true → allows r.write (permission_at switch.protect r.page) ≡ true) switch.requests

-- The switch, the messages and the notes are those of the effect. Where what is fetched is allowed, it sends
-- nothing but what may be sent, and what is fetched then is allowed too.
pub record Comes (start : Start) (effect : SwitchEffect) (switch : SwitchView) (out : List (LinkName × Msg)) (notes : List Note) : Type 0 where
  pub after : switch ≡ effect.switch
  pub sent : out ≡ start.out ++ effect.sent
  pub noted : notes ≡ start.notes ++ effect.noted
  pub plan : switch.plan ≡ start.switch.plan
  pub sendable : AreFetchesAllowed start.switch → AllByRecursion (IsSendable start.switch.plan) effect.sent
  pub allowed : AreFetchesAllowed start.switch → AreFetchesAllowed switch

-- how many transitions are under way
abbrev pub is_under_way : Option Busy → ℕ
is_under_way None = 0
is_under_way (Some busy) = 1

abbrev pub under_way : List Entry → ℕ
under_way [] = 0
under_way (entry ∷ entries) = is_under_way entry.busy + under_way entries

-- the plan and the number of slots stay
pub record Remains (old new : SwitchView) : Type 0 where
  pub plan : new.plan ≡ old.plan
  pub slots : new.directory.slots ≡ old.directory.slots

-- However work goes, the plan and the number of slots stay, and each transition that is begun takes one
-- number.
pub record Stays (old new : SwitchView) : Type 0 where
  pub plan : new.plan ≡ old.plan
  pub slots : new.directory.slots ≡ old.directory.slots
  pub numbers : new.last + under_way old.directory.entries ≡ old.last + under_way new.directory.entries

-- and the messages and notes begin with what was there
pub record KeepsStart (start : Start) (switch : SwitchView) (out : List (LinkName × Msg)) (notes : List Note) : Type 0 where
  pub stays : Stays start.switch switch
  pub sent : Begins start.out out
  pub noted : Begins start.notes notes
