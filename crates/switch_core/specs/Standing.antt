-- Where the switch stands in a pass over the requests, and how much is left for passes to do.
use Rattle.std.specs.Prelude.{◌≡◌, ℕ, ◌+◌, ◌*◌, ◌<◌, Bool, true, false, List, [], ◌∷◌, length, slice_get, if◌then◌else◌, is_none, Some}
use Rattle.mind_base.specs.declared.links.LinkName.{LinkName}
use Rattle.mind_base.specs.declared.notes.Note.{Note}
use Rattle.mind_base.specs.Permission.{allows}
use Rattle.protect_table.specs.Protect.{permission_at}
use Rattle.region_directory.specs.declared.entries.Entry.{Entry}
use Rattle.request_list.specs.declared.requests.Request.{Request}
use Rattle.wire_msg.specs.declared.msgs.Msg.{Msg}
use Rattle.switch_core.specs.Sending.{Start, Comes}
use Rattle.switch_core.specs.Switch.{SwitchView, SwitchEffect, only}
use Rattle.switch_core.specs.Treating.{Pass}
use Rattle.switch_core.specs.declared.stands.Stand.{Stand}

-- how many requests wait, and how many entries have no transition
abbrev pub waiting_in : List Request → ℕ
waiting_in [] = 0
waiting_in (r ∷ rs) = (if r.fetching then 0 else 1) + waiting_in rs

abbrev pub idle_in : List Entry → ℕ
idle_in [] = 0
idle_in (entry ∷ entries) = (if is_none entry.busy then 1 else 0) + idle_in entries

-- what passes can still do: whatever a pass does makes this less
abbrev pub left_to_do : SwitchView → ℕ
left_to_do switch = 2 * waiting_in switch.requests + idle_in switch.directory.entries

-- a pass that has changed something has less left to do, and one that has not has done nothing
abbrev pub PassTells : Bool → SwitchView → SwitchEffect → Type 0
PassTells false first done = done ≡ only first
PassTells true first done = left_to_do done.switch < left_to_do first

-- the switch, the messages, the notes and the stand are those of the pass
pub record InPass (start : Start) (pass : Pass) (switch : SwitchView) (stand : Stand) (out : List (LinkName × Msg)) (notes : List Note) : Type 0 where
  pub comes : Comes start pass.done switch out notes
  pub at : stand.at ≡ pass.at
  pub blocked : stand.blocked ≡ pass.blocked
  pub tells : PassTells stand.changed start.switch pass.done

-- the request stands at the stand's place and waits, and its domain may do what it asks
pub record IsTreatable (switch : SwitchView) (stand : Stand) (r : Request) : Type 0 where
  pub at : stand.at < 4294967295
  pub place : slice_get switch.requests stand.at ≡ Some r
  pub blade : r.blade < length switch.plan.frames
  pub waits : r.fetching ≡ false
  pub allowed : allows r.write (permission_at switch.protect r.page) ≡ true

-- the pass goes on by this change, wherever it began
abbrev pub PassGoesOn : (Pass → Pass) → SwitchView → Stand → List (LinkName × Msg) → List Note → SwitchView → Stand → List (LinkName × Msg) → List Note → Type 0
PassGoesOn change switch stand out notes switch' stand' out' notes' =
    (start : Start) → (pass : Pass) → InPass start pass switch stand out notes → InPass start (change pass) switch' stand' out' notes'
