-- What is seen of the switch, and what one call on it does.
use Rattle.std.specs.Prelude.{ℕ, List, [], ◌++◌, Option}
use Rattle.mind_base.specs.Page.{PageView}
use Rattle.mind_base.specs.declared.links.LinkKind.{LinkKind}
use Rattle.mind_base.specs.declared.links.LinkKind.TheVariants.{Down, To}
use Rattle.mind_base.specs.declared.links.LinkName.{LinkName}
use Rattle.mind_base.specs.declared.notes.Note.{Note}
use Rattle.mind_base.specs.declared.plans.RackPlan.{RackPlan}
use Rattle.protect_table.specs.Protect.{ProtectView}
use Rattle.range_translate.specs.Place.{physical_place}
use Rattle.range_translate.specs.Table.{TableView}
use Rattle.region_directory.specs.Directory.{DirectoryView}
use Rattle.region_directory.specs.declared.entries.Entry.{Entry}
use Rattle.request_list.specs.declared.requests.Request.{Request}
use Rattle.wire_msg.specs.declared.msgs.Msg.{Msg}

-- the plan, which never changes; where pages lie, and what their domains may do with them; which blades
-- hold pages of which blocks; the blades' requests by arrival; and the number of the last transition
pub record SwitchView : Type 0 where
  pub plan : RackPlan
  pub table : TableView
  pub protect : ProtectView
  pub directory : DirectoryView
  pub requests : List Request
  pub last : ℕ

abbrev pub with_entries : SwitchView → List Entry → SwitchView
with_entries switch entries = record switch { directory = record switch.directory { entries = entries } }

abbrev pub with_requests : SwitchView → List Request → SwitchView
with_requests switch requests = record switch { requests = requests }

-- the place of a page, as the memory blade and the physical number there
abbrev pub place_in : SwitchView → PageView → Option (ℕ × ℕ)
place_in switch page = physical_place switch.table.homes switch.table.outliers page

-- ---- what a call does

-- the switch after a call, the messages that it sent, each with its link, and the notes that it made
pub record SwitchEffect : Type 0 where
  pub switch : SwitchView
  pub sent : List (LinkName × Msg)
  pub noted : List Note

-- nothing is sent, and nothing noted
abbrev pub only : SwitchView → SwitchEffect
only switch = record { switch = switch; sent = []; noted = [] }

-- one thing after another
abbrev pub and_then : SwitchEffect → (SwitchView → SwitchEffect) → SwitchEffect
and_then first next =
    let last : SwitchEffect = next first.switch in
    record { switch = last.switch; sent = first.sent ++ last.sent; noted = first.noted ++ last.noted }

-- a message on a link
abbrev pub on_link : LinkKind → ℕ → Msg → LinkName × Msg
on_link kind number message = (record { kind = kind; number = number }, message)

-- one to a compute blade, and one to a memory blade
abbrev pub to_blade : ℕ → Msg → LinkName × Msg
to_blade = on_link Down

abbrev pub to_memory : ℕ → Msg → LinkName × Msg
to_memory = on_link To
