-- What a thread is to do in one step, as it is worked out before anything changes.
use Rattle.std.specs.Prelude.{◌≡◌, ℕ, List, Option, Some, None}
use Rattle.mind_base.specs.Pending.{PendingView}
use Rattle.mind_base.specs.Page.{PageView}
use Rattle.mind_base.specs.declared.commands.Perm.{Perm}
use Rattle.mind_base.specs.Place.{Granule, place_of, granule_at}
use Rattle.hart_core.specs.declared.outcome.Act.{Act}
use Rattle.hart_core.specs.declared.outcome.Act.TheVariants as act
use Rattle.hart_core.specs.declared.outcome.LockedKind.TheVariants as locked
use Rattle.hart_effect.specs.Access.{Around, memory_byte, seen_byte}
use Rattle.hart_effect.specs.Core.{CoreView, core_continued, core_put_out, core_exited, core_faulted}
use Rattle.hart_effect.specs.Deed.{Deed, Alone, Storing, buffered, reserving}
use Rattle.hart_effect.specs.Thread.{Thread, thread_with, with_core}
use Rattle.hart_effect.specs.declared.finds.Found.{Found}
use Rattle.hart_effect.specs.declared.finds.Found.TheVariants.{Outside, Unknown, Asks}
use Rattle.hart_effect.specs.declared.instructions.Sight.{Sight}
use Rattle.hart_effect.specs.declared.instructions.Sight.TheVariants as sight
use Rattle.hart_effect.specs.declared.works.AccessEffect.{AccessEffect}
use Rattle.hart_effect.specs.declared.works.AccessEffect.TheVariants.{Buffers, Reserves, GivesUp, Stores}
use Rattle.hart_effect.specs.declared.works.Change.{Change}
use Rattle.hart_effect.specs.declared.works.Change.TheVariants.{Continues, PutsOut, Exits, Faults}
use Rattle.hart_effect.specs.declared.works.Work.{Work}
use Rattle.hart_effect.specs.declared.works.Work.TheVariants as works

-- how a core changes
abbrev pub core_changed : Change → CoreView → CoreView
core_changed (Continues next) core = core_continued next core
core_changed (PutsOut byte pc) core = core_put_out byte pc core
core_changed (Exits value) core = core_exited value core
core_changed (Faults kind value pc) core = core_faulted kind value pc core

-- the change is that a byte joins the output
abbrev pub PutsOutByte : Change → Type 0
PutsOutByte (Continues next) = ⊥
PutsOutByte (PutsOut byte pc) = Unit {0}
PutsOutByte (Exits value) = ⊥
PutsOutByte (Faults kind value pc) = ⊥

-- the deed of an access that is done: beside it the core goes on
abbrev pub deed_with : AccessEffect → (Thread → Thread) → Thread → Deed
deed_with (Buffers store) going_on thread = Alone (going_on (buffered store thread))
deed_with (Reserves granule) going_on thread = Alone (going_on (reserving (Some granule) thread))
deed_with GivesUp going_on thread = Alone (going_on (reserving None thread))
deed_with (Stores store) going_on thread = Storing (going_on thread) store

-- the deed that the work is
abbrev pub deed_of : Work → Thread → Deed
deed_of (works.Alone change) thread = Alone (with_core (core_changed change) thread)
deed_of (works.Accesses effect next) thread = deed_with effect (with_core (core_continued next)) thread

-- what the thread finds around it, of such bytes and permissions
abbrev pub around_of : ℕ → ℕ → (ℕ → ℕ → ℕ) → (PageView → Perm) → Around
around_of hart domain bytes perms = record { hart = hart; domain = domain; byte = bytes; perm = perms }

-- ---- which work comes of which instruction

abbrev pub IsFault : Change → Type 0
IsFault (Continues next) = ⊥
IsFault (PutsOut byte pc) = ⊥
IsFault (Exits value) = ⊥
IsFault (Faults kind value pc) = Unit {0}

-- where an instruction may have an effect beside its core, the core alone changes only by a fault
abbrev pub AloneFits : Act → Change → Type 0
AloneFits (act.Store size address value) change = IsFault change
AloneFits (act.Locked kind rd address operand) change = IsFault change
AloneFits asked change = Unit {0}

-- a store is buffered; LR reserves the granule of its word; SC gives the reservation up or stores; AMO stores
abbrev pub EffectFits : Act → ℕ → AccessEffect → Type 0
EffectFits (act.Store size address value) domain (Buffers store) = Unit {0}
EffectFits (act.Locked locked.Lr rd address operand) domain (Reserves granule) = granule ≡ granule_at (place_of domain address)
EffectFits (act.Locked locked.Sc rd address operand) domain GivesUp = Unit {0}
EffectFits (act.Locked locked.Sc rd address operand) domain (Stores store) = Unit {0}
EffectFits (act.Locked (locked.Amo kind) rd address operand) domain (Stores store) = Unit {0}
EffectFits asked domain effect = ⊥

abbrev pub WorkFits : Act → ℕ → Work → Type 0
WorkFits asked domain (works.Alone change) = AloneFits asked change
WorkFits asked domain (works.Accesses effect next) = EffectFits asked domain effect

-- the same of what was found: where it is no instruction, there is a fault
abbrev pub WorkFitsFound : Found → ℕ → Work → Type 0
WorkFitsFound Outside domain (works.Alone change) = IsFault change
WorkFitsFound (Unknown word) domain (works.Alone change) = IsFault change
WorkFitsFound (Asks asked) domain work = WorkFits asked domain work
WorkFitsFound found domain work = ⊥

-- the core alone changes; and a store takes effect at once
abbrev pub IsAlone : Work → Type 0
IsAlone (works.Alone change) = Unit {0}
IsAlone (works.Accesses effect next) = ⊥

abbrev pub IsStoring : Work → Type 0
IsStoring (works.Alone change) = ⊥
IsStoring (works.Accesses (Stores store) next) = Unit {0}
IsStoring (works.Accesses effect next) = ⊥

-- the work is this deed of every thread with these stores and this reservation, whatever its core is
abbrev pub IsWorkOf : (Thread → Deed) → List PendingView → Option Granule → Work → Type 0
IsWorkOf deed buffer reserved work =
    (core : CoreView) → deed_of work (thread_with core buffer reserved) ≡ deed (thread_with core buffer reserved)

-- the byte that an access reads at an address: that which its thread sees, or memory's
abbrev pub byte_by : Sight → (ℕ → ℕ → ℕ) → ℕ → List PendingView → ℕ → ℕ
byte_by sight.Thread bytes domain buffer address = seen_byte bytes domain buffer address
byte_by sight.Memory bytes domain buffer address = memory_byte bytes domain address
