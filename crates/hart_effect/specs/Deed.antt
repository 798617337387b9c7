-- What a thread does in one step, given what it finds around it.
use Rattle.std.specs.Prelude.{ℕ, ◌+◌, ◌-◌, ◌%◌, ◌==◌, Bool, true, false, ◌&&◌, ◌||◌, nat_le, List, [], ◌∷◌, ◌++◌, length, take, drop, Option, Some, None, if◌then◌else◌}
use Rattle.std.specs.Int.{w32, from_le_bytes}
use Rattle.rv32_decode.specs.Instr.{instr_of}
use Rattle.rv32_decode.specs.declared.instruction.Instr.{Instr}
use Rattle.rv32_decode.specs.declared.instruction.AmoKind.{AmoKind}
use Rattle.rv32_decode.specs.declared.instruction.LoadKind.{LoadKind}
use Rattle.hart_core.specs.Act.{act_of, IsWellFormedAct}
use Rattle.hart_core.specs.Memory.{combined, extended, load_size}
use Rattle.hart_core.specs.Registers.{register}
use Rattle.hart_core.specs.Values.{word_sum}
use Rattle.hart_core.specs.declared.outcome.Act.{Act}
use Rattle.hart_core.specs.declared.outcome.Act.TheVariants as act
use Rattle.hart_core.specs.declared.outcome.LockedKind.{LockedKind}
use Rattle.hart_core.specs.declared.outcome.LockedKind.TheVariants as locked
use Rattle.mind_base.specs.Pending.{PendingView}
use Rattle.mind_base.specs.Place.{Granule, place_of, granule_at, same_granule}
use Rattle.mind_base.specs.declared.ends.End.{End}
use Rattle.mind_base.specs.declared.ends.End.TheVariants.{Running, Exit, Fault}
use Rattle.mind_base.specs.declared.ends.FaultKind.{FaultKind}
use Rattle.mind_base.specs.declared.ends.FaultKind.TheVariants as fault
use Rattle.mind_base.specs.declared.images.Image.{Image}
use Rattle.hart_effect.specs.Core.{core_continued, core_put_out, core_exited, core_faulted}
use Rattle.hart_effect.specs.Thread.{Thread, with_core}
use Rattle.hart_effect.specs.Access.{Around, memory_byte, seen_byte, spelled_number, read_denied, write_denied}
use Rattle.hart_effect.specs.declared.finds.Found.{Found}
use Rattle.hart_effect.specs.declared.finds.Found.TheVariants.{Outside, Unknown, Asks}

-- the thread alone changes; or it changes and a store takes effect in memory with it, at once
pub data Deed : Type 0 where
  Alone : (thread : Thread) → Deed
  Storing : (thread : Thread) (store : PendingView) → Deed

-- ---- how a thread changes

-- the thread ends by a fault of its own
abbrev pub faulted : FaultKind → ℕ → ℕ → Thread → Thread
faulted kind value pc thread = with_core (core_faulted kind value pc) thread

-- a register takes a value, and the thread goes on at a pc
abbrev pub continued : ℕ → ℕ → ℕ → Thread → Thread
continued rd value pc thread = with_core (core_continued (record { rd = rd; value = value; pc = pc })) thread

-- a byte joins the output, and the thread goes on at the next word
abbrev pub put_out : ℕ → ℕ → Thread → Thread
put_out byte pc thread = with_core (core_put_out byte (word_sum pc 4)) thread

-- a store goes to the end of the buffer
abbrev pub buffered : PendingView → Thread → Thread
buffered store thread = record thread { buffer = thread.buffer ++ store ∷ [] }

-- the thread reserves a granule, or none
abbrev pub reserving : Option Granule → Thread → Thread
reserving granule thread = record thread { reserved = granule }

-- an environment call, by its number in a7: 1 puts out the low byte of a0, 2 exits with a0, 3 asks for
-- the thread's number
abbrev pub called : ℕ → ℕ → ℕ → ℕ → Thread → Thread
called number a0 hart pc thread =
    if number == 1 then put_out (a0 % 256) pc thread
    else (if number == 2 then with_core (core_exited a0) thread
    else (if number == 3 then continued 10 hart (word_sum pc 4) thread
    else faulted fault.Call number pc thread))

-- ---- loads, stores and locked operations

-- the access is denied and ends the thread, or it is done
abbrev pub unless_denied : Option FaultKind → ℕ → ℕ → Thread → Deed → Deed
unless_denied None address pc thread deed = deed
unless_denied (Some kind) address pc thread deed = Alone (faulted kind address pc thread)

-- a load takes the bytes that the thread sees
abbrev pub loaded : LoadKind → ℕ → ℕ → Around → ℕ → Thread → Deed
loaded kind rd address around pc thread = unless_denied (read_denied around.perm around.domain address (load_size kind)) address pc thread
    (Alone (continued rd (extended kind (spelled_number (seen_byte around.byte around.domain thread.buffer) address (load_size kind))) (word_sum pc 4) thread))

-- a store waits in the buffer
abbrev pub stored_later : ℕ → ℕ → ℕ → Around → ℕ → Thread → Deed
stored_later size address value around pc thread = unless_denied (write_denied around.perm around.domain address size) address pc thread
    (Alone (continued 0 0 (word_sum pc 4) (buffered (record { address = address; size = size; value = value }) thread)))

-- the word that memory holds at an address, without any buffer
abbrev pub memory_word : Around → ℕ → ℕ
memory_word around address = spelled_number (memory_byte around.byte around.domain) address 4

-- a register takes a value, and in the same step a word takes effect in memory
abbrev pub exchanged : ℕ → ℕ → ℕ → ℕ → ℕ → Thread → Deed
exchanged rd value address word pc thread =
    Storing (continued rd value (word_sum pc 4) thread) (record { address = address; size = 4; value = word })

-- the thread has its reservation on the granule
abbrev pub holds_reservation : Option Granule → Granule → Bool
holds_reservation None granule = false
holds_reservation (Some reserved) granule = same_granule reserved granule

-- LR reads the word and reserves its granule
abbrev pub load_reserved : ℕ → ℕ → Around → ℕ → Thread → Deed
load_reserved rd address around pc thread = unless_denied (read_denied around.perm around.domain address 4) address pc thread
    (Alone (continued rd (memory_word around address) (word_sum pc 4) (reserving (Some (granule_at (place_of around.domain address))) thread)))

-- SC stores and gives 0 where the thread's reservation is on the granule; else it gives 1, and the
-- reservation goes
abbrev pub stored_if : Bool → ℕ → ℕ → ℕ → ℕ → Thread → Deed
stored_if true rd address operand pc thread = exchanged rd 0 address operand pc thread
stored_if false rd address operand pc thread = Alone (continued rd 1 (word_sum pc 4) (reserving None thread))

abbrev pub store_conditional : ℕ → ℕ → ℕ → Around → ℕ → Thread → Deed
store_conditional rd address operand around pc thread = unless_denied (write_denied around.perm around.domain address 4) address pc thread
    (stored_if (holds_reservation thread.reserved (granule_at (place_of around.domain address))) rd address operand pc thread)

-- an atomic operation reads the word and writes the combined one
abbrev pub atomic_done : AmoKind → ℕ → ℕ → ℕ → Around → ℕ → Thread → Deed
atomic_done kind rd address operand around pc thread = unless_denied (write_denied around.perm around.domain address 4) address pc thread
    (exchanged rd (memory_word around address) address (combined kind (memory_word around address) operand) pc thread)

abbrev pub locked_done : LockedKind → ℕ → ℕ → ℕ → Around → ℕ → Thread → Deed
locked_done locked.Lr rd address operand around pc thread = load_reserved rd address around pc thread
locked_done locked.Sc rd address operand around pc thread = store_conditional rd address operand around pc thread
locked_done (locked.Amo kind) rd address operand around pc thread = atomic_done kind rd address operand around pc thread

-- ---- one instruction

-- what an instruction asks is done
abbrev pub acted : Act → Around → ℕ → Thread → Deed
acted (act.Next rd value next) around pc thread = Alone (continued rd value next thread)
acted (act.Load kind rd address) around pc thread = loaded kind rd address around pc thread
acted (act.Store size address value) around pc thread = stored_later size address value around pc thread
acted (act.Locked kind rd address operand) around pc thread = locked_done kind rd address operand around pc thread
acted (act.Fence drains) around pc thread = Alone (continued 0 0 (word_sum pc 4) thread)
acted act.Call around pc thread = Alone (called (register thread.regs 17) (register thread.regs 10) around.hart pc thread)
acted (act.Jumped target) around pc thread = Alone (faulted fault.Target target pc thread)
acted act.Broke around pc thread = Alone (faulted fault.Break 0 pc thread)

-- a locked operation and an ordering fence want the thread's buffer empty
abbrev pub wants_empty : Act → Bool
wants_empty (act.Locked kind rd address operand) = true
wants_empty (act.Fence drains) = drains
wants_empty asked = false

abbrev pub holds_stores : List PendingView → Bool
holds_stores [] = false
holds_stores (store ∷ stores) = true

-- the instruction wants an empty buffer, and the buffer is not empty
abbrev pub must_wait : Act → List PendingView → Bool
must_wait asked buffer = wants_empty asked && holds_stores buffer

-- the word at a pc, if its four bytes are wholly inside the image
abbrev pub word_at : Image → ℕ → Option ℕ
word_at image pc =
    if nat_le image.at pc && nat_le (pc + 4) (image.at + length image.bytes)
    then Some (from_le_bytes w32 (take 4 (drop (pc - image.at) image.bytes)))
    else None

-- what a thread comes upon at its pc
abbrev pub found_instr : Option Instr → ℕ → List ℕ → ℕ → Found
found_instr None word regs pc = Unknown word
found_instr (Some instr) word regs pc = Asks (act_of instr regs pc)

abbrev pub found_word : Option ℕ → List ℕ → ℕ → Found
found_word None regs pc = Outside
found_word (Some word) regs pc = found_instr (instr_of word) word regs pc

abbrev pub found : Image → List ℕ → ℕ → Found
found image regs pc = found_word (word_at image pc) regs pc

-- what an instruction asks has its fields in their ranges
abbrev pub AsksWellFormed : Found → Type 0
AsksWellFormed Outside = Unit {0}
AsksWellFormed (Unknown word) = Unit {0}
AsksWellFormed (Asks asked) = IsWellFormedAct asked

abbrev pub is_store : Act → Bool
is_store (act.Store size address value) = true
is_store asked = false

-- the thread's oldest store must drain first: the instruction must wait for an empty buffer, or it is a
-- store and the buffer is as long as the thread's queue
abbrev pub drains_first : Found → List PendingView → ℕ → Bool
drains_first Outside buffer queue = false
drains_first (Unknown word) buffer queue = false
drains_first (Asks asked) buffer queue = must_wait asked buffer || is_store asked && length buffer == queue

-- the thread does what it comes upon, unless it must wait for its buffer
abbrev pub carried_out : Found → Around → ℕ → Thread → Option Deed
carried_out Outside around pc thread = Some (Alone (faulted fault.Fetch pc pc thread))
carried_out (Unknown word) around pc thread = Some (Alone (faulted fault.Illegal word pc thread))
carried_out (Asks asked) around pc thread = if must_wait asked thread.buffer then None else Some (acted asked around pc thread)

-- a thread that runs executes the word at its pc; one that has ended does nothing more
abbrev pub executed_at : End → Image → Around → Thread → Option Deed
executed_at (Running pc) image around thread = carried_out (found image thread.regs pc) around pc thread
executed_at (Exit value) image around thread = None
executed_at (Fault kind value pc) image around thread = None

abbrev pub executed : Image → Around → Thread → Option Deed
executed image around thread = executed_at thread.end image around thread

-- ---- a drain

-- the oldest store leaves the buffer and takes effect, whether the thread runs or has ended
abbrev pub drained_of : List PendingView → Thread → Option Deed
drained_of [] thread = None
drained_of (oldest ∷ newer) thread = Some (Storing (record thread { buffer = newer }) oldest)

abbrev pub drain_deed : Thread → Option Deed
drain_deed thread = drained_of thread.buffer thread
