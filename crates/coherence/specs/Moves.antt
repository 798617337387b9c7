-- The things that blades, switch and memory blades do, one at a time.
use Rattle.std.specs.Prelude.{◌≡◌, ℕ, ◌+◌, Bool, true, false, List, [], ◌∷◌, ◌++◌, Option, Some, None, if◌then◌else◌}
use Rattle.mind_base.specs.Page.{PageView}
use Rattle.mind_base.specs.Range.{RangeView, in_range}
use Rattle.mind_base.specs.declared.commands.Perm.{Perm}
use Rattle.mind_base.specs.declared.notes.State.{State}
use Rattle.mind_base.specs.declared.notes.State.TheVariants.{I, M}
use Rattle.mind_base.specs.Permission.{allows}
use Rattle.invalidate_multicast.specs.Blades.{has_blade}
use Rattle.invalidate_multicast.specs.Transition.{after_answer, is_answered}
use Rattle.page_cache.specs.PageCache.{lowered_frame, is_writable}
use Rattle.page_cache.specs.declared.frames.Frame.{Frame}
use Rattle.page_image.specs.PageImage.{PageImageView}
use Rattle.region_directory.specs.declared.entries.Busy.{Busy}
use Rattle.wire_msg.specs.declared.msgs.Msg.{Msg}
use Rattle.wire_msg.specs.declared.msgs.Msg.TheVariants.{Get, Fill, Deny, Back, Inv, Lower, Ack, Read, Image, Write}
use Rattle.coherence.specs.Facts.{AreBlocksOf, names, owns, is_fetching}
use Rattle.coherence.specs.World.{Region, Wanted, World, put, put_page, put_both, put_range}

-- ---- a blade

-- messages are sent up
abbrev pub sends : ℕ → List Msg → World → World
sends blade messages w = record w { ups = put blade (w.ups blade ++ messages) w.ups }

-- the first message down is taken
abbrev pub took : ℕ → List Msg → World → World
took blade behind w = record w { downs = put blade behind w.downs }

-- a blade asks for a page that it does not hold to write, and for which no request is out
abbrev pub asked : ℕ → PageView → Bool → World → World
asked blade page write w = sends blade (Get page write ∷ []) (record w { asks = put_both blade page (Some write) w.asks })

pub record MayAsk (w : World) (blade : ℕ) (page : PageView) : Type 0 where
  pub free : w.asks blade page ≡ None
  pub unwritable : is_writable (w.frames blade page) ≡ false

-- a store takes effect in a frame that may be written
abbrev pub stored : ℕ → PageView → Frame → PageImageView → World → World
stored blade page frame image w = record w {
  frames = put_both blade page (Some (record frame { image = image; dirty = true })) w.frames;
  flat = put_page page image w.flat;
}

-- a page that is held is given up, or may be written no longer; if it is dirty its image goes back
abbrev pub backs : PageView → Frame → List Msg
backs page frame = if frame.dirty then Back page frame.image ∷ [] else []

abbrev pub gave_up : ℕ → PageView → Frame → World → World
gave_up blade page frame w = sends blade (backs page frame) (record w { frames = put_both blade page None w.frames })

abbrev pub lowered : ℕ → PageView → Frame → World → World
lowered blade page frame w = sends blade (backs page frame) (record w { frames = put_both blade page (Some (lowered_frame frame)) w.frames })

-- a page that comes is taken, and its request ends
abbrev pub filled : ℕ → PageView → Perm → Bool → PageImageView → List Msg → World → World
filled blade page perm writable image behind w = took blade behind (record w {
  frames = put_both blade page (Some (record { image = image; writable = writable; dirty = false; perm = perm })) w.frames;
  asks = put_both blade page None w.asks;
})

abbrev pub was_denied : ℕ → PageView → List Msg → World → World
was_denied blade page behind w = took blade behind (record w { asks = put_both blade page None w.asks })

-- an invalidation is answered when no page of the block is held, a lowering when none is held to write
abbrev pub answers : ℕ → ℕ → ℕ → List Msg → World → World
answers blade number count behind w = sends blade (Ack number count ∷ []) (took blade behind w)

-- ---- the switch

-- the first message up is taken
abbrev pub heard : ℕ → List Msg → World → World
heard blade behind w = record w { ups = put blade behind w.ups }

abbrev pub arrived : ℕ → PageView → Bool → List Msg → World → World
arrived blade page write behind w =
    heard blade behind (record w { wants = put_both blade page (Some (record { write = write; fetching = false })) w.wants })

-- an image that came back goes on to where the page lies
abbrev pub went_back : ℕ → ℕ × ℕ → PageImageView → List Msg → World → World
went_back blade place image behind w =
    heard blade behind (record w { tos = put place.0 (w.tos place.0 ++ Write place.1 image ∷ []) w.tos })

-- an acknowledgement: the blade is waited for no longer; who waits for nobody is in its target state
abbrev pub ended : Region → Region
ended region = if is_answered region.busy then record { range = region.range; state = after_busy region.busy region.state; busy = None } else region
  where
    after_busy : Option Busy → State → State
    after_busy None state = state
    after_busy (Some busy) state = busy.target

abbrev pub region_answered : ℕ → ℕ → Option Region → Option Region
region_answered number blade None = None
region_answered number blade (Some region) = Some (ended (record region { busy = after_answer number blade region.busy }))

abbrev pub acknowledged : ℕ → ℕ → List Msg → World → World
acknowledged blade number behind w =
    heard blade behind (record w { regions = λ page. region_answered number blade (w.regions page) })

-- an image for a request goes on to the blade, and the request ends
abbrev pub passed_on : ℕ → ℕ → PageView → Wanted → PageImageView → List Msg → World → World
passed_on memory blade page wanted image behind w = record w {
  froms = put memory behind w.froms;
  wants = put_both blade page None w.wants;
  downs = put blade (w.downs blade ++ Fill page (w.perms page) wanted.write image ∷ []) w.downs;
}

-- a request that the permissions do not allow ends
abbrev pub refused : ℕ → PageView → World → World
refused blade page w = record w {
  wants = put_both blade page None w.wants;
  downs = put blade (w.downs blade ++ Deny page ∷ []) w.downs;
}

-- an entry for a block of which no page has one; an entry that names nobody and has no transition is dropped
abbrev pub entered : RangeView → World → World
entered range w = record w { regions = put_range range (Some (record { range = range; state = I; busy = None })) w.regions }

abbrev pub dropped : RangeView → World → World
dropped range w = record w { regions = put_range range None w.regions }

-- a request is granted: the entry's new state names the blade, and the page is read
abbrev pub granted : ℕ → PageView → Bool → ℕ × ℕ → Region → State → World → World
granted blade page write place region state w = record w {
  regions = put_range region.range (Some (record region { state = state })) w.regions;
  wants = put_both blade page (Some (record { write = write; fetching = true })) w.wants;
  tos = put place.0 (w.tos place.0 ++ Read place.1 (Some blade) page ∷ []) w.tos;
}

-- to read: nobody may write, or the blade itself is the owner; the new state names all that were named, and the blade
pub record GrantsReading (old new : State) (blade : ℕ) : Type 0 where
  pub named : names new blade ≡ true
  pub others : (other : ℕ) → names old other ≡ true → names new other ≡ true
  pub owner : (other : ℕ) → owns new other ≡ owns old other
  pub alone : (other : ℕ) → owns old other ≡ true → other ≡ blade

-- to write: no other blade is named, and the blade becomes the owner
pub record GrantsWriting (old new : State) (blade : ℕ) : Type 0 where
  pub owner : new ≡ M blade
  pub alone : (other : ℕ) → names old other ≡ true → other ≡ blade

abbrev pub Grants : Bool → State → State → ℕ → Type 0
Grants false old new blade = GrantsReading old new blade
Grants true old new blade = GrantsWriting old new blade

pub record MayGrant (w : World) (blade : ℕ) (page : PageView) (write : Bool) (place : ℕ × ℕ) (region : Region) (state : State) : Type 0 where
  pub wanted : w.wants blade page ≡ Some (record { write = write; fetching = false })
  pub allowed : allows write (w.perms page) ≡ true
  pub lies : w.places page ≡ Some place
  pub entry : w.regions page ≡ Some region
  pub idle : region.busy ≡ None
  pub grants : Grants write region.state state blade

-- a transition is begun at an entry without one: a call goes to each blade that is waited for
abbrev pub call_to : Busy → Msg → ℕ → List Msg
call_to busy message blade = if has_blade busy.waiting blade then message ∷ [] else []

abbrev pub begun : Region → Busy → Msg → World → World
begun region busy message w = record w {
  regions = put_range region.range (Some (record region { busy = Some busy })) w.regions;
  downs = λ blade. w.downs blade ++ call_to busy message blade;
  last = busy.number;
}

-- an invalidation leaves no page to whom it waits for, a lowering leaves it to read
abbrev pub IsCallOf : RangeView → Busy → Msg → Type 0
IsCallOf range busy (Inv number block asked) = (number ≡ busy.number) × (block ≡ range)
IsCallOf range busy (Lower number block asked) = (number ≡ busy.number) × (block ≡ range)
    × ((blade : ℕ) → has_blade busy.waiting blade ≡ true → names busy.target blade ≡ true)
IsCallOf range busy message = ⊥

pub record MayBegin (w : World) (region : Region) (busy : Busy) (message : Msg) : Type 0 where
  pub entry : (page : PageView) → in_range region.range page ≡ true → w.regions page ≡ Some region
  pub idle : region.busy ≡ None
  pub unfetched : (page : PageView) (blade : ℕ) → in_range region.range page ≡ true → is_fetching (w.wants blade page) ≡ false
  pub number : busy.number ≡ w.last + 1
  -- who is named is waited for, or stays; the target has no owner, and names none that was not
  pub covered : (blade : ℕ) → names region.state blade ≡ true → has_blade busy.waiting blade ≡ false → names busy.target blade ≡ true
  pub owners : (blade : ℕ) → owns busy.target blade ≡ false
  pub kept : (blade : ℕ) → names busy.target blade ≡ true → names region.state blade ≡ true
  pub writers : (blade : ℕ) → owns region.state blade ≡ true → has_blade busy.waiting blade ≡ true
  pub call : IsCallOf region.range busy message

-- ---- entries change their size

-- a transition and the state under it stay; without one, who was named is named, and who was the owner is the owner
abbrev pub KeepsState : Option Busy → State → State → Type 0
KeepsState (Some busy) was now = now ≡ was
KeepsState None was now = (blade : ℕ) → (names was blade ≡ true → names now blade ≡ true) × (owns was blade ≡ true → owns now blade ≡ true)

-- the entry that a page had and the one that it has: a page has one where it had one
abbrev pub KeepsEntry : Option Region → Option Region → Type 0
KeepsEntry None None = Unit {0}
KeepsEntry None (Some now) = ⊥
KeepsEntry (Some was) None = ⊥
KeepsEntry (Some was) (Some now) = (now.busy ≡ was.busy) × KeepsState was.busy was.state now.state

-- Entries are split, busy ones too, and merged: each page keeps its entry so, and the entry of a page is again the
-- entry of each page of its block.
pub record Reshapes (old new : PageView → Option Region) : Type 0 where
  pub pages : (page : PageView) → KeepsEntry (old page) (new page)
  pub blocks : AreBlocksOf new

abbrev pub reshaped : (PageView → Option Region) → World → World
reshaped regions w = record w { regions = regions }

-- an entry is split: both halves have its state and its transition
abbrev pub with_range : RangeView → Region → Region
with_range range region = record region { range = range }

abbrev pub split_into : RangeView → RangeView → Region → (PageView → Option Region) → PageView → Option Region
split_into lower upper region regions =
    put_range lower (Some (with_range lower region)) (put_range upper (Some (with_range upper region)) regions)

-- two entries without a transition are merged into one
abbrev pub merged_into : RangeView → State → (PageView → Option Region) → PageView → Option Region
merged_into range state regions = put_range range (Some (record { range = range; state = state; busy = None })) regions

-- the halves of a block have entries without a transition, and the new state names who they name, with their owners
pub record MayMerge (w : World) (lower upper : Region) (state : State) : Type 0 where
  pub lower_entry : (page : PageView) → in_range lower.range page ≡ true → w.regions page ≡ Some lower
  pub upper_entry : (page : PageView) → in_range upper.range page ≡ true → w.regions page ≡ Some upper
  pub lower_idle : lower.busy ≡ None
  pub upper_idle : upper.busy ≡ None
  pub lower_kept : KeepsState None lower.state state
  pub upper_kept : KeepsState None upper.state state

-- ---- a memory blade

abbrev pub read : ℕ → ℕ → ℕ → PageView → List Msg → World → World
read memory phys blade page behind w = record w {
  tos = put memory behind w.tos;
  froms = put memory (w.froms memory ++ Image (Some blade) page (w.images memory phys) ∷ []) w.froms;
}

abbrev pub wrote : ℕ → ℕ → PageImageView → List Msg → World → World
wrote memory phys image behind w = record w {
  tos = put memory behind w.tos;
  images = put memory (put phys image (w.images memory)) w.images;
}

-- ---- all moves

pub data Move : Type 0 where
  Asks : (blade : ℕ) (page : PageView) (write : Bool) → Move
  Stores : (blade : ℕ) (page : PageView) (frame : Frame) (image : PageImageView) → Move
  GivesUp : (blade : ℕ) (page : PageView) (frame : Frame) → Move
  Lowers : (blade : ℕ) (page : PageView) (frame : Frame) → Move
  TakesFill : (blade : ℕ) (page : PageView) (perm : Perm) (writable : Bool) (image : PageImageView) (behind : List Msg) → Move
  TakesDeny : (blade : ℕ) (page : PageView) (behind : List Msg) → Move
  AnswersInv : (blade number : ℕ) (range : RangeView) (asked : Option PageView) (count : ℕ) (behind : List Msg) → Move
  AnswersLower : (blade number : ℕ) (range : RangeView) (asked : PageView) (count : ℕ) (behind : List Msg) → Move
  HearsGet : (blade : ℕ) (page : PageView) (write : Bool) (behind : List Msg) → Move
  HearsBack : (blade : ℕ) (page : PageView) (image : PageImageView) (place : ℕ × ℕ) (behind : List Msg) → Move
  HearsAck : (blade number count : ℕ) (behind : List Msg) → Move
  HearsImage : (memory blade : ℕ) (page : PageView) (wanted : Wanted) (image : PageImageView) (behind : List Msg) → Move
  Refuses : (blade : ℕ) (page : PageView) (write : Bool) → Move
  Enters : (range : RangeView) → Move
  Drops : (range : RangeView) → Move
  GrantsIt : (blade : ℕ) (page : PageView) (write : Bool) (place : ℕ × ℕ) (region : Region) (state : State) → Move
  Begins : (region : Region) (busy : Busy) (message : Msg) → Move
  ReshapesTo : (regions : PageView → Option Region) → Move
  Reads : (memory phys blade : ℕ) (page : PageView) (behind : List Msg) → Move
  Writes : (memory phys : ℕ) (image : PageImageView) (behind : List Msg) → Move

-- no page of the block is held, or none is held to write
abbrev pub HoldsNone : World → ℕ → RangeView → Type 0
HoldsNone w blade range = (page : PageView) → in_range range page ≡ true → w.frames blade page ≡ None

abbrev pub HoldsNoneWritable : World → ℕ → RangeView → Type 0
HoldsNoneWritable w blade range = (page : PageView) → in_range range page ≡ true → is_writable (w.frames blade page) ≡ false

-- the entry of the block names nobody and has no transition
abbrev pub droppable_region : RangeView → Region
droppable_region range = record { range = range; state = I; busy = None }

-- when a move can be made
abbrev pub May : World → Move → Type 0
May w (Asks blade page write) = MayAsk w blade page
May w (Stores blade page frame image) = (w.frames blade page ≡ Some frame) × (frame.writable ≡ true)
May w (GivesUp blade page frame) = w.frames blade page ≡ Some frame
May w (Lowers blade page frame) = w.frames blade page ≡ Some frame
May w (TakesFill blade page perm writable image behind) = w.downs blade ≡ Fill page perm writable image ∷ behind
May w (TakesDeny blade page behind) = w.downs blade ≡ Deny page ∷ behind
May w (AnswersInv blade number range asked count behind) = (w.downs blade ≡ Inv number range asked ∷ behind) × HoldsNone w blade range
May w (AnswersLower blade number range asked count behind) = (w.downs blade ≡ Lower number range asked ∷ behind) × HoldsNoneWritable w blade range
May w (HearsGet blade page write behind) = w.ups blade ≡ Get page write ∷ behind
May w (HearsBack blade page image place behind) = (w.ups blade ≡ Back page image ∷ behind) × (w.places page ≡ Some place)
May w (HearsAck blade number count behind) = w.ups blade ≡ Ack number count ∷ behind
May w (HearsImage memory blade page wanted image behind) =
    (w.froms memory ≡ Image (Some blade) page image ∷ behind) × (w.wants blade page ≡ Some wanted)
May w (Refuses blade page write) =
    (w.wants blade page ≡ Some (record { write = write; fetching = false })) × (allows write (w.perms page) ≡ false)
May w (Enters range) = (page : PageView) → in_range range page ≡ true → w.regions page ≡ None
May w (Drops range) = (page : PageView) → in_range range page ≡ true → w.regions page ≡ Some (droppable_region range)
May w (GrantsIt blade page write place region state) = MayGrant w blade page write place region state
May w (Begins region busy message) = MayBegin w region busy message
May w (ReshapesTo regions) = Reshapes w.regions regions
May w (Reads memory phys blade page behind) = w.tos memory ≡ Read phys (Some blade) page ∷ behind
May w (Writes memory phys image behind) = w.tos memory ≡ Write phys image ∷ behind

-- the rack after it
abbrev pub moved : World → Move → World
moved w (Asks blade page write) = asked blade page write w
moved w (Stores blade page frame image) = stored blade page frame image w
moved w (GivesUp blade page frame) = gave_up blade page frame w
moved w (Lowers blade page frame) = lowered blade page frame w
moved w (TakesFill blade page perm writable image behind) = filled blade page perm writable image behind w
moved w (TakesDeny blade page behind) = was_denied blade page behind w
moved w (AnswersInv blade number range asked count behind) = answers blade number count behind w
moved w (AnswersLower blade number range asked count behind) = answers blade number count behind w
moved w (HearsGet blade page write behind) = arrived blade page write behind w
moved w (HearsBack blade page image place behind) = went_back blade place image behind w
moved w (HearsAck blade number count behind) = acknowledged blade number behind w
moved w (HearsImage memory blade page wanted image behind) = passed_on memory blade page wanted image behind w
moved w (Refuses blade page write) = refused blade page w
moved w (Enters range) = entered range w
moved w (Drops range) = dropped range w
moved w (GrantsIt blade page write place region state) = granted blade page write place region state w
moved w (Begins region busy message) = begun region busy message w
moved w (ReshapesTo regions) = reshaped regions w
moved w (Reads memory phys blade page behind) = read memory phys blade page behind w
moved w (Writes memory phys image behind) = wrote memory phys image behind w
