-- Entries that change so that each blade may do what it could, and no transition changes.
use Rattle.std.proofs.Common.{◌≡◌, refl, sym, ℕ, Bool, true, false, List, Option, Some, None, IfSome, subst, ap, ◌∙◌}
use Rattle.std.specs.Prelude.{if◌then◌else◌}
use Rattle.mind_base.specs.Page.{PageView}
use Rattle.mind_base.specs.Range.{RangeView, in_range}
use Rattle.mind_base.specs.declared.commands.Perm.{Perm}
use Rattle.page_cache.specs.declared.frames.Frame.{Frame}
use Rattle.page_image.specs.PageImage.{PageImageView}
use Rattle.region_directory.specs.declared.entries.Busy.{Busy}
use Rattle.wire_msg.specs.declared.msgs.Msg.{Msg}
use Rattle.wire_msg.specs.declared.msgs.Msg.TheVariants.{Fill, Back, Inv, Lower, Ack}
use Rattle.coherence.specs.World.{Region, World, put_range}
use Rattle.coherence.specs.Facts.{IsCoherent, IsFrame, AreFrames, IsUp, AreUps, IsFill, IsDown, AreDowns, AreAnswered, AreCalled, AreFetches, AreNumbered, AreBlocks, AreTargets, AreWritten, IsTarget, WaitsSomewhere, transition, may, may_hold_writable}
use Rattle.coherence.proofs.Changes.{by-test}
use Rattle.coherence.proofs.Queues.{ups-kept, downs-same, none-never}

-- the entry that a page had has the state and the transition of the one that it has
pub record Was (old : Option Region) (now : Region) : Type 0 where
  pub region : Region
  pub entry : old ≡ Some region
  pub state : region.state ≡ now.state
  pub busy : region.busy ≡ now.busy

pub was-same : (old : Option Region) (now : Region) → old ≡ Some now → Was old now
was-same old now is = record { region = now; entry = is; state = refl; busy = refl }

-- who may hold a page, or write it, still may; transitions are as they were, and so is what has one
pub record Widens (old new : PageView → Option Region) : Type 0 where
  pub held : (p : PageView) (b : ℕ) → may (old p) b ≡ true → may (new p) b ≡ true
  pub writer : (p : PageView) (b : ℕ) → may_hold_writable (old p) b ≡ true → may_hold_writable (new p) b ≡ true
  pub transition : (p : PageView) (number : ℕ) → transition number (new p) ≡ transition number (old p)
  pub idle : (p : PageView) → IfSome (old p) (λ r. r.busy ≡ None) → IfSome (new p) (λ r. r.busy ≡ None)
  pub busy : (p : PageView) (r : Region) (busy : Busy) → new p ≡ Some r → r.busy ≡ Some busy → Was (old p) r

abbrev pub with_regions : (PageView → Option Region) → World → World
with_regions new w = record w { regions = new }

-- a frame, and a page that comes, where the entry lets the blade do what it could
pub frame_let : {old new : Option Region} {asked : Option Bool} {flat : PageImageView} {given : Perm} {b : ℕ} {frame : Frame} → (may old b ≡ true → may new b ≡ true)
    → (frame.writable ≡ true → may_hold_writable old b ≡ true → may_hold_writable new b ≡ true) → IsFrame old asked flat given b frame → IsFrame new asked flat given b frame
frame_let held writer h =
    record { held = held h.held; writer = λ t. writer t (h.writer t); alone = h.alone; dirty = h.dirty; newest = h.newest; perm = h.perm; readable = h.readable }

pub fill_let : {old new : Option Region} {flat : PageImageView} {allowed given : Perm} {asked : Option Bool} {b : ℕ} {writable : Bool} {image : PageImageView} → (may old b ≡ true → may new b ≡ true)
    → (may_hold_writable old b ≡ true → may_hold_writable new b ≡ true) → IsFill old flat allowed asked b given writable image → IsFill new flat allowed asked b given writable image
fill_let held writer h =
    record { held = held h.held; writer = λ t. writer (h.writer t); newest = h.newest; perm = h.perm; readable = h.readable; asked = h.asked }

module _ (regions : PageView → Option Region) (last : ℕ) (ups downs : ℕ → List Msg) (w : World) where
  -- the rack with other entries, and other links of blades
  abbrev pub entries_changed : World
  entries_changed = record w { regions = regions; last = last; ups = ups; downs = downs }

  -- what a change of entries has to keep: what it does not touch stays true
  pub entries_moved : IsCoherent w → AreFrames entries_changed → ((b : ℕ) → AreUps entries_changed b (ups b)) → ((b : ℕ) → AreDowns entries_changed b (downs b)) → AreAnswered entries_changed → AreCalled entries_changed
      → AreFetches entries_changed → AreNumbered entries_changed → AreBlocks entries_changed → AreTargets entries_changed → AreWritten entries_changed → IsCoherent entries_changed
  entries_moved safe held up down answered called fetches numbered blocks targets written =
      record { frames = held; ups = up; downs = down; answered = answered; wanted = safe.wanted; fetched = safe.fetched; called = called; fetches = fetches; numbered = numbered; blocks = blocks; targets = targets; tos = safe.tos; written = written; froms = safe.froms; placed = record { apart = safe.placed.apart; placed = safe.placed.placed } }

waits_on : (w : World) (new : PageView → Option Region) → Widens w.regions new → (number blade : ℕ) → WaitsSomewhere w.regions number blade → WaitsSomewhere new number blade
waits_on w new widens number blade (p, busy, is, waits) = (p, busy, widens.transition p number ∙ is, waits)

ups_widened : (w : World) (new : PageView → Option Region) → Widens w.regions new → (n : ℕ) (m : Msg) (later : List Msg) → IsUp w n m later → IsUp (with_regions new w) n m later
ups_widened w new widens n (Back p image) later up =
    record { writer = widens.writer p n up.writer; newest = up.newest; placed = up.placed; lowered = up.lowered; unfilled = up.unfilled; unwanted = up.unwanted }
ups_widened w new widens n (Ack number count) later up =
    (waits_on w new widens number n up.0, λ p busy is. up.1 p busy (sym (widens.transition p number) ∙ is))
ups_widened w new widens n m later up = up

downs_widened : (w : World) (new : PageView → Option Region) → Widens w.regions new → (n : ℕ) (m : Msg) (later : List Msg) → IsDown w n m later → IsDown (with_regions new w) n m later
downs_widened w new widens n (Fill p perm writable image) later down = fill_let (widens.held p n) (widens.writer p n) down
downs_widened w new widens n (Inv number range asked) later down =
    (waits_on w new widens number n down.0, λ p busy is. let call = down.1 p busy (sym (widens.transition p number) ∙ is) in record { block = call.block; fill = call.fill })
downs_widened w new widens n (Lower number range asked) later down =
    (waits_on w new widens number n down.0, λ p busy is. let call = down.1 p busy (sym (widens.transition p number) ∙ is) in (record { block = call.0.block; fill = call.0.fill }, call.1))
downs_widened w new widens n m later down = down

pub widened : (w : World) (new : PageView → Option Region) → Widens w.regions new → AreBlocks (with_regions new w) → IsCoherent w → IsCoherent (with_regions new w)
widened w new widens blocks safe = let after = with_regions new w in entries_moved new w.last w.ups w.downs w safe
    (λ b p frame is. frame_let (widens.held p b) (λ _. widens.writer p b) (safe.frames b p frame is))
    (λ b. ups-kept w after b (λ m. false) (λ m later e. ups_widened w new widens b m later) (w.ups b) (none-never (w.ups b)) (safe.ups b))
    (λ b. downs-same w after b (λ m. false) (λ m later e. downs_widened w new widens b m later) (w.downs b) (none-never (w.downs b)) (safe.downs b))
    safe.answered (λ b number p busy is. safe.called b number p busy (sym (widens.transition p number) ∙ is))
    (λ b p v is fetching. let f = safe.fetches b p v is fetching in record { held = widens.held p b f.held; writer = λ t. widens.writer p b (f.writer t); idle = widens.idle p f.idle; allowed = f.allowed })
    (λ p r busy is at. let was = widens.busy p r busy is at in safe.numbered p was.region busy was.entry (was.busy ∙ at))
    blocks
    (λ p r busy is at. let was = widens.busy p r busy is at in subst (λ state. IsTarget state busy) was.state (safe.targets p was.region busy was.entry (was.busy ∙ at)))
    safe.written

-- ---- one entry changes

-- the entries are blocks still, where all pages of the block had what none outside had
pub blocks_put : (w : World) (range : RangeView) (entry : Option Region) → ((r : Region) → entry ≡ Some r → r.range ≡ range)
    → ((p q : PageView) (r : Region) → w.regions p ≡ Some r → in_range r.range q ≡ true → in_range range q ≡ true → in_range range p ≡ true)
    → AreBlocks w → AreBlocks (with_regions (put_range range entry w.regions) w)
blocks_put w range entry ranged closed blocks p r is =
    by-test (λ t. in_range range p ≡ t → (if t then entry else w.regions p) ≡ Some r
    → (in_range r.range p ≡ true) × ((other : PageView) → in_range r.range other ≡ true → put_range range entry w.regions other ≡ Some r)) (in_range range p)
    (λ _ inside e. let same = ranged r e in (
      subst (λ x. in_range x p ≡ true) (sym same) inside,
      λ other within. let t : in_range range other ≡ true = subst (λ x. in_range x other ≡ true) same within in
          ap (λ b. if b then entry else w.regions other) t ∙ e,
    ))
    (λ _ outside e. let block = blocks p r e in (
      block.0,
      λ other within. by-test (λ b. in_range range other ≡ b → (if b then entry else w.regions other) ≡ Some r) (in_range range other)
          (λ _ t. absurd (cc (closed p other r e within t, outside))) (λ _ _. block.1 other within) refl,
    ))
    refl is
