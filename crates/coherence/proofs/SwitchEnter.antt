-- An entry that is made, and one that is dropped, keep all that is true.
use Rattle.std.proofs.Common.{◌≡◌, refl, ℕ, Bool, true, false, Option, Some, None, IfSome, subst, arith}
use Rattle.std.specs.Prelude.{if◌then◌else◌}
use Rattle.mind_base.specs.Page.{PageView}
use Rattle.mind_base.specs.Range.{RangeView, in_range}
use Rattle.region_directory.specs.declared.entries.Busy.{Busy}
use Rattle.coherence.specs.World.{Region, World, put_range}
use Rattle.coherence.specs.Facts.{IsCoherent, AreBlocks, transition, may, may_hold_writable}
use Rattle.coherence.specs.Moves.{May, moved, Enters, Drops, droppable_region}
use Rattle.coherence.proofs.SwitchEntries.{was-same, widened, blocks_put}

-- what an entry that names nobody and has no transition changes, in place of none
enters_held : (t : Bool) (old : Option Region) (range : RangeView) (b : ℕ) → (t ≡ true → old ≡ None) → may old b ≡ true → may (if t then Some (droppable_region range) else old) b ≡ true
enters_held t old range b none h = grind (arith)

enters_writer : (t : Bool) (old : Option Region) (range : RangeView) (b : ℕ) → (t ≡ true → old ≡ None) → may_hold_writable old b ≡ true → may_hold_writable (if t then Some (droppable_region range) else old) b ≡ true
enters_writer t old range b none h = grind (arith)

enters_transition : (t : Bool) (old : Option Region) (range : RangeView) (number : ℕ) → (t ≡ true → old ≡ None) → transition number (if t then Some (droppable_region range) else old) ≡ transition number old
enters_transition t old range number none = grind (arith)

enters_idle : (t : Bool) (old : Option Region) (range : RangeView) → IfSome old (λ r. r.busy ≡ None) → IfSome (if t then Some (droppable_region range) else old) (λ r. r.busy ≡ None)
enters_idle true old range h = refl
enters_idle false old range h = h

enters_busy : (t : Bool) (old : Option Region) (range : RangeView) (r : Region) (busy : Busy) → (if t then Some (droppable_region range) else old) ≡ Some r → r.busy ≡ Some busy → old ≡ Some r
enters_busy true old range r busy is at = absurd (grind arith)
enters_busy false old range r busy is at = is

pub enters : (w : World) (range : RangeView) → IsCoherent w → May w (Enters range) → IsCoherent (moved w (Enters range))
enters w range safe none = widened w (put_range range (Some (droppable_region range)) w.regions)
    (record {
      held = λ p b. enters_held (in_range range p) (w.regions p) range b (none p);
      writer = λ p b. enters_writer (in_range range p) (w.regions p) range b (none p);
      transition = λ p number. enters_transition (in_range range p) (w.regions p) range number (none p);
      idle = λ p. enters_idle (in_range range p) (w.regions p) range;
      busy = λ p r busy is at. was-same (w.regions p) r (enters_busy (in_range range p) (w.regions p) range r busy is at);
    })
    (blocks_put w range (Some (droppable_region range)) (λ r e. grind arith) (λ p q r is within inside. let here = (safe.blocks p r is).1 q within in absurd (cc (none q inside, here))) safe.blocks)
    safe

-- what no entry changes in place of such a one
drops_held : (t : Bool) (old : Option Region) (range : RangeView) (b : ℕ) → (t ≡ true → old ≡ Some (droppable_region range)) → may old b ≡ true → may (if t then None else old) b ≡ true
drops_held t old range b none h = grind (arith)

drops_writer : (t : Bool) (old : Option Region) (range : RangeView) (b : ℕ) → (t ≡ true → old ≡ Some (droppable_region range)) → may_hold_writable old b ≡ true → may_hold_writable (if t then None else old) b ≡ true
drops_writer t old range b none h = grind (arith)

drops_transition : (t : Bool) (old : Option Region) (range : RangeView) (number : ℕ) → (t ≡ true → old ≡ Some (droppable_region range)) → transition number (if t then None else old) ≡ transition number old
drops_transition t old range number none = grind (arith)

drops_idle : (t : Bool) (old : Option Region) → IfSome old (λ r. r.busy ≡ None) → IfSome (if t then None else old) (λ r. r.busy ≡ None)
drops_idle true old h = tt
drops_idle false old h = h

drops_busy : (t : Bool) (old : Option Region) (r : Region) (busy : Busy) → (if t then None else old) ≡ Some r → r.busy ≡ Some busy → old ≡ Some r
drops_busy true old r busy is at = absurd (cc is)
drops_busy false old r busy is at = is

drops_closed : (w : World) (range : RangeView) → ((p : PageView) → in_range range p ≡ true → w.regions p ≡ Some (droppable_region range)) → AreBlocks w
    → (p q : PageView) (r : Region) → w.regions p ≡ Some r → in_range r.range q ≡ true → in_range range q ≡ true → in_range range p ≡ true
drops_closed w range all blocks p q r is within inside =
    let block = blocks p r is in
    let here = block.1 q within in
    let there = all q inside in
    let same : r ≡ droppable_region range = cc in
    subst (λ x. in_range x.range p ≡ true) same block.0

pub drops : (w : World) (range : RangeView) → IsCoherent w → May w (Drops range) → IsCoherent (moved w (Drops range))
drops w range safe all = widened w (put_range range None w.regions)
    (record {
      held = λ p b. drops_held (in_range range p) (w.regions p) range b (all p);
      writer = λ p b. drops_writer (in_range range p) (w.regions p) range b (all p);
      transition = λ p number. drops_transition (in_range range p) (w.regions p) range number (all p);
      idle = λ p. drops_idle (in_range range p) (w.regions p);
      busy = λ p r busy is at. was-same (w.regions p) r (drops_busy (in_range range p) (w.regions p) r busy is at);
    })
    (blocks_put w range None (λ r e. absurd (cc e)) (drops_closed w range all safe.blocks) safe.blocks)
    safe
