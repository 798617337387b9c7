-- Entries that are split or merged keep all that is true.
use Rattle.std.proofs.Common.{◌≡◌, refl, sym, ℕ, zero, suc, ◌+◌, ◌-◌, ◌^◌, ◌==◌, true, false, ◌&&◌, ◌||◌, Option, Some, None, IfSome, subst, ap, arith, ◌∙◌}
use Rattle.std.specs.Prelude.{if◌then◌else◌}
use Rattle.std.proofs.Math.Bool.{or-true}
use Rattle.std.proofs.lemmas.Bool.{and_parts, and_from, false≢true}
use Rattle.std.proofs.lemmas.Option.{same_Some}
use Rattle.std.proofs.lemmas.Bool.Decides.{nat_tests}
use Rattle.mind_base.specs.Page.{PageView}
use Rattle.mind_base.specs.Range.{RangeView, in_range, halves_of}
use Rattle.mind_base.specs.declared.notes.State.{State}
use Rattle.region_directory.specs.declared.entries.Busy.{Busy}
use Rattle.coherence.specs.World.{Region, World}
use Rattle.coherence.specs.Facts.{IsCoherent, AreBlocks, AreBlocksOf, names, owns, stays, has_not_answered, numbered, transition, may, may_hold_writable}
use Rattle.coherence.specs.Moves.{May, moved, ReshapesTo, Reshapes, KeepsEntry, KeepsState, with_range, split_into, merged_into, MayMerge}
use Rattle.coherence.proofs.Changes.{by-test}
use Rattle.coherence.proofs.SwitchEntries.{Was, widened, blocks_put}

-- ---- what a page's entry lets blades do

-- who may hold the page, or write it, still may
held-kept : (busy : Option Busy) (was now : State) → KeepsState busy was now → (b : ℕ) → (names was b && stays busy b) ≡ true → (names now b && stays busy b) ≡ true
held-kept (Some busy) was now kept b h = subst (λ s. (names s b && stays (Some busy) b) ≡ true) (sym kept) h
held-kept None was now kept b h = let parts = and_parts (names was b) true h in and_from (names now b) true ((kept b).0 parts.0) refl

writer-kept : (busy : Option Busy) (was now : State) → KeepsState busy was now → (b : ℕ) → (owns was b && has_not_answered busy b) ≡ true → (owns now b && has_not_answered busy b) ≡ true
writer-kept (Some busy) was now kept b h = subst (λ s. (owns s b && has_not_answered (Some busy) b) ≡ true) (sym kept) h
writer-kept None was now kept b h = let parts = and_parts (owns was b) true h in and_from (owns now b) true ((kept b).1 parts.0) refl

may-kept : (old new : Option Region) → KeepsEntry old new → (b : ℕ) → may old b ≡ true → may new b ≡ true
may-kept None None kept b h = h
may-kept None (Some now) kept b h = absurd kept
may-kept (Some was) None kept b h = absurd kept
may-kept (Some was) (Some now) kept b h = subst (λ busy. (names now.state b && stays busy b) ≡ true) (sym kept.0) (held-kept was.busy was.state now.state kept.1 b h)

may_write-kept : (old new : Option Region) → KeepsEntry old new → (b : ℕ) → may_hold_writable old b ≡ true → may_hold_writable new b ≡ true
may_write-kept None None kept b h = h
may_write-kept None (Some now) kept b h = absurd kept
may_write-kept (Some was) None kept b h = absurd kept
may_write-kept (Some was) (Some now) kept b h = subst (λ busy. (owns now.state b && has_not_answered busy b) ≡ true) (sym kept.0) (writer-kept was.busy was.state now.state kept.1 b h)

transition-kept : (old new : Option Region) → KeepsEntry old new → (number : ℕ) → transition number new ≡ transition number old
transition-kept None None kept number = refl
transition-kept None (Some now) kept number = absurd kept
transition-kept (Some was) None kept number = absurd kept
transition-kept (Some was) (Some now) kept number = ap (numbered number) kept.0

idle-kept : (old new : Option Region) → KeepsEntry old new → IfSome old (λ r. r.busy ≡ None) → IfSome new (λ r. r.busy ≡ None)
idle-kept None None kept idle = idle
idle-kept None (Some now) kept idle = absurd kept
idle-kept (Some was) None kept idle = absurd kept
idle-kept (Some was) (Some now) kept idle = kept.0 ∙ idle

state-kept : (under : Option Busy) (busy : Busy) (was now : State) → KeepsState under was now → under ≡ Some busy → was ≡ now
state-kept (Some other) busy was now kept at = sym kept
state-kept None busy was now kept at = absurd (cc at)

busy-kept : (old : Option Region) (now : Region) (busy : Busy) → KeepsEntry old (Some now) → now.busy ≡ Some busy → Was old now
busy-kept None now busy kept at = absurd kept
busy-kept (Some was) now busy kept at =
    record { region = was; entry = refl; state = state-kept was.busy busy was.state now.state kept.1 (sym kept.0 ∙ at); busy = sym kept.0 }

pub reshapes : (w : World) (regions : PageView → Option Region) → IsCoherent w → May w (ReshapesTo regions) → IsCoherent (moved w (ReshapesTo regions))
reshapes w regions safe can = widened w regions
    (record {
      held = λ p b. may-kept (w.regions p) (regions p) (can.pages p) b;
      writer = λ p b. may_write-kept (w.regions p) (regions p) (can.pages p) b;
      transition = λ p number. transition-kept (w.regions p) (regions p) (can.pages p) number;
      idle = λ p. idle-kept (w.regions p) (regions p) (can.pages p);
      busy = λ p r busy is at. busy-kept (w.regions p) r busy (subst (KeepsEntry (w.regions p)) is (can.pages p)) at;
    })
    can.blocks safe

-- ---- splits and merges are such changes

-- an entry keeps itself
keeps-state : (busy : Option Busy) (state : State) → KeepsState busy state state
keeps-state (Some busy) state = refl
keeps-state None state = λ b. (λ h. h, λ h. h)

keeps-entry : (entry : Option Region) → KeepsEntry entry entry
keeps-entry None = tt
keeps-entry (Some region) = (refl, keeps-state region.busy region.state)

-- a page of a block is one of its lower half, or of its upper half, and of one alone
double : (n : ℕ) → 2 ^ suc n ≡ 2 ^ n + 2 ^ n
double n = omega arith

-- the halves of a block of 2 ^ suc log pages
in-halves : (domain base log : ℕ) (p : PageView)
    → in_range (record { domain = domain; base = base; log = suc log }) p
    ≡ (in_range (record { domain = domain; base = base; log = log }) p || in_range (record { domain = domain; base = base + 2 ^ log; log = log }) p)
in-halves domain base log p = let twice = double log in grind (arith, nat_tests, twice)

apart-halves : (domain base log : ℕ) (p : PageView) → in_range (record { domain = domain; base = base; log = log }) p ≡ true
    → in_range (record { domain = domain; base = base + 2 ^ log; log = log }) p ≡ true → ⊥
apart-halves domain base log p low high = absurd (grind (arith, nat_tests))

-- the pages of a block are those of its two halves, which have none in common
record AreHalves (range lower upper : RangeView) : Type 0 where
  pages : (p : PageView) → in_range range p ≡ (in_range lower p || in_range upper p)
  apart : (p : PageView) → in_range lower p ≡ true → in_range upper p ≡ true → ⊥

halves : (range lower upper : RangeView) → halves_of range ≡ Some (lower, upper) → AreHalves range lower upper
halves range lower upper e = by range.log refl where
  low : ℕ → RangeView
  low log = record { domain = range.domain; base = range.base; log = log }

  high : ℕ → RangeView
  high log = record { domain = range.domain; base = range.base + 2 ^ log; log = log }

  by : (log : ℕ) → range.log ≡ log → AreHalves range lower upper
  by zero is = absurd (grind arith)
  by (suc log) is =
      let less : range.log - 1 ≡ log = omega arith in
      let some : (range.log == 0) ≡ false = grind (arith, nat_tests) in
      let both : (low (range.log - 1), high (range.log - 1)) ≡ (lower, upper) = same_Some _ _ (sym (ap (λ b. if b then None else Some (low (range.log - 1), high (range.log - 1))) some) ∙ e) in
      let is_low : low log ≡ lower = ap low (sym less) ∙ ap (λ x. x.0) both in
      let is_high : high log ≡ upper = ap high (sym less) ∙ ap (λ x. x.1) both in
      let whole : range ≡ low (suc log) = λ i. record range { log = is i } in
      record {
        pages = λ p. ap (λ r. in_range r p) whole ∙ in-halves range.domain range.base log p ∙ (λ i. in_range (is_low i) p || in_range (is_high i) p);
        apart = λ p l h. apart-halves range.domain range.base log p (ap (λ r. in_range r p) is_low ∙ l) (ap (λ r. in_range r p) is_high ∙ h);
      }

in-lower : (range lower upper : RangeView) → AreHalves range lower upper → (p : PageView) → in_range lower p ≡ true → in_range range p ≡ true
in-lower range lower upper h p e = h.pages p ∙ ap (λ b. b || in_range upper p) e

in-upper : (range lower upper : RangeView) → AreHalves range lower upper → (p : PageView) → in_range upper p ≡ true → in_range range p ≡ true
in-upper range lower upper h p e = h.pages p ∙ ap (λ b. in_range lower p || b) e ∙ or-true (in_range lower p)

outside-both : (range lower upper : RangeView) → AreHalves range lower upper → (p : PageView) → in_range lower p ≡ false → in_range upper p ≡ false → in_range range p ≡ false
outside-both range lower upper h p l u = h.pages p ∙ (λ i. l i || u i)

-- a half of a block of an entry has what the entry has, in place of it
splits-page : (regions : PageView → Option Region) (region : Region) (lower upper : RangeView) → AreHalves region.range lower upper
    → ((p : PageView) → in_range region.range p ≡ true → regions p ≡ Some region) → (p : PageView) → KeepsEntry (regions p) (split_into lower upper region regions p)
splits-page regions region lower upper h all p =
    by-test (λ t. in_range lower p ≡ t → KeepsEntry (regions p) (if t then Some (with_range lower region) else (if in_range upper p then Some (with_range upper region) else regions p))) (in_range lower p)
    (λ _ l. kept lower (all p (in-lower region.range lower upper h p l)))
    (λ _ _. by-test (λ t. in_range upper p ≡ t → KeepsEntry (regions p) (if t then Some (with_range upper region) else regions p)) (in_range upper p)
    (λ _ u. kept upper (all p (in-upper region.range lower upper h p u)))
    (λ _ _. keeps-entry (regions p)) refl) refl
  where
    kept : (half : RangeView) → regions p ≡ Some region → KeepsEntry (regions p) (Some (with_range half region))
    kept half is = subst (λ o. KeepsEntry o (Some (with_range half region))) (sym is) (refl, keeps-state region.busy region.state)

splits-blocks : (regions : PageView → Option Region) (region : Region) (lower upper : RangeView) → AreHalves region.range lower upper
    → ((p : PageView) → in_range region.range p ≡ true → regions p ≡ Some region) → AreBlocksOf regions → AreBlocksOf (split_into lower upper region regions)
splits-blocks regions region lower upper h all blocks p r is =
    by-test (λ t. in_range lower p ≡ t → (if t then Some (with_range lower region) else (if in_range upper p then Some (with_range upper region) else regions p)) ≡ Some r → Block r) (in_range lower p)
    (λ _ l e. subst Block (same_Some _ _ e) (l, λ other within. ap (λ b. if b then Some (with_range lower region) else (if in_range upper other then Some (with_range upper region) else regions other)) within))
    (λ _ l. by-test (λ t. in_range upper p ≡ t → (if t then Some (with_range upper region) else regions p) ≡ Some r → Block r) (in_range upper p)
    (λ _ u e. subst Block (same_Some _ _ e) (u, λ other within. high other within))
    (λ _ u e. old l u e) refl) refl is
  where
    Block : Region → Type 0
    Block r = (in_range r.range p ≡ true) × ((other : PageView) → in_range r.range other ≡ true → split_into lower upper region regions other ≡ Some r)

    high : (other : PageView) → in_range upper other ≡ true → split_into lower upper region regions other ≡ Some (with_range upper region)
    high other within = by-test (λ t. in_range lower other ≡ t → (if t then Some (with_range lower region) else (if in_range upper other then Some (with_range upper region) else regions other)) ≡ Some (with_range upper region)) (in_range lower other)
        (λ _ l. absurd (h.apart other l within))
        (λ _ _. ap (λ b. if b then Some (with_range upper region) else regions other) within) refl

    old : in_range lower p ≡ false → in_range upper p ≡ false → regions p ≡ Some r → Block r
    old l u e =
        let block = blocks p r e in
        let out = outside-both region.range lower upper h p l u in
        let never : (other : PageView) → in_range r.range other ≡ true → in_range region.range other ≡ true → ⊥ = λ other within inside.
        let same : r ≡ region = same_Some _ _ (sym (block.1 other within) ∙ all other inside) in
        false≢true (sym out ∙ ap (λ x. in_range x.range p) (sym same) ∙ block.0) in (
          block.0,
          λ other within.
              by-test (λ t. in_range lower other ≡ t → (if t then Some (with_range lower region) else (if in_range upper other then Some (with_range upper region) else regions other)) ≡ Some r) (in_range lower other)
              (λ _ low. absurd (never other within (in-lower region.range lower upper h other low)))
              (λ _ _. by-test (λ t. in_range upper other ≡ t → (if t then Some (with_range upper region) else regions other) ≡ Some r) (in_range upper other)
              (λ _ up. absurd (never other within (in-upper region.range lower upper h other up)))
              (λ _ _. block.1 other within) refl) refl,
        )

-- an entry that is split, whether a transition of it is under way or not
pub splits : (w : World) (page : PageView) (region : Region) (lower upper : RangeView) → IsCoherent w → w.regions page ≡ Some region → halves_of region.range ≡ Some (lower, upper)
    → Reshapes w.regions (split_into lower upper region w.regions)
splits w page region lower upper safe is e =
    let h = halves region.range lower upper e in
    let all = (safe.blocks page region is).1 in
    record { pages = splits-page w.regions region lower upper h all; blocks = splits-blocks w.regions region lower upper h all safe.blocks }

-- two entries that are merged
merges-page : (w : World) (range : RangeView) (lower upper : Region) (state : State) → AreHalves range lower.range upper.range → MayMerge w lower upper state
    → (p : PageView) → KeepsEntry (w.regions p) (merged_into range state w.regions p)
merges-page w range lower upper state h can p =
    by-test (λ t. in_range range p ≡ t → KeepsEntry (w.regions p) (if t then Some (record { range = range; state = state; busy = None }) else w.regions p)) (in_range range p)
    (λ _ inside. by-test (λ t. in_range lower.range p ≡ t → KeepsEntry (w.regions p) (Some (record { range = range; state = state; busy = None }))) (in_range lower.range p)
    (λ _ l. kept lower (can.lower_entry p l) can.lower_idle can.lower_kept)
    (λ _ l. kept upper (can.upper_entry p (sym (ap (λ b. b || in_range upper.range p) l) ∙ sym (h.pages p) ∙ inside)) can.upper_idle can.upper_kept) refl)
    (λ _ _. keeps-entry (w.regions p)) refl
  where
    kept : (half : Region) → w.regions p ≡ Some half → half.busy ≡ None → KeepsState None half.state state → KeepsEntry (w.regions p) (Some (record { range = range; state = state; busy = None }))
    kept half is idle keeps = subst (λ o. KeepsEntry o (Some (record { range = range; state = state; busy = None }))) (sym is)
        (sym idle, subst (λ busy. KeepsState busy half.state state) (sym idle) keeps)

merges-closed : (w : World) (range : RangeView) (lower upper : Region) (state : State) → AreHalves range lower.range upper.range → MayMerge w lower upper state → AreBlocks w
    → (p q : PageView) (r : Region) → w.regions p ≡ Some r → in_range r.range q ≡ true → in_range range q ≡ true → in_range range p ≡ true
merges-closed w range lower upper state h can blocks p q r is within inside =
    let block = blocks p r is in
    by-test (λ t. in_range lower.range q ≡ t → in_range range p ≡ true) (in_range lower.range q)
    (λ _ l. let same : r ≡ lower = same_Some _ _ (sym (block.1 q within) ∙ can.lower_entry q l) in
    in-lower range lower.range upper.range h p (ap (λ x. in_range x.range p) (sym same) ∙ block.0))
    (λ _ l. let same : r ≡ upper = same_Some _ _ (sym (block.1 q within) ∙ can.upper_entry q (sym (ap (λ b. b || in_range upper.range q) l) ∙ sym (h.pages q) ∙ inside)) in
    in-upper range lower.range upper.range h p (ap (λ x. in_range x.range p) (sym same) ∙ block.0)) refl

pub merges : (w : World) (range : RangeView) (lower upper : Region) (state : State) → IsCoherent w → halves_of range ≡ Some (lower.range, upper.range) → MayMerge w lower upper state
    → Reshapes w.regions (merged_into range state w.regions)
merges w range lower upper state safe e can =
    let h = halves range lower.range upper.range e in
    record {
      pages = merges-page w range lower upper state h can;
      blocks = blocks_put w range (Some (record { range = range; state = state; busy = None })) (λ r e. grind arith) (merges-closed w range lower upper state h can safe.blocks) safe.blocks;
    }
