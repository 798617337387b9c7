-- Sets of links: what is in them after one link changed, and the first of them.
use Rattle.std.proofs.Common.{◌≡◌, ℕ, zero, suc, ◌+◌, ◌*◌, ◌%◌, ◌^◌, ◌<◌, ◌≤◌, min, Bool, true, false, ◌||◌, ◌==◌, List, [], ◌∷◌, length, take, get_or, set, replicate, All, refl, sym, ap, ◌∙◌, subst, arith, inl, inr, w64}
use Rattle.std.specs.Prelude.{nat_lt, Some}
use Rattle.std.specs.Int.{bit_at, bit_not, trailing_zeros}
use Rattle.std.specs.Int.RustNames.{bit_or, bit_and}
use Rattle.std.proofs.lemmas.Bool.{cases_lt, cases_eq, lt-ltb, false≢true}
use Rattle.std.proofs.lemmas.List.{get_or-set_same, get_or-set_other, get_or-take, get_or-replicate, get_or_past, get_or_default, set-get_or, length-take, length-replicate}
use Rattle.std.proofs.lemmas.Option.{slice_get-get_or}
use Rattle.std.proofs.lemmas.Nat.Bits.{bit_at-zero, bit_at_set_same, bit_at_set_other, bit_at_clear_same, bit_at_clear_other, bit_at-trailing_zeros}
use Rattle.mind_base.specs.declared.links.Side.{Side}
use Rattle.link_retry.specs.SelectiveRepeat.{SelectiveView, new_selective}
use Rattle.mind_base.specs.declared.links.LinkName.{LinkName}
use Rattle.rack_net.specs.Net.{NetView, IsLinkOf, links_of_kind, link_place}
use Rattle.rack_net.specs.Kept.{IsHeld, IsKeptNet, IsQuietLink, FindsSide, IsFirstBusy, IsFirstKeeping, net_view}
use Rattle.rack_net.specs.LinkSets.{is_in_set, no_links, PutsIn, IsFirstInSet, HasLinksWith, is_busy, is_keeping}
use Rattle.rack_net.specs.declared.sets.LinkSet.{LinkSet}
use Rattle.rack_net.proofs.Naming.{place-below}
use Rattle.rack_net.proofs.Putting.{kept-changed}

-- ---- the bits

unmarked : (place : ℕ) → is_in_set no_links place ≡ false
unmarked place = ap (λ (b : ℕ). b == 1) (bit_at-zero place)

pub none-marked : (marks : LinkSet) → marks.bits ≡ 0 → (place : ℕ) → is_in_set marks place ≡ false
none-marked marks none place = ap (λ (bits : ℕ). bit_at bits place == 1) none ∙ unmarked place

pub marked-in : (marks : LinkSet) (place : ℕ) (is_in : Bool) → is_in ≡ true → place < 64 → PutsIn marks place is_in (record { bits = bit_or marks.bits (1 * 2 ^ place % 2 ^ 64) })
marked-in marks place is_in is within = record {
  this = λ _. ap (λ (b : ℕ). b == 1) (bit_at_set_same w64 marks.bits place within) ∙ sym is;
  others = λ other small apart. ap (λ (b : ℕ). b == 1) (bit_at_set_other w64 marks.bits place within other apart);
}

pub marked-out : (marks : LinkSet) (place : ℕ) (is_in : Bool) → is_in ≡ false → place < 64 → PutsIn marks place is_in (record { bits = bit_and marks.bits (bit_not w64 (1 * 2 ^ place % 2 ^ 64)) })
marked-out marks place is_in is within = record {
  this = λ _. ap (λ (b : ℕ). b == 1) (bit_at_clear_same w64 marks.bits place within) ∙ sym is;
  others = λ other small apart. ap (λ (b : ℕ). b == 1) (bit_at_clear_other w64 marks.bits place within other small apart);
}

pub marked-past : (marks : LinkSet) (place : ℕ) (is_in : Bool) → 64 ≤ place → PutsIn marks place is_in marks
marked-past marks place is_in past = record { this = λ within. absurd (omega arith); others = λ other small apart. refl }

pub first-marked : (marks : LinkSet) → 0 < marks.bits → marks.bits < 2 ^ 64 → IsFirstInSet marks (trailing_zeros w64 marks.bits)
first-marked marks some small =
    let first = bit_at-trailing_zeros w64 marks.bits some small in
    record { within = first.0; marked = ap (λ (b : ℕ). b == 1) first.1; before = λ other less. ap (λ (b : ℕ). b == 1) (first.2 other less) }

-- ---- the links

-- after the link at a place became another
pub marks-changed : (test : SelectiveView → Bool) (links : List SelectiveView) (place : ℕ) (new link : SelectiveView) (old marks : LinkSet) → place < length links → link ≡ get_or (set links place new) place link → HasLinksWith test links old → PutsIn old place (test link) marks → HasLinksWith test (set links place new) marks
marks-changed test links place new link old marks inside there before changed other small = elim (cases_eq other place) [
  | inl same ↦
      subst (λ (p : ℕ). is_in_set marks p ≡ test (get_or (set links place new) p new_selective)) (sym same)
      (changed.this (omega arith)
      ∙ ap test (there ∙ get_or-set_same links place new link inside ∙ sym (get_or-set_same links place new new_selective inside)))
  | inr apart ↦
      changed.others other small apart
      ∙ before other small
      ∙ ap test (sym (get_or-set_other links place other new new_selective apart))
]

each : (n place : ℕ) → get_or (replicate n new_selective) place new_selective ≡ new_selective
each n place = elim (cases_lt place n) [
  | inl within ↦ get_or-replicate n place new_selective new_selective within
  | inr past ↦ get_or_past (replicate n new_selective) place new_selective (omega (arith, length-replicate n new_selective))
]

-- of new links none
pub marks-new : (test : SelectiveView → Bool) (n : ℕ) → test new_selective ≡ false → HasLinksWith test (replicate n new_selective) no_links
marks-new test n none place small = unmarked place ∙ sym (ap test (each n place) ∙ none)

-- where there are none
pub marks-none : (test : SelectiveView → Bool) → test new_selective ≡ false → HasLinksWith test [] no_links
marks-none test none place small = unmarked place ∙ sym none

-- before a place that none before it is in the set
pub all-before : (P : SelectiveView → Type 0) (test : SelectiveView → Bool) (links : List SelectiveView) (marks : LinkSet) (n : ℕ) → ((link : SelectiveView) → test link ≡ false → P link) → n ≤ 64 → HasLinksWith test links marks → ((other : ℕ) → other < n → is_in_set marks other ≡ false) → All P (take n links)
all-before P test links marks n f small marked before k d within =
    let lengths : length (take n links) ≡ min n (length links) = length-take n links in
    let less : k < n = omega (arith, lengths, within) in
    let inside : k < length links = omega (arith, lengths, within) in
    subst P (sym (get_or-take n links k d less ∙ get_or_default links k d new_selective inside))
    (f (get_or links k new_selective) (sym (marked k (omega arith)) ∙ before k less))

-- a place in the set is that of a link
pub marked-inside : (test : SelectiveView → Bool) (links : List SelectiveView) (marks : LinkSet) (place : ℕ) → test new_selective ≡ false → HasLinksWith test links marks → place < 64 → is_in_set marks place ≡ true → place < length links
marked-inside test links marks place none marked small is = elim (cases_lt place (length links)) [
  | inl inside ↦ inside
  | inr past ↦ absurd (false≢true (sym none ∙ ap test (sym (get_or_past links place new_selective past)) ∙ sym (marked place small) ∙ is))
]

-- of the link there the test holds
pub marked-there : (test : SelectiveView → Bool) (links : List SelectiveView) (marks : LinkSet) (place : ℕ) (link : SelectiveView) → place < length links → link ≡ get_or links place link → HasLinksWith test links marks → place < 64 → is_in_set marks place ≡ true → test link ≡ true
marked-there test links marks place link inside there marked small is =
    ap test (there ∙ get_or_default links place link new_selective inside) ∙ sym (marked place small) ∙ is

-- ---- a link with a frame

no-frames : (messages acks : List ℕ) → (nat_lt 0 (length messages) || nat_lt 0 (length acks)) ≡ false → (messages ≡ []) × (acks ≡ [])
no-frames [] [] is = (refl, refl)
no-frames (m ∷ messages) acks is = absurd (false≢true (sym is ∙ ap (λ (b : Bool). b || nat_lt 0 (length acks)) (lt-ltb 0 (length (m ∷ messages)) (omega arith))))
no-frames [] (a ∷ acks) is = absurd (false≢true (sym is ∙ lt-ltb 0 (length (a ∷ acks)) (omega arith)))

pub quiet-not-busy : (link : SelectiveView) → is_busy link ≡ false → IsQuietLink link
quiet-not-busy link is = no-frames link.link.messages link.link.acks is

some-frame : (messages acks : List ℕ) → (nat_lt 0 (length messages) || nat_lt 0 (length acks)) ≡ true → (messages ≡ []) × (acks ≡ []) → ⊥
some-frame messages acks is none =
    false≢true (sym (ap (λ (m : List ℕ). nat_lt 0 (length m) || nat_lt 0 (length acks)) none.0 ∙ ap (λ (a : List ℕ). nat_lt 0 (length a)) none.1) ∙ is)

pub busy-not-quiet : (link : SelectiveView) → is_busy link ≡ true → IsQuietLink link → ⊥
busy-not-quiet link is none = some-frame link.link.messages link.link.acks is none

-- the first of the set is the first with a frame
pub first-busy-marked : (links : List SelectiveView) (marks : LinkSet) (place : ℕ) (link : SelectiveView) (side : Side) → HasLinksWith is_busy links marks → IsFirstInSet marks place → link ≡ get_or links place link → FindsSide link (Some side) → IsFirstBusy links place side
first-busy-marked links marks place link side marked first there busy =
    let inside : place < length links = marked-inside is_busy links marks place refl marked first.within first.marked in
    record {
      link = link;
      here = slice_get-get_or links place link inside ∙ ap Some (sym there);
      busy = busy;
      before = all-before IsQuietLink is_busy links marks place quiet-not-busy (omega (arith, first.within)) marked first.before;
    }

-- ---- a link that keeps messages

pub keeps-none : (link : SelectiveView) → is_keeping link ≡ false → link.link.kept ≡ 0
keeps-none link is = by link.link.kept is where
  by : (kept : ℕ) → nat_lt 0 kept ≡ false → kept ≡ 0
  by zero e = refl
  by (suc n) e = absurd (false≢true (sym e ∙ lt-ltb 0 (suc n) (omega arith)))

keeps-some : (kept : ℕ) → nat_lt 0 kept ≡ true → 0 < kept
keeps-some zero e = absurd (false≢true e)
keeps-some (suc n) e = omega arith

-- the first of the set is the first that keeps messages
pub first-keeping-marked : (links : List SelectiveView) (marks : LinkSet) (place : ℕ) → HasLinksWith is_keeping links marks → IsFirstInSet marks place → IsFirstKeeping links place
first-keeping-marked links marks place marked first =
    let inside : place < length links = marked-inside is_keeping links marks place refl marked first.within first.marked in
    record {
      link = get_or links place new_selective;
      here = slice_get-get_or links place new_selective inside;
      keeps = keeps-some (get_or links place new_selective).link.kept (sym (marked place first.within) ∙ first.marked);
      before = all-before (λ (link : SelectiveView). link.link.kept ≡ 0) is_keeping links marks place keeps-none (omega (arith, first.within)) marked first.before;
    }

-- ---- a net when a link changed and was noted anew

pub net-noted : {old : NetView} {blades memories : ℕ} {links : List SelectiveView} (name : LinkName) {place : ℕ} {new link : SelectiveView} {busy busy' keeping keeping' : LinkSet} → net_view blades memories links ≡ old → IsKeptNet blades memories links busy keeping → IsLinkOf old name → place ≡ link_place blades name → IsHeld new → link ≡ get_or (set links place new) place link → PutsIn busy place (is_busy link) busy' → PutsIn keeping place (is_keeping link) keeping' → IsKeptNet blades memories (set links place new) busy' keeping'
net-noted {old} {blades} {memories} {links} name {place} {new} {link} {busy} {busy'} {keeping} {keeping'} viewed net of_net at held there busy_noted keeping_noted =
    let in_net : name.number < links_of_kind blades memories name.kind = subst (λ (v : NetView). IsLinkOf v name) (sym viewed) of_net in
    let count : length links ≡ 2 * (blades + memories) = net.kept.count in
    let inside : place < length links = omega (arith, place-below blades memories name in_net, at, count) in
    record {
      kept = kept-changed blades memories links place new net.kept held;
      busy_links = marks-changed is_busy links place new link busy busy' inside there net.busy_links busy_noted;
      keeping_links = marks-changed is_keeping links place new link keeping keeping' inside there net.keeping_links keeping_noted;
    }

-- a net whose link was left as it was
pub net-same : {blades memories : ℕ} {links : List SelectiveView} (place : ℕ) {link new : SelectiveView} {busy keeping : LinkSet} → IsKeptNet blades memories links busy keeping → link ≡ get_or links place link → new ≡ link → IsKeptNet blades memories (set links place new) busy keeping
net-same {blades} {memories} {links} place {link} {new} {busy} {keeping} net there same =
    subst (λ (l : List SelectiveView). IsKeptNet blades memories l busy keeping) (sym (ap (set links place) (same ∙ there) ∙ set-get_or links place link)) net
