-- The first link that has a frame, or keeps a message.
use Rattle.std.proofs.Common.{◌≡◌, ℕ, ◌+◌, ◌*◌, ◌<◌, ◌≤◌, List, [], ◌∷◌, ◌++◌, length, take, get_or, All, refl, sym, ap, ◌∙◌, subst, arith, inl, inr}
use Rattle.std.specs.Prelude.{Some, slice_get}
use Rattle.std.proofs.lemmas.Bool.{cases_lt}
use Rattle.std.proofs.lemmas.List.{get_or-take, take_more, take_all, length-take-le}
use Rattle.std.proofs.lemmas.List.Elements.{All-push}
use Rattle.std.proofs.lemmas.Option.{get_or_from_slice_get, slice_get_within}
use Rattle.mind_base.specs.declared.links.LinkName.{LinkName}
use Rattle.mind_base.specs.declared.links.Side.{Side}
use Rattle.mind_base.specs.declared.links.Side.TheVariants.{Messages, Acks}
use Rattle.link_retry.specs.Link.{wire_of}
use Rattle.link_retry.specs.SelectiveRepeat.{SelectiveView, new_selective}
use Rattle.rack_net.specs.Net.{NetLink, IsLinkOf, IsFirstFrame, IsFirstKept, spelled, frames_on, links_of, links_of_kind, link_place, wire_place}
use Rattle.rack_net.specs.Kept.{AreKeptLinks, IsNameAt, IsQuietLink, FindsSide, IsFirstBusy, IsFirstKeeping, link_of, net_view}
use Rattle.rack_net.proofs.Naming.{place-below}
use Rattle.rack_net.proofs.Putting.{at-name, at-other}

-- one more link
pub All-more : (P : SelectiveView → Type 0) (links : List SelectiveView) (place : ℕ) (link : SelectiveView) → place < length links → link ≡ get_or links place link → P link → All P (take place links) → All P (take (place + 1) links)
All-more P links place link inside there p before =
    subst (All P) (sym (take_more links place link inside ∙ ap (λ (l : SelectiveView). take place links ++ l ∷ []) (sym there)))
    (All-push P (take place links) link before p)

-- all links
pub All-each : (P : SelectiveView → Type 0) (links : List SelectiveView) (place : ℕ) → length links ≤ place → All P (take place links) → All P links
All-each P links place past before = subst (All P) (take_all place links past) before

-- a link before a place
earlier : (P : SelectiveView → Type 0) (links : List SelectiveView) (place k : ℕ) → k < place → place < length links → All P (take place links) → P (get_or links k new_selective)
earlier P links place k before inside h =
    subst P (get_or-take place links k new_selective before) (h k new_selective (omega (arith, length-take-le place links)))

-- a name's link, by a fact of links as they are kept
by-place : (P : SelectiveView → Type 0) (Q : NetLink → Type 0) (blades memories : ℕ) (links : List SelectiveView) (name : LinkName) → ((link : SelectiveView) → P link → Q (link_of link)) → length links ≡ 2 * (blades + memories) → name.number < links_of_kind blades memories name.kind → P (get_or links (link_place blades name) new_selective) → Q (links_of (net_view blades memories links) name)
by-place P Q blades memories links name f count in_net p =
    subst Q (sym (at-name blades memories links name new_selective count in_net)) (f (get_or links (link_place blades name) new_selective) p)

-- of every name
everywhere : (P : SelectiveView → Type 0) (Q : NetLink → Type 0) (blades memories : ℕ) (links : List SelectiveView) (name : LinkName) → ((link : SelectiveView) → P link → Q (link_of link)) → P new_selective → length links ≡ 2 * (blades + memories) → All P links → Q (links_of (net_view blades memories links) name)
everywhere P Q blades memories links name f none count h = elim (cases_lt name.number (links_of_kind blades memories name.kind)) [
  | inl here ↦ by-place P Q blades memories links name f count here (h (link_place blades name) new_selective (omega (arith, place-below blades memories name here)))
  | inr out ↦ subst Q (sym (at-other blades memories links name out)) (f new_selective none)
]

quiet : (side : Side) (link : SelectiveView) → IsQuietLink link → wire_of (spelled (link_of link)) side ≡ []
quiet Messages link h = h.0
quiet Acks link h = h.1

busy : (side : Side) (link : SelectiveView) → FindsSide link (Some side) → 0 < length (wire_of (spelled (link_of link)) side)
busy Messages link h = h
busy Acks link h = h.1

-- where no link has a frame, no wire of the net has one
pub no-frame : (blades memories : ℕ) (links : List SelectiveView) → AreKeptLinks blades memories links → All IsQuietLink links → (name : LinkName) (side : Side) → frames_on (net_view blades memories links) name side ≡ []
no-frame blades memories links kept h name side =
    everywhere IsQuietLink (λ (l : NetLink). wire_of (spelled l) side ≡ []) blades memories links name (quiet side) (refl, refl) kept.count h

pub first-frame : (blades memories : ℕ) (links : List SelectiveView) (place : ℕ) (side : Side) (name : LinkName) → AreKeptLinks blades memories links → IsFirstBusy links place side → IsNameAt blades memories place name → IsFirstFrame (net_view blades memories links) name side
first-frame blades memories links place side name kept h at = record { of_net = at.of_net; some = some; first = first } where
  inside : place < length links
  inside = slice_get_within links place h.link h.here

  here : get_or links (link_place blades name) new_selective ≡ h.link
  here = ap (λ (p : ℕ). get_or links p new_selective) at.at ∙ get_or_from_slice_get links place h.link new_selective h.here

  some : 0 < length (frames_on (net_view blades memories links) name side)
  some =
      by-place (λ (l : SelectiveView). FindsSide l (Some side)) (λ (l : NetLink). 0 < length (wire_of (spelled l) side)) blades memories links name (busy side) kept.count at.of_net
      (subst (λ (l : SelectiveView). FindsSide l (Some side)) (sym here) h.busy)

  -- of an earlier link
  sooner : (other : LinkName) (wire : Side) → IsLinkOf (net_view blades memories links) other → link_place blades other < link_place blades name → frames_on (net_view blades memories links) other wire ≡ []
  sooner other wire in_net less =
      by-place IsQuietLink (λ (l : NetLink). wire_of (spelled l) wire ≡ []) blades memories links other (quiet wire) kept.count in_net
      (earlier IsQuietLink links place (link_place blades other) (subst (λ (p : ℕ). link_place blades other < p) at.at less) inside h.before)

  -- of the same link
  same : (other : LinkName) → IsLinkOf (net_view blades memories links) other → link_place blades other ≡ link_place blades name → h.link.link.messages ≡ [] → frames_on (net_view blades memories links) other Messages ≡ []
  same other in_net equal none =
      by-place (λ (l : SelectiveView). l.link.messages ≡ []) (λ (l : NetLink). wire_of (spelled l) Messages ≡ []) blades memories links other (λ l e. e) kept.count in_net
      (subst (λ (l : SelectiveView). l.link.messages ≡ []) (sym (ap (λ (p : ℕ). get_or links p new_selective) equal ∙ here)) none)

  by_sides : (found wire : Side) (other : LinkName) → side ≡ found → IsLinkOf (net_view blades memories links) other → wire_place blades other wire < wire_place blades name found → frames_on (net_view blades memories links) other wire ≡ []
  by_sides Messages Messages other is in_net less = sooner other Messages in_net (omega arith)
  by_sides Messages Acks other is in_net less = sooner other Acks in_net (omega arith)
  by_sides Acks Acks other is in_net less = sooner other Acks in_net (omega arith)
  by_sides Acks Messages other is in_net less = elim (cases_lt (link_place blades other) (link_place blades name)) [
    | inl sooner_place ↦ sooner other Messages in_net sooner_place
    | inr late ↦ same other in_net (omega arith) (subst (λ (s : Side). FindsSide h.link (Some s)) is h.busy).0
  ]

  first : (other : LinkName) (wire : Side) → IsLinkOf (net_view blades memories links) other → wire_place blades other wire < wire_place blades name side → frames_on (net_view blades memories links) other wire ≡ []
  first other wire in_net less = by_sides side wire other refl in_net less

abbrev KeepsNone : SelectiveView → Type 0
KeepsNone link = link.link.kept ≡ 0

pub none-kept : (blades memories : ℕ) (links : List SelectiveView) → AreKeptLinks blades memories links → All (λ (link : SelectiveView). link.link.kept ≡ 0) links → (name : LinkName) → (links_of (net_view blades memories links) name).kept ≡ 0
none-kept blades memories links kept h name =
    everywhere KeepsNone (λ (l : NetLink). l.kept ≡ 0) blades memories links name (λ l e. e) refl kept.count h

pub first-kept : (blades memories : ℕ) (links : List SelectiveView) (place : ℕ) (name : LinkName) → AreKeptLinks blades memories links → IsFirstKeeping links place → IsNameAt blades memories place name → IsFirstKept (net_view blades memories links) name
first-kept blades memories links place name kept h at = record { of_net = at.of_net; some = some; first = first } where
  inside : place < length links
  inside = slice_get_within links place h.link h.here

  here : get_or links (link_place blades name) new_selective ≡ h.link
  here = ap (λ (p : ℕ). get_or links p new_selective) at.at ∙ get_or_from_slice_get links place h.link new_selective h.here

  some : 0 < (links_of (net_view blades memories links) name).kept
  some =
      by-place (λ (l : SelectiveView). 0 < l.link.kept) (λ (l : NetLink). 0 < l.kept) blades memories links name (λ l e. e) kept.count at.of_net
      (subst (λ (l : SelectiveView). 0 < l.link.kept) (sym here) h.keeps)

  first : (other : LinkName) → IsLinkOf (net_view blades memories links) other → link_place blades other < link_place blades name → (links_of (net_view blades memories links) other).kept ≡ 0
  first other in_net less =
      by-place KeepsNone (λ (l : NetLink). l.kept ≡ 0) blades memories links other (λ l e. e) kept.count in_net
      (earlier KeepsNone links place (link_place blades other) (subst (λ (p : ℕ). link_place blades other < p) at.at less) inside h.before)

-- the place that was found is one of the net's
pub found-below : (blades memories : ℕ) (links : List SelectiveView) (place : ℕ) (link : SelectiveView) → AreKeptLinks blades memories links → slice_get links place ≡ Some link → place < 2 * (blades + memories)
found-below blades memories links place link kept here = subst (λ (n : ℕ). place < n) kept.count (slice_get_within links place link here)
