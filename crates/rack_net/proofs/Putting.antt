-- The links of a net by their names, before and after one of them changed.
use Rattle.std.proofs.Common.{◌≡◌, ℕ, ◌+◌, ◌*◌, ◌<◌, ◌≤◌, Bool, cond, List, length, map, get_or, set, replicate, All, refl, sym, ap, ◌∙◌, subst, arith, inl, inr}
use Rattle.std.proofs.Math.Path.{fun_ext}
use Rattle.std.proofs.lemmas.Bool.{lt-ltb, le-ltb, cases_lt}
use Rattle.std.proofs.lemmas.List.{get_or-map, get_or-set_same, get_or-set_other, length-set, length-replicate, get_or-replicate}
use Rattle.std.proofs.lemmas.List.Elements.{All-set, All-nil, All-replicate}
use Rattle.mind_base.specs.declared.links.LinkName.{LinkName}
use Rattle.link_retry.specs.Link.{IsLink, new_link}
use Rattle.link_retry.specs.SelectiveRepeat.{SelectiveView, new_selective}
use Rattle.wire_msg.specs.WellFormed.{IsWellFormed}
use Rattle.rack_net.specs.Net.{NetLink, NetView, IsLinkOf, IsNet, ChangesOnly, spelled, empty_link, links_of, links_of_kind, link_place, put_link}
use Rattle.rack_net.specs.Kept.{IsSpelled, IsHeld, AreKeptLinks, link_of, net_view}
use Rattle.rack_net.proofs.Naming.{place-below, one_name, same-or-not}
use Rattle.rack_net.proofs.Texts.{all-formed, spelled-link_of}

-- a name of the net gives the link at its place
pub at-name : (blades memories : ℕ) (links : List SelectiveView) (name : LinkName) (d : SelectiveView) → length links ≡ 2 * (blades + memories) → name.number < links_of_kind blades memories name.kind → links_of (net_view blades memories links) name ≡ link_of (get_or links (link_place blades name) d)
at-name blades memories links name d count in_net =
    let there : link_place blades name < length links = omega (arith, place-below blades memories name in_net) in
    ap (λ (b : Bool). cond b (get_or (map link_of links) (link_place blades name) empty_link) empty_link) (lt-ltb name.number (links_of_kind blades memories name.kind) in_net)
    ∙ get_or-map link_of links (link_place blades name) d empty_link there

-- any other name gives an empty one
pub at-other : (blades memories : ℕ) (links : List SelectiveView) (name : LinkName) → links_of_kind blades memories name.kind ≤ name.number → links_of (net_view blades memories links) name ≡ empty_link
at-other blades memories links name out =
    ap (λ (b : Bool). cond b (get_or (map link_of links) (link_place blades name) empty_link) empty_link) (le-ltb name.number (links_of_kind blades memories name.kind) out)

-- one link of a net changed to this one
pub changed-at : (blades memories : ℕ) (links : List SelectiveView) (name : LinkName) (new : SelectiveView) → length links ≡ 2 * (blades + memories) → name.number < links_of_kind blades memories name.kind → links_of (net_view blades memories (set links (link_place blades name) new)) name ≡ link_of new
changed-at blades memories links name new count in_net =
    let there : link_place blades name < length links = omega (arith, place-below blades memories name in_net) in
    at-name blades memories (set links (link_place blades name) new) name new (length-set links (link_place blades name) new ∙ count) in_net
    ∙ ap link_of (get_or-set_same links (link_place blades name) new new there)

-- the others are as they were
stays : (blades memories : ℕ) (links : List SelectiveView) (name other : LinkName) (new : SelectiveView) → length links ≡ 2 * (blades + memories) → name.number < links_of_kind blades memories name.kind → (name ≡ other → ⊥) → links_of (net_view blades memories (set links (link_place blades name) new)) other ≡ links_of (net_view blades memories links) other
stays blades memories links name other new count in_net apart = elim (cases_lt other.number (links_of_kind blades memories other.kind)) [
  | inl here ↦
      at-name blades memories (set links (link_place blades name) new) other new (length-set links (link_place blades name) new ∙ count) here
      ∙ ap link_of (get_or-set_other links (link_place blades name) (link_place blades other) new new (λ e. apart (one_name blades memories name other in_net here (sym e))))
      ∙ sym (at-name blades memories links other new count here)
  | inr out ↦ at-other blades memories (set links (link_place blades name) new) other out ∙ sym (at-other blades memories links other out)
]

pub changes-only : (blades memories : ℕ) (links : List SelectiveView) (name : LinkName) (new : SelectiveView) → length links ≡ 2 * (blades + memories) → name.number < links_of_kind blades memories name.kind → ChangesOnly name (net_view blades memories links) (net_view blades memories (set links (link_place blades name) new))
changes-only blades memories links name new count in_net = record { others = fun_ext each; blades = refl; memories = refl } where
  after : NetView
  after = net_view blades memories (set links (link_place blades name) new)

  each : (other : LinkName) → links_of after other ≡ put_link name (links_of after name) (links_of (net_view blades memories links)) other
  each other = elim (same-or-not name other) [
    | inl same ↦
        ap (links_of after) (sym same.1)
        ∙ sym (ap (λ (b : Bool). cond b (links_of after name) (links_of (net_view blades memories links) other)) same.0)
    | inr apart ↦
        stays blades memories links name other new count in_net apart.1
        ∙ sym (ap (λ (b : Bool). cond b (links_of after name) (links_of (net_view blades memories links) other)) apart.0)
  ]

sound-empty : IsLink new_link
sound-empty = record {
  pending = omega arith;
  kept = omega arith;
  next = omega arith;
  message_numbers = All-nil (λ number. number < 0);
  ack_numbers = All-nil (λ number. number ≤ 0);
  messages = omega arith;
  acks = omega arith;
}

-- a net that is kept is one
pub is-net : (blades memories : ℕ) (links : List SelectiveView) → AreKeptLinks blades memories links → IsNet (net_view blades memories links)
is-net blades memories links kept = record { formed = formed; sound = sound } where
  held : (name : LinkName) → name.number < links_of_kind blades memories name.kind → IsHeld (get_or links (link_place blades name) new_selective)
  held name in_net =
      let count : length links ≡ 2 * (blades + memories) = kept.count in
      kept.held (link_place blades name) new_selective (omega (arith, place-below blades memories name in_net))

  formed : (name : LinkName) → All IsWellFormed (links_of (net_view blades memories links) name).pending
  formed name = elim (cases_lt name.number (links_of_kind blades memories name.kind)) [
    | inl here ↦
        subst (λ (l : NetLink). All IsWellFormed l.pending) (sym (at-name blades memories links name new_selective kept.count here))
        (all-formed (get_or links (link_place blades name) new_selective).link.pending (held name here).spelled)
    | inr out ↦ subst (λ (l : NetLink). All IsWellFormed l.pending) (sym (at-other blades memories links name out)) (All-nil IsWellFormed)
  ]

  sound : (name : LinkName) → IsLink (spelled (links_of (net_view blades memories links) name))
  sound name = elim (cases_lt name.number (links_of_kind blades memories name.kind)) [
    | inl here ↦
        subst (λ (l : NetLink). IsLink (spelled l)) (sym (at-name blades memories links name new_selective kept.count here))
        (subst IsLink (sym (spelled-link_of (get_or links (link_place blades name) new_selective) (held name here).spelled)) (held name here).sound)
    | inr out ↦ subst (λ (l : NetLink). IsLink (spelled l)) (sym (at-other blades memories links name out)) sound-empty
  ]

pub kept-changed : (blades memories : ℕ) (links : List SelectiveView) (place : ℕ) (new : SelectiveView) → AreKeptLinks blades memories links → IsHeld new → AreKeptLinks blades memories (set links place new)
kept-changed blades memories links place new kept held = record {
  count = length-set links place new ∙ kept.count;
  held = All-set IsHeld links place new held kept.held;
}

-- a net before and after a call on one link, which was the first of these and is the second
pub record Updates (old new : NetView) (name : LinkName) (link link' : SelectiveView) : Type 0 where
  pub was : links_of old name ≡ link_of link
  pub now : links_of new name ≡ link_of link'
  pub only : ChangesOnly name old new
  pub net : IsNet new

pub updates : {old : NetView} {blades memories : ℕ} {links : List SelectiveView} {name : LinkName} {place : ℕ} {link new : SelectiveView} → net_view blades memories links ≡ old → AreKeptLinks blades memories links → IsLinkOf old name → place ≡ link_place blades name → link ≡ get_or links place link → IsHeld new → Updates old (net_view blades memories (set links place new)) name link new
updates {old} {blades} {memories} {links} {name} {place} {link} {new} viewed kept of_net at there held =
    subst (λ (v : NetView). Updates v (net_view blades memories (set links place new)) name link new) viewed
    (subst (λ (p : ℕ). Updates (net_view blades memories links) (net_view blades memories (set links p new)) name link new) (sym at) here) where
      in_net : name.number < links_of_kind blades memories name.kind
      in_net = subst (λ (v : NetView). IsLinkOf v name) (sym viewed) of_net

      here : Updates (net_view blades memories links) (net_view blades memories (set links (link_place blades name) new)) name link new
      here = record {
        was = at-name blades memories links name link kept.count in_net ∙ ap link_of (sym (subst (λ (p : ℕ). link ≡ get_or links p link) at there));
        now = changed-at blades memories links name new kept.count in_net;
        only = changes-only blades memories links name new kept.count in_net;
        net = is-net blades memories (set links (link_place blades name) new) (kept-changed blades memories links (link_place blades name) new kept held);
      }

-- what holds of the link before and after holds of it by its name
pub by-name : (old new : NetView) (name : LinkName) (link link' : SelectiveView) (P : NetLink → NetLink → Type 0) → Updates old new name link link' → P (link_of link) (link_of link') → P (links_of old name) (links_of new name)
by-name old new name link link' P u p =
    subst (λ (l : NetLink). P l (links_of new name)) (sym u.was) (subst (λ (l : NetLink). P (link_of link) l) (sym u.now) p)

-- the link of a name of the net is held
pub held-at : (old : NetView) (blades memories : ℕ) (links : List SelectiveView) (name : LinkName) (place : ℕ) (link : SelectiveView) → net_view blades memories links ≡ old → AreKeptLinks blades memories links → IsLinkOf old name → place ≡ link_place blades name → link ≡ get_or links place link → IsHeld link
held-at old blades memories links name place link viewed kept of_net at there =
    let in_net : name.number < links_of_kind blades memories name.kind = subst (λ (v : NetView). IsLinkOf v name) (sym viewed) of_net in
    let count : length links ≡ 2 * (blades + memories) = kept.count in
    subst IsHeld (sym there) (kept.held place link (omega (arith, place-below blades memories name in_net)))

held-new : IsHeld new_selective
held-new = record { sound = sound-empty; spelled = All-nil IsSpelled }

-- new links
pub kept-new : (blades memories : ℕ) → AreKeptLinks blades memories (replicate (2 * (blades + memories)) new_selective)
kept-new blades memories = record {
  count = length-replicate (2 * (blades + memories)) new_selective;
  held = All-replicate IsHeld (2 * (blades + memories)) new_selective held-new;
}

pub all-empty : (blades memories : ℕ) → links_of (net_view blades memories (replicate (2 * (blades + memories)) new_selective)) ≡ (λ _. empty_link)
all-empty blades memories = fun_ext each where
  each : (name : LinkName) → links_of (net_view blades memories (replicate (2 * (blades + memories)) new_selective)) name ≡ empty_link
  each name = elim (cases_lt name.number (links_of_kind blades memories name.kind)) [
    | inl here ↦
        at-name blades memories (replicate (2 * (blades + memories)) new_selective) name new_selective (length-replicate (2 * (blades + memories)) new_selective) here
        ∙ ap link_of (get_or-replicate (2 * (blades + memories)) (link_place blades name) new_selective new_selective (place-below blades memories name here))
    | inr out ↦ at-other blades memories (replicate (2 * (blades + memories)) new_selective) name out
  ]
