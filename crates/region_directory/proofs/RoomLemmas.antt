-- When room is waited for.
use Rattle.std.proofs.Common.{◌≡◌, ℕ, Bool, true, false, not, ◌⊎◌, ◌↔◌, inl, inr, Option, Some, None, List, get_or, refl, sym, ◌∙◌, arith}
use Rattle.std.specs.List.{All, Any, list_any, position}
use Rattle.std.proofs.lemmas.Bool.{false≢true}
use Rattle.std.proofs.lemmas.List.Folds.{Any-from_list_any, list_any-from_Any}
use Rattle.std.proofs.lemmas.List.Quantifiers.{position-Some}
use Rattle.std.proofs.lemmas.List.Sums.{prefix_len_passes}
use Rattle.mind_base.specs.Page.{PageView}
use Rattle.region_directory.specs.Directory.{DirectoryView}
use Rattle.region_directory.specs.Room.{is_droppable, is_for_room, is_evictable, first_rule, room_of, MustWait}
use Rattle.region_directory.specs.declared.entries.Entry.{Entry}
use Rattle.region_directory.specs.declared.rooms.Room.TheVariants.{Wait}
use Rattle.region_directory.proofs.SearchLemmas.{blank, position-None}

not-false : (b : Bool) → not b ≡ true → b ≡ false
not-false true h = absurd (false≢true h)
not-false false h = refl

-- a search that finds nothing has seen every element fail
pub all-fail : (p : Entry → Bool) (es : List Entry) → position p es ≡ None → All (λ e. p e ≡ false) es
all-fail p es e k d lt =
    not-false (p (get_or es k d)) (prefix_len_passes (λ x. not (p x)) es k d (omega (arith, position-None p es e)))

-- and where every element fails it finds nothing
pub fails-None : (p : Entry → Bool) (es : List Entry) (o : Option ℕ) → (d : Entry) → position p es ≡ o → All (λ e. p e ≡ false) es → o ≡ None
fails-None p es None d e h = refl
fails-None p es (Some i) d e h =
    let s = position-Some p es i d e in
    absurd (false≢true (sym (h i d s.0) ∙ s.1))

-- the rules come to waiting exactly in these cases
first-waits : (o : Option ℕ) (b : Bool) (v : Option ℕ) → first_rule o b v ≡ Wait → (o ≡ None) × ((b ≡ true) ⊎ (v ≡ None))
first-waits (Some i) b v e = absurd (cc)
first-waits None true v e = (refl, inl refl)
first-waits None false (Some i) e = absurd (cc)
first-waits None false None e = (refl, inr refl)

waits-first : (o : Option ℕ) (b : Bool) (v : Option ℕ) → o ≡ None → (b ≡ true) ⊎ (v ≡ None) → first_rule o b v ≡ Wait
waits-first (Some i) b v e h = absurd (cc)
waits-first None true v e h = refl
waits-first None false (Some i) e (inl t) = absurd (false≢true t)
waits-first None false (Some i) e (inr n) = absurd (cc)
waits-first None false None e h = refl

why : (es : List Entry) (pages : List PageView) → (list_any (λ e. is_for_room e.busy) es ≡ true) ⊎ (position (is_evictable pages) es ≡ None) → Any (λ e. is_for_room e.busy ≡ true) es ⊎ All (λ e. is_evictable pages e ≡ false) es
why es pages (inl t) = inl (Any-from_list_any (λ e. is_for_room e.busy) es t)
why es pages (inr n) = inr (all-fail (is_evictable pages) es n)

because : (es : List Entry) (pages : List PageView) → Any (λ e. is_for_room e.busy ≡ true) es ⊎ All (λ e. is_evictable pages e ≡ false) es → (list_any (λ e. is_for_room e.busy) es ≡ true) ⊎ (position (is_evictable pages) es ≡ None)
because es pages (inl some) = inl (list_any-from_Any (λ e. is_for_room e.busy) es some)
because es pages (inr all) = inr (fails-None (is_evictable pages) es (position (is_evictable pages) es) blank refl all)

pub room-waits : (d : DirectoryView) (pages : List PageView) → (room_of d pages ≡ Wait) ↔ MustWait d pages
room-waits d pages = let es = d.entries in (
  λ e.
      let f = first-waits (position is_droppable es) (list_any (λ e. is_for_room e.busy) es) (position (is_evictable pages) es) e in
      (all-fail is_droppable es f.0, why es pages f.1),
  λ h. waits-first (position is_droppable es) (list_any (λ e. is_for_room e.busy) es) (position (is_evictable pages) es) (fails-None is_droppable es (position is_droppable es) blank refl h.0) (because es pages h.1),
)
