-- The first two entries that may become one, and the room that they make.
use Rattle.std.proofs.Common.{◌≡◌, ℕ, ◌+◌, ◌<◌, Bool, true, false, cond, ◌↔◌, inl, inr, Option, Some, None, List, [], ◌∷◌, refl, ap, sym, subst, ◌∙◌, zero, suc, arith}
use Rattle.std.specs.List.{list_any, position, slice_get}
use Rattle.std.specs.Option.{is_some, option_map, option_and_then}
use Rattle.std.proofs.lemmas.Bool.{cases_Bool, cases_lt, false≢true}
use Rattle.mind_base.specs.Page.{PageView}
use Rattle.region_directory.specs.Directory.{DirectoryView}
use Rattle.region_directory.specs.Merge.{merged_entry, merged_pair, merge_of}
use Rattle.region_directory.specs.Room.{is_droppable, is_for_room, is_evictable, first_rule, first_pair, first_merging_rule, room_of, room_by_merging, IsUnpaired, MustWaitUnpaired, MergesFirst}
use Rattle.region_directory.specs.declared.entries.Entry.{Entry}
use Rattle.region_directory.specs.declared.rooms.Room.TheVariants.{Merge, Wait}
use Rattle.region_directory.proofs.RoomLemmas.{all-fail, fails-None, room-waits}
use Rattle.region_directory.proofs.SearchLemmas.{blank}

none-there : {A : Type 0} (o : Option A) → is_some o ≡ false → o ≡ None
none-there None e = refl
none-there (Some x) e = absurd (false≢true (sym e))

some-there : {A : Type 0} (o : Option A) → is_some o ≡ true → o ≡ None → ⊥
some-there o t e = false≢true (sym (ap is_some e) ∙ t)

-- what an answer of the search says of all pairs
abbrev Says : ℕ → List Entry → Option ℕ → Type 0
Says most es None = (i : ℕ) → merged_pair most es i ≡ None
Says most es (Some i) = (is_some (merged_pair most es i) ≡ true) × ((k : ℕ) → k < i → merged_pair most es k ≡ None)

past : (most : ℕ) (e : Entry) (es : List Entry) (i : ℕ) → merged_pair most (e ∷ es) (suc i) ≡ merged_pair most es i
past most e es i =
    let one : suc i + 1 ≡ suc (i + 1) = omega arith in
    ap (λ n. option_and_then (λ lower. option_and_then (merged_entry most lower) (slice_get (e ∷ es) n)) (slice_get es i)) one

says-past : (most : ℕ) (lower upper : Entry) (es : List Entry) (o : Option ℕ) → merged_entry most lower upper ≡ None → Says most (upper ∷ es) o → Says most (lower ∷ upper ∷ es) (option_map suc o)
says-past most lower upper es None n h = λ i. elim i as (λ i. merged_pair most (lower ∷ upper ∷ es) i ≡ None) [
  | zero ↦ n
  | suc j ↦ past most lower (upper ∷ es) j ∙ h j
]
says-past most lower upper es (Some i) n h =
    let before : (k : ℕ) → k < suc i → merged_pair most (lower ∷ upper ∷ es) k ≡ None = λ k.
    elim k as (λ k. k < suc i → merged_pair most (lower ∷ upper ∷ es) k ≡ None) [
      | zero ↦ λ lt. n
      | suc j ↦ λ lt. past most lower (upper ∷ es) j ∙ h.1 j (omega arith)
    ] in
    (ap is_some (past most lower (upper ∷ es) i) ∙ h.0, before)

first-pair : (most : ℕ) (es : List Entry) → Says most es (first_pair most es)
first-pair most [] = λ i. refl
first-pair most (e ∷ []) = λ i. elim i as (λ i. merged_pair most (e ∷ []) i ≡ None) [
  | zero ↦ refl
  | suc j ↦ past most e [] j
]
first-pair most (lower ∷ upper ∷ es) =
    let says : Option ℕ → Type 0 = Says most (lower ∷ upper ∷ es) in
    let rest : Option ℕ = option_map suc (first_pair most (upper ∷ es)) in
    elim (cases_Bool (is_some (merged_entry most lower upper))) [
      | inl t ↦ subst says (sym (ap (λ b. cond b (Some 0) rest) t)) (t, λ k lt. absurd (omega arith))
      | inr f ↦ subst says (sym (ap (λ b. cond b (Some 0) rest) f))
          (says-past most lower upper es (first_pair most (upper ∷ es)) (none-there (merged_entry most lower upper) f) (first-pair most (upper ∷ es)))
    ]

no-pair : (d : DirectoryView) (o : Option ℕ) → Says d.most d.entries o → IsUnpaired d → o ≡ None
no-pair d None says h = refl
no-pair d (Some i) says h = absurd (some-there (merge_of d i) says.0 (h i))

same-pair : (d : DirectoryView) (o : Option ℕ) (i : ℕ) → Says d.most d.entries o → is_some (merge_of d i) ≡ true → ((k : ℕ) → k < i → merge_of d k ≡ None) → o ≡ Some i
same-pair d None i says t before = absurd (some-there (merge_of d i) t (says i))
same-pair d (Some j) i says t before =
    elim (cases_lt i j) [
      | inl less ↦ absurd (some-there (merge_of d i) t (says.1 i less))
      | inr le ↦ elim (cases_lt j i) [
        | inl more ↦ absurd (some-there (merge_of d j) says.0 (before j more))
        | inr ge ↦ ap Some (omega arith)
      ]
    ]

-- what each outcome of the rules comes of
unmerged : (o : Option ℕ) (b : Bool) (v : Option ℕ) → first_merging_rule o None b v ≡ first_rule o b v
unmerged None b v = refl
unmerged (Some i) b v = refl

by-pair : (o p : Option ℕ) (b : Bool) (v : Option ℕ) (i : ℕ) → first_merging_rule o p b v ≡ Merge i → (o ≡ None) × (p ≡ Some i)
by-pair (Some j) p b v i e = absurd (cc)
by-pair None (Some j) b v i e = (refl, cc)
by-pair None None true v i e = absurd (cc)
by-pair None None false (Some j) i e = absurd (cc)
by-pair None None false None i e = absurd (cc)

by-waiting : (o p : Option ℕ) (b : Bool) (v : Option ℕ) → first_merging_rule o p b v ≡ Wait → (p ≡ None) × (first_rule o b v ≡ Wait)
by-waiting (Some j) p b v e = absurd (cc)
by-waiting None (Some j) b v e = absurd (cc)
by-waiting None None b v e = (refl, e)

pub unpaired : (d : DirectoryView) (fetching : List PageView) → IsUnpaired d → room_by_merging d fetching ≡ room_of d fetching
unpaired d fetching h =
    let drop : Option ℕ = position is_droppable d.entries in
    let clearing : Bool = list_any (λ entry. is_for_room entry.busy) d.entries in
    let evict : Option ℕ = position (is_evictable fetching) d.entries in
    ap (λ pair. first_merging_rule drop pair clearing evict) (no-pair d (first_pair d.most d.entries) (first-pair d.most d.entries) h) ∙ unmerged drop clearing evict

pub merges : (d : DirectoryView) (fetching : List PageView) (i : ℕ) → (room_by_merging d fetching ≡ Merge i) ↔ MergesFirst d i
merges d fetching i =
    let drop : Option ℕ = position is_droppable d.entries in
    let clearing : Bool = list_any (λ entry. is_for_room entry.busy) d.entries in
    let evict : Option ℕ = position (is_evictable fetching) d.entries in (
      λ e.
          let by = by-pair drop (first_pair d.most d.entries) clearing evict i e in
          let says : Says d.most d.entries (Some i) = subst (Says d.most d.entries) by.1 (first-pair d.most d.entries) in
          (all-fail is_droppable d.entries by.0, says.0, says.1),
      λ h.
          ap (λ o. first_merging_rule o (first_pair d.most d.entries) clearing evict) (fails-None is_droppable d.entries drop blank refl h.0)
          ∙ ap (λ pair. first_merging_rule None pair clearing evict) (same-pair d (first_pair d.most d.entries) i (first-pair d.most d.entries) h.1 h.2),
    )

pub waits : (d : DirectoryView) (fetching : List PageView) → (room_by_merging d fetching ≡ Wait) ↔ MustWaitUnpaired d fetching
waits d fetching = (
  λ e.
      let by = by-waiting (position is_droppable d.entries) (first_pair d.most d.entries) (list_any (λ entry. is_for_room entry.busy) d.entries) (position (is_evictable fetching) d.entries) e in
      let says : Says d.most d.entries None = subst (Says d.most d.entries) by.0 (first-pair d.most d.entries) in
      (says, (room-waits d fetching).0 by.1),
  λ h. unpaired d fetching h.0 ∙ (room-waits d fetching).1 h.1,
)
