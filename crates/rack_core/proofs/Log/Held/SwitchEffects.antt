-- What one effect of the switch notes, if anything, tells of it.
use Rattle.std.proofs.Common.{◌≡◌, refl, sym, ◌∙◌, ap, subst, ℕ, ◌==◌, ◌<◌, ◌≤◌, Bool, true, false, [], ◌∷◌, length, insert, remove, arith, Some, None, eqb-true}
use Rattle.std.specs.Prelude.{if◌then◌else◌, slice_get, is_some, IfSome}
use Rattle.std.proofs.lemmas.Bool.{false≢true}
use Rattle.std.proofs.lemmas.List.Edits.{length-insert, length-remove}
use Rattle.std.proofs.lemmas.List.Sums.{count_by-le-length}
use Rattle.std.proofs.lemmas.Option.{slice_get_within}
use Rattle.mind_base.specs.Page.{PageView}
use Rattle.mind_base.specs.Range.{RangeView, in_range, same_range}
use Rattle.mind_base.specs.declared.notes.Note.TheVariants as note
use Rattle.mind_base.specs.declared.notes.State.{State}
use Rattle.mind_base.specs.declared.notes.State.TheVariants.{I, S, M}
use Rattle.mind_base.specs.declared.plans.RackPlan.{RackPlan}
use Rattle.mind_base.proofs.Callers.{same_range-true}
use Rattle.region_directory.specs.Block.{is_before}
use Rattle.region_directory.specs.Entry.{changed_at, fresh_entry, entry_place}
use Rattle.region_directory.specs.declared.entries.Entry.{Entry}
use Rattle.region_directory.proofs.Callers.{length-changed}
use Rattle.switch_core.specs.Switch.{SwitchView, SwitchEffect}
use Rattle.switch_core.specs.Treating.{dropped, entered, noted_change, same_state}
use Rattle.coherence.specs.Lawful.{Tells, first_page, state_in}
use Rattle.coherence.specs.World.{World, put_range}
use Rattle.coherence.proofs.Callers.{by-test, first_page-in, state-found, tells_nothing, AreOfBlock, alike-same, entries-put, gone_told, region_told}
use Rattle.rack_core.specs.Seen.{region_of, region_at}
use Rattle.rack_core.specs.SwitchMoves.{shown, HasSlots, AreEntriesApart}
use Rattle.rack_core.proofs.Log.Held.SwitchNotes.{IsTold, within_slots}
use Rattle.rack_core.proofs.Moves.Switch.Worlds.{regions-changed, regions-got}

-- ---- nothing is noted

-- the directory and the frames stay, and nothing is noted
pub nothing_noted : (w taken : World) (switch : SwitchView) (effect : SwitchEffect) → w.regions ≡ region_at switch.directory.entries → taken.frames ≡ w.frames → effect.switch.directory ≡ switch.directory → effect.noted ≡ []
    → IsTold w taken switch effect
nothing_noted w taken switch effect regions frames same none plan before safe holds slots = (
  record { slots = ap (λ d. d.slots) same ∙ slots.slots; room = subst (λ d. length d.entries ≤ plan.slots) (sym same) slots.room },
  subst (λ noted. Tells plan w noted (shown taken effect)) (sym none) (tells_nothing plan w (shown taken effect) (alike-same w (shown taken effect) frames (ap (λ d. region_at d.entries) same ∙ sym regions))),
)

-- ---- one entry changes

module _ (v : World) (switch : SwitchView) (i : ℕ) (f : Entry → Entry) (e : Entry) (regions : v.regions ≡ region_at switch.directory.entries) (keeps : (x : Entry) → (f x).range ≡ x.range)
    (apart : AreEntriesApart switch.directory.entries) (at : slice_get switch.directory.entries i ≡ Some e) where
  of_block : AreOfBlock v.regions e.range
  of_block page within = subst (λ o. IfSome o (λ was. was.range ≡ e.range)) (sym (regions-got v.regions switch.directory.entries i e page regions apart at within)) refl

  in_force : state_in v.regions e.range ≡ Some e.state
  in_force = state-found v.regions e.range (region_of e) (regions-got v.regions switch.directory.entries i e (first_page e.range) regions apart at (first_page-in e.range)) refl

  -- an entry that keeps its state
  state-kept : (f e).state ≡ e.state → (range : RangeView) → state_in (region_at (changed_at i f switch.directory.entries)) range ≡ state_in v.regions range
  state-kept same range =
      ap (λ r. state_in r range) (regions-changed v.regions switch.directory.entries i f e regions keeps apart at)
      ∙ entries-put v.regions e.range (Some (region_of (f e))) (keeps e) of_block range
      ∙ by-test (λ t. same_range e.range range ≡ t → (if t then Some (f e).state else state_in v.regions range) ≡ state_in v.regions range) (same_range e.range range)
      (λ _ t. ap Some same ∙ sym in_force ∙ ap (state_in v.regions) (same_range-true e.range range t)) (λ _ _. refl) refl

  slots-changed : (plan : RackPlan) (next : SwitchView) → next.directory.entries ≡ changed_at i f switch.directory.entries → next.directory.slots ≡ switch.directory.slots → HasSlots plan switch → HasSlots plan next
  slots-changed plan next entries same slots = record {
    slots = same ∙ slots.slots;
    room = subst (λ n. n ≤ plan.slots) (sym (ap length entries ∙ length-changed i f switch.directory.entries)) slots.room;
  }

  pub kept-told : (effect : SwitchEffect) → effect.switch.directory.entries ≡ changed_at i f switch.directory.entries → effect.switch.directory.slots ≡ switch.directory.slots → effect.noted ≡ [] → (f e).state ≡ e.state
      → IsTold v v switch effect
  kept-told effect entries same none state plan before safe holds slots = (
    slots-changed plan effect.switch entries same slots,
    subst (λ noted. Tells plan v noted (shown v effect)) (sym none) (tells_nothing plan v (shown v effect)
        (record { held = λ blade page. refl; states = λ range. ap (λ es. state_in (region_at es) range) entries ∙ state-kept state range })),
  )

  pub changed-told : (effect : SwitchEffect) → effect.switch.directory.entries ≡ changed_at i f switch.directory.entries → effect.switch.directory.slots ≡ switch.directory.slots
      → effect.noted ≡ noted_change e.range e.state (f e).state → IsTold v v switch effect
  changed-told effect entries same noted plan before safe holds slots =
      let next = slots-changed plan effect.switch entries same slots in
      (next, subst (λ n. Tells plan v n (shown v effect)) (sym noted) (by (same_state e.state (f e).state) refl next)) where
        same_state-so : (a b : State) → same_state a b ≡ true → b ≡ a
        same_state-so I I h = refl
        same_state-so I (S other) h = absurd (false≢true h)
        same_state-so I (M other) h = absurd (false≢true h)
        same_state-so (S sharers) I h = absurd (false≢true h)
        same_state-so (S sharers) (S other) h = ap S (sym (eqb-true sharers other h))
        same_state-so (S sharers) (M other) h = absurd (false≢true h)
        same_state-so (M owner) I h = absurd (false≢true h)
        same_state-so (M owner) (S other) h = absurd (false≢true h)
        same_state-so (M owner) (M other) h = ap M (sym (eqb-true owner other h))

        by : (t : Bool) → same_state e.state (f e).state ≡ t → HasSlots plan effect.switch → Tells plan v (if t then [] else note.Region e.range (f e).state ∷ []) (shown v effect)
        by true t next = tells_nothing plan v (shown v effect)
            (record { held = λ blade page. refl; states = λ range. ap (λ es. state_in (region_at es) range) entries ∙ state-kept (same_state-so e.state (f e).state t) range })
        by false t next = region_told plan v (shown v effect) e.range (f e).state (region_of (f e)) safe (within_slots plan (shown v effect) effect.switch refl holds next) refl
            (ap region_at entries ∙ regions-changed v.regions switch.directory.entries i f e regions keeps apart at) (keeps e) refl of_block

  pub dropped-told : region_at (remove switch.directory.entries i) ≡ put_range e.range None v.regions → IsTold v v switch (dropped i e switch)
  dropped-told after plan before safe holds slots =
      let fewer = length-remove switch.directory.entries i (slice_get_within switch.directory.entries i e at) in
      let next : HasSlots plan (dropped i e switch).switch = record { slots = slots.slots; room = omega (arith, fewer, slots.room) } in
      (next, gone_told plan v (shown v (dropped i e switch)) e.range safe (within_slots plan (shown v (dropped i e switch)) (dropped i e switch).switch refl holds next) refl after of_block (ap is_some in_force))

-- ---- an entry is put in

pub entered-told : (v : World) (switch : SwitchView) (range : RangeView) → (length switch.directory.entries == switch.directory.slots) ≡ false
    → ((page : PageView) → in_range range page ≡ true → v.regions page ≡ None)
    → region_at (insert switch.directory.entries (entry_place switch.directory.entries range) (fresh_entry range)) ≡ put_range range (Some (region_of (fresh_entry range))) v.regions
    → IsTold v v switch (entered range switch)
entered-told v switch range short none after plan before safe holds slots =
    let es = switch.directory.entries in
    let more = length-insert es (entry_place es range) (fresh_entry range) (count_by-le-length (λ e. is_before e.range range) es) in
    let next : HasSlots plan (entered range switch).switch = record { slots = slots.slots; room = omega (arith, more, below (length es) switch.directory.slots plan.slots short slots.slots slots.room) } in (
      next,
      region_told plan v (shown v (entered range switch)) range I (region_of (fresh_entry range)) safe (within_slots plan (shown v (entered range switch)) (entered range switch).switch refl holds next) refl after refl refl
          (λ page within. subst (λ o. IfSome o (λ was. was.range ≡ range)) (sym (none page within)) tt),
    )
  where
    below : (n slots most : ℕ) → (n == slots) ≡ false → slots ≡ most → n ≤ most → n < most
    below n slots most away is le = by (n == most) refl where
      by : (t : Bool) → (n == most) ≡ t → n < most
      by true t = absurd (false≢true (sym away ∙ ap (λ k. n == k) is ∙ t))
      by false t = grind (arith, t, le)
