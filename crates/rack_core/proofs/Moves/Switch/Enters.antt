-- An entry that is put in, and one that is dropped, is so by a move.
use Rattle.std.proofs.Common.{◌≡◌, refl, sym, ◌∙◌, ap, ℕ, ◌≤◌, ◌==◌, Bool, true, false, List, [], ◌∷◌, length, insert, remove, zero, suc, arith, Option, Some, None}
use Rattle.std.specs.Prelude.{if◌then◌else◌, slice_get, option_map}
use Rattle.std.specs.List.{AllByRecursion, list_all}
use Rattle.std.proofs.Math.Path.{fun_ext}
use Rattle.std.proofs.lemmas.Bool.{false≢true, and_parts}
use Rattle.std.proofs.lemmas.Option.{none-some}
use Rattle.std.proofs.lemmas.List.Sums.{count_by-le-length}
use Rattle.mind_base.specs.Page.{PageView}
use Rattle.mind_base.specs.Range.{RangeView, in_range}
use Rattle.mind_base.specs.declared.notes.State.TheVariants.{I}
use Rattle.region_directory.specs.Block.{AreBlocksApart, is_before, are_apart, block_of}
use Rattle.region_directory.specs.Entry.{entry_place, fresh_entry, largest_free}
use Rattle.region_directory.specs.declared.entries.Entry.{Entry}
use Rattle.region_directory.proofs.Callers.{apart-from_test, one-page, test-from_has, block_of-InRange}
use Rattle.switch_core.specs.Invariant.{IsFitEntry}
use Rattle.switch_core.specs.Switch.{SwitchView}
use Rattle.switch_core.specs.Treating.{entry_for, entered, dropped, new_range}
use Rattle.switch_core.proofs.Callers.{all-insert, all-remove, insert-at}
use Rattle.coherence.specs.Moves.{Enters, Drops, droppable_region}
use Rattle.coherence.specs.World.{World, put_range}
use Rattle.rack_core.specs.Seen.{region_of, region_at}
use Rattle.rack_core.specs.SwitchMoves.{shown, Shows, IsSoundSwitch}
use Rattle.rack_core.proofs.Moves.Switch.Lookups.{MeetsNone, position-here, position-there, apart-insert, apart-remove, region_at-first, first-none, first-insert, first-remove}
use Rattle.rack_core.proofs.Moves.Runs.{one_move}
use Rattle.rack_core.proofs.Log.Held.SwitchEffects.{dropped-told, entered-told}
use Rattle.rack_core.proofs.Moves.Switch.Worlds.{Follows, none_sent, regions-got, entries-sound}
use Rattle.rack_core.proofs.Lists.Parts.{all-same}

-- ---- the block of a new entry

abbrev pub NoneHas : PageView → List Entry → Type 0
NoneHas page es = AllByRecursion (λ e. in_range e.range page ≡ false) es

tested : (es : List Entry) (range : RangeView) → list_all (λ e. are_apart e.range range) es ≡ true → MeetsNone range es
tested [] range t = tt
tested (x ∷ es) range t = let parts = and_parts (are_apart x.range range) (list_all (λ e. are_apart e.range range) es) t in (apart-from_test x.range range parts.0, tested es range parts.1)

free_block : (es : List Entry) (page : PageView) (log : ℕ) → NoneHas page es → MeetsNone (largest_free es page log) es
free_block es page zero none = all-same (λ e. in_range e.range page ≡ false) (λ e. AreBlocksApart e.range (block_of page 0)) (λ e f. one-page e.range page (λ h. false≢true (sym f ∙ test-from_has e.range page h))) es none
free_block es page (suc log) none = by (list_all (λ e. are_apart e.range (block_of page (suc log))) es) refl (free_block es page log none) where
  by : (b : Bool) → list_all (λ e. are_apart e.range (block_of page (suc log))) es ≡ b → MeetsNone (largest_free es page log) es
      → MeetsNone (if b then block_of page (suc log) else largest_free es page log) es
  by true t rest = tested es (block_of page (suc log)) t
  by false t rest = rest

-- ---- an entry is put in

pub enters_it : (v : World) (switch : SwitchView) (page : PageView) → Shows v switch → IsSoundSwitch switch → NoneHas page switch.directory.entries → (length switch.directory.entries == switch.directory.slots) ≡ false
    → Follows v v switch (entered (new_range page switch) switch)
enters_it v switch page shows sound none short =
    let es = switch.directory.entries in
    let range = new_range page switch in
    let free : MeetsNone range es = free_block es page switch.plan.region none in
    let unseen : (p : PageView) → in_range range p ≡ true → v.regions p ≡ None = λ p within.
    ap (λ g. g p) shows.regions ∙ region_at-first es p ∙ first-none es range p (all-same (λ l. AreBlocksApart l.range range) (λ l. AreBlocksApart range l.range) (λ l a q s t. a q t s) es free) within in
    let regions : region_at (insert es (entry_place es range) (fresh_entry range)) ≡ put_range range (Some (region_of (fresh_entry range))) v.regions = fun_ext (λ p.
    region_at-first (insert es (entry_place es range) (fresh_entry range)) p ∙ first-insert es (entry_place es range) (fresh_entry range) p free
    ∙ ap (λ o. if in_range range p then Some (region_of (fresh_entry range)) else o) (sym (region_at-first es p) ∙ ap (λ g. g p) (sym shows.regions))) in
    record {
      moves = one_move v (shown v (entered range switch)) (Enters range)
          unseen
          (λ j. record v { wants = sym shows.wants j; regions = regions j; last = sym shows.last j; downs = none_sent v.downs j; tos = none_sent v.tos j });
      quiet = λ n. (refl, refl);
      asks = λ m. tt;
      sound = entries-sound switch (insert es (entry_place es range) (fresh_entry range)) sound (apart-insert es (entry_place es range) (fresh_entry range) free sound.blocks)
          (all-insert (IsFitEntry 8) es (entry_place es range) (fresh_entry range) sound.entries (record { state = tt; target = tt }));
      places = record { places = shows.places.places; perms = shows.places.perms };
      told = entered-told v switch range short unseen regions;
    }

-- ---- an entry is dropped

pub drops_it : (v : World) (switch : SwitchView) (i : ℕ) (entry : Entry) → Shows v switch → IsSoundSwitch switch → slice_get switch.directory.entries i ≡ Some entry → entry.state ≡ I → entry.busy ≡ None
    → Follows v v switch (dropped i entry switch)
drops_it v switch i entry shows sound stands unheld free =
    let es = switch.directory.entries in
    let regions : region_at (remove es i) ≡ put_range entry.range None v.regions = fun_ext (λ p.
    region_at-first (remove es i) p ∙ first-remove es i entry p sound.blocks stands
    ∙ ap (λ o. if in_range entry.range p then None else o) (sym (region_at-first es p) ∙ ap (λ g. g p) (sym shows.regions))) in
    let same : region_of entry ≡ droppable_region entry.range = λ j. record { range = entry.range; state = unheld j; busy = free j } in
    record {
      moves = one_move v (shown v (dropped i entry switch)) (Drops entry.range)
          (λ p within. regions-got v.regions es i entry p shows.regions sound.blocks stands within ∙ ap Some same)
          (λ j. record v { wants = sym shows.wants j; regions = regions j; last = sym shows.last j; downs = none_sent v.downs j; tos = none_sent v.tos j });
      quiet = λ n. (refl, refl);
      asks = λ m. tt;
      sound = entries-sound switch (remove es i) sound (apart-remove es i sound.blocks)
          (all-remove (IsFitEntry 8) es i sound.entries);
      places = record { places = shows.places.places; perms = shows.places.perms };
      told = dropped-told v switch i (λ x. x) entry shows.regions (λ x. refl) sound.blocks stands regions;
    }
