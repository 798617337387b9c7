-- A request that is granted is granted by a move.
use Rattle.std.proofs.Common.{◌≡◌, refl, sym, ◌∙◌, ap, subst, ℕ, ◌<◌, Bool, true, false, ◌==◌, List, [], ◌∷◌, ◌++◌, zero, suc, Option, Some, None, eqb-true, eq-eqb}
use Rattle.std.specs.Prelude.{slice_get, is_some}
use Rattle.std.specs.List.{AllByRecursion}
use Rattle.std.proofs.lemmas.Bool.{false≢true}
use Rattle.mind_base.specs.declared.links.LinkKind.TheVariants.{Down, To}
use Rattle.mind_base.specs.declared.notes.State.{State}
use Rattle.mind_base.specs.declared.notes.State.TheVariants.{I, S, M}
use Rattle.invalidate_multicast.specs.Blades.{has_blade, without_blade}
use Rattle.invalidate_multicast.proofs.Callers.{without-other}
use Rattle.mind_base.specs.Range.{in_range}
use Rattle.region_directory.specs.Entry.{in_state}
use Rattle.region_directory.specs.declared.entries.Entry.{Entry}
use Rattle.request_list.specs.Requests.{fetching_at}
use Rattle.request_list.specs.declared.requests.Request.{Request}
use Rattle.request_list.proofs.Callers.{apart-fetching_at}
use Rattle.wire_msg.specs.declared.msgs.Msg.TheVariants.{Read}
use Rattle.switch_core.specs.Invariant.{IsFitState, IsFitEntry}
use Rattle.switch_core.specs.Switch.{SwitchView, place_in}
use Rattle.switch_core.specs.Treating.{is_denied, granted, grants, granted_state, reading}
use Rattle.switch_core.proofs.Callers.{all-at}
use Rattle.coherence.specs.Facts.{IsCoherent}
use Rattle.coherence.specs.Moves.{GrantsIt, Grants}
use Rattle.coherence.specs.World.{World, put}
use Rattle.rack_core.specs.Seen.{sent_on, region_of}
use Rattle.rack_core.specs.SwitchMoves.{shown, Shows, IsSoundSwitch, SendsNoneUp, AsksAt, LeadsByMoves}
use Rattle.rack_core.proofs.Moves.Switch.Lookups.{all-changed, apart-changed}
use Rattle.rack_core.proofs.Moves.Switch.Refuses.{allowed}
use Rattle.rack_core.proofs.Moves.Runs.{one_move}
use Rattle.rack_core.proofs.Moves.Switch.Sets.{one-here, empty-has, with-here, with-others, with-fits, one-fits}
use Rattle.rack_core.proofs.Log.Held.SwitchEffects.{changed-told}
use Rattle.rack_core.proofs.Moves.Switch.Worlds.{asked_there, Follows, not_no, none_sent, one_sent, regions-changed, regions-got, wants-got, wants-fetching}

-- ---- states

-- who is the one blade of a set
only_one : (sharers blade other : ℕ) → (without_blade sharers blade == 0) ≡ true → has_blade sharers other ≡ true → other ≡ blade
only_one sharers blade other e h = by (other == blade) refl where
  by : (t : Bool) → (other == blade) ≡ t → other ≡ blade
  by true t = eqb-true other blade t
  by false t = absurd (false≢true (sym (empty-has other) ∙ subst (λ s. has_blade s other ≡ true) (eqb-true (without_blade sharers blade) 0 e)
      (without-other sharers blade other (λ same. false≢true (sym t ∙ eq-eqb other blade same)) ∙ h)))

pub grants-so : (write : Bool) (blade : ℕ) (state : State) → grants write blade state ≡ true → Grants write state (granted_state write blade state) blade
grants-so false blade I e = record { named = one-here blade; others = λ other h. absurd (false≢true h); owner = λ other. refl; alone = λ other h. absurd (false≢true h) }
grants-so false blade (S sharers) e = record {
  named = with-here sharers blade;
  others = λ other h. with-others sharers blade other h;
  owner = λ other. refl;
  alone = λ other h. absurd (false≢true h);
}
grants-so false blade (M owner) e = record {
  named = e;
  others = λ other h. h;
  owner = λ other. refl;
  alone = λ other h. sym (eqb-true owner other h) ∙ eqb-true owner blade e;
}
grants-so true blade I e = record { owner = refl; alone = λ other h. absurd (false≢true h) }
grants-so true blade (S sharers) e = record { owner = refl; alone = λ other h. only_one sharers blade other e h }
grants-so true blade (M owner) e = record { owner = refl; alone = λ other h. sym (eqb-true owner other h) ∙ eqb-true owner blade e }

fits-so : (write : Bool) (blade : ℕ) (state : State) → blade < 8 → IsFitState 8 state → IsFitState 8 (granted_state write blade state)
fits-so false blade I lt h = one-fits blade lt
fits-so false blade (S sharers) lt h = (λ e. false≢true (sym (empty-has blade) ∙ subst (λ s. has_blade s blade ≡ true) e (with-here sharers blade)), with-fits sharers blade h.1 lt)
fits-so false blade (M owner) lt h = h
fits-so true blade state lt h = lt

-- ---- the request

all-fetching : (rs : List Request) (i : ℕ) → AllByRecursion (λ r. r.blade < 8) rs → AllByRecursion (λ r. r.blade < 8) (fetching_at rs i)
all-fetching [] i h = tt
all-fetching (r ∷ rs) zero h = h
all-fetching (r ∷ rs) (suc i) h = (h.0, all-fetching rs i h.1)

module _ (v : World) (switch : SwitchView) (at : ℕ) (r : Request) (i : ℕ) (entry : Entry) (safe : IsCoherent v) (shows : Shows v switch) (sound : IsSoundSwitch switch)
    (is : slice_get switch.requests at ≡ Some r) (idle : r.fetching ≡ false) (may : is_denied switch r ≡ false)
    (stands : slice_get switch.directory.entries i ≡ Some entry) (within : in_range entry.range r.page ≡ true) (free : entry.busy ≡ None) (can : grants r.write r.blade entry.state ≡ true) where
  grant_moves : (place : ℕ × ℕ) → place_in switch r.page ≡ Some place → LeadsByMoves v (shown v (granted r at i entry switch))
  grant_moves place lies =
      let downs : (λ n. v.downs n ++ sent_on Down n (reading r (place_in switch r.page))) ≡ v.downs =
      ap (λ o. λ n. v.downs n ++ sent_on Down n (reading r o)) lies ∙ none_sent v.downs in
      let tos : (λ n. v.tos n ++ sent_on To n (reading r (place_in switch r.page))) ≡ put place.0 (v.tos place.0 ++ Read place.1 (Some r.blade) r.page ∷ []) v.tos =
      ap (λ o. λ n. v.tos n ++ sent_on To n (reading r o)) lies ∙ one_sent v.tos place.0 (Read place.1 (Some r.blade) r.page) in
      one_move v (shown v (granted r at i entry switch)) (GrantsIt r.blade r.page r.write place (region_of entry) (granted_state r.write r.blade entry.state))
      (record {
        wanted = wants-got v.wants switch.requests at r shows.wants sound.requests is idle;
        allowed = allowed v switch r shows may;
        lies = ap (λ f. f r.page) shows.places.places ∙ lies;
        entry = regions-got v.regions switch.directory.entries i entry r.page shows.regions sound.blocks stands within;
        idle = free;
        grants = grants-so r.write r.blade entry.state can;
      })
      (λ j. record v {
        wants = wants-fetching v.wants switch.requests at r shows.wants sound.requests is j;
        regions = regions-changed v.regions switch.directory.entries i (in_state (granted_state r.write r.blade entry.state)) entry shows.regions (λ x. refl) sound.blocks stands j;
        last = sym shows.last j;
        downs = downs j;
        tos = tos j;
      })

  read_quiet : (o : Option (ℕ × ℕ)) → SendsNoneUp (reading r o)
  read_quiet None n = (refl, refl)
  read_quiet (Some place) n = (refl, refl)

  read_asks : (m : ℕ) (o : Option (ℕ × ℕ)) → place_in switch r.page ≡ o → AllByRecursion (AsksAt v.places m) (sent_on To m (reading r o))
  read_asks m None lies = tt
  read_asks m (Some place) lies = asked_there v.places m place (Read place.1 (Some r.blade) r.page) (λ same. ap (λ f. f r.page) shows.places.places ∙ lies ∙ ap (λ n. Some (n, place.1)) (sym same))

  -- a page that may be read lies somewhere
  by_place : (o : Option (ℕ × ℕ)) → place_in switch r.page ≡ o → LeadsByMoves v (shown v (granted r at i entry switch))
  by_place (Some place) lies = grant_moves place lies
  by_place None none = absurd (false≢true (ap is_some (sym (ap (λ f. f r.page) shows.places.places ∙ none)) ∙ safe.placed.placed r.page (not_no r.write (v.perms r.page) (allowed v switch r shows may))))

  pub grants_it : Follows v v switch (granted r at i entry switch)
  grants_it = record {
    moves = by_place (place_in switch r.page) refl;
    quiet = λ n. read_quiet (place_in switch r.page) n;
    asks = λ m. read_asks m (place_in switch r.page) refl;
    sound = record {
      requests = apart-fetching_at switch.requests at sound.requests;
      blades = all-fetching switch.requests at sound.blades;
      blocks = apart-changed i (in_state (granted_state r.write r.blade entry.state)) switch.directory.entries (λ x. refl) sound.blocks;
      entries = all-changed (IsFitEntry 8) i (in_state (granted_state r.write r.blade entry.state)) switch.directory.entries
          (λ e at_e h. record {
            state = fits-so r.write r.blade entry.state (all-at (λ q. q.blade < 8) switch.requests at r sound.blades is) (all-at (IsFitEntry 8) switch.directory.entries i entry sound.entries stands).state;
            target = h.target;
          }) sound.entries;
      region = sound.region;
    };
    places = record { places = shows.places.places; perms = shows.places.perms };
    told = changed-told v switch i (in_state (granted_state r.write r.blade entry.state)) entry shows.regions (λ x. refl) sound.blocks stands (granted r at i entry switch) refl refl refl;
  }
