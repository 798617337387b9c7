-- A transition that is begun is begun by a move.
use Rattle.std.proofs.Common.{◌≡◌, refl, sym, ◌∙◌, ap, subst, ℕ, ◌+◌, ◌-◌, ◌<◌, ◌^◌, Bool, true, false, ◌==◌, List, [], ◌∷◌, ◌++◌, arith, Option, Some, None, eqb-true, eq-eqb}
use Rattle.std.specs.Prelude.{if◌then◌else◌, slice_get}
use Rattle.std.specs.List.{AllByRecursion}
use Rattle.std.proofs.Math.Path.{fun_ext}
use Rattle.std.proofs.lemmas.Bool.{false≢true}
use Rattle.mind_base.specs.Page.{PageView}
use Rattle.mind_base.specs.Range.{RangeView}
use Rattle.mind_base.specs.declared.links.LinkKind.TheVariants.{Down, To}
use Rattle.mind_base.specs.declared.links.LinkName.{LinkName}
use Rattle.mind_base.specs.declared.notes.State.{State}
use Rattle.mind_base.specs.declared.notes.State.TheVariants.{I, S, M}
use Rattle.invalidate_multicast.specs.Blades.{has_blade, without_blade, casts_of}
use Rattle.invalidate_multicast.proofs.Callers.{without-other}
use Rattle.region_directory.specs.Entry.{with_busy}
use Rattle.region_directory.specs.declared.entries.Busy.{Busy}
use Rattle.region_directory.specs.declared.entries.Entry.{Entry}
use Rattle.wire_msg.specs.declared.msgs.Msg.{Msg}
use Rattle.wire_msg.specs.declared.msgs.Msg.TheVariants.{Inv, Lower}
use Rattle.switch_core.specs.Deeds.{Purpose, MakesRoom, LetsWrite, LetsRead, HasPurpose, begun_for, calls_for, transition_for}
use Rattle.switch_core.specs.Invariant.{IsFitState, IsFitEntry}
use Rattle.switch_core.specs.Switch.{SwitchView, to_blade}
use Rattle.switch_core.specs.Treating.{with_transition, invalidations, left_to, holders, grants, is_fetched}
use Rattle.switch_core.proofs.Callers.{all-at}
use Rattle.coherence.specs.Facts.{names, owns, is_fetching}
use Rattle.coherence.specs.Moves.{Begins, IsCallOf, call_to}
use Rattle.coherence.specs.World.{World}
use Rattle.rack_core.specs.Seen.{sent_on, region_of}
use Rattle.rack_core.specs.SwitchMoves.{shown, Shows, IsSoundSwitch, SendsNoneUp, AsksAt}
use Rattle.rack_core.proofs.Moves.Switch.Lookups.{all-changed, apart-changed}
use Rattle.rack_core.proofs.Moves.Switch.Requests.{unfetched}
use Rattle.rack_core.proofs.Moves.Runs.{one_move}
use Rattle.rack_core.proofs.Moves.Switch.Sets.{one-here, one-only, one-other, one-fits, calls-down, calls-to, calls-quiet}
use Rattle.rack_core.proofs.Log.Held.SwitchEffects.{kept-told}
use Rattle.rack_core.proofs.Moves.Switch.Worlds.{Follows, none_sent, regions-changed, regions-got}

-- what is asked of a transition by the state that it is begun in
pub record IsFor (state : State) (busy : Busy) : Type 0 where
  pub covered : (blade : ℕ) → names state blade ≡ true → has_blade busy.waiting blade ≡ false → names busy.target blade ≡ true
  pub owners : (blade : ℕ) → owns busy.target blade ≡ false
  pub kept : (blade : ℕ) → names busy.target blade ≡ true → names state blade ≡ true
  pub writers : (blade : ℕ) → owns state blade ≡ true → has_blade busy.waiting blade ≡ true
  pub fits : IsFitState 8 busy.target

-- the messages are a call to each blade that is waited for
pub record AreCalls (busy : Busy) (message : Msg) (messages : List (LinkName × Msg)) : Type 0 where
  pub down : (blade : ℕ) → sent_on Down blade messages ≡ call_to busy message blade
  pub to : (memory : ℕ) → sent_on To memory messages ≡ []
  pub quiet : SendsNoneUp messages

module _ (v : World) (switch : SwitchView) (i : ℕ) (entry : Entry) (shows : Shows v switch) (sound : IsSoundSwitch switch)
    (stands : slice_get switch.directory.entries i ≡ Some entry) (free : entry.busy ≡ None) (still : is_fetched entry.range switch.requests ≡ false) where
  pub begins_it : (busy : Busy) (message : Msg) (messages : List (LinkName × Msg)) → busy.number ≡ switch.last + 1 → IsFor entry.state busy → IsCallOf entry.range busy message → AreCalls busy message messages
      → Follows v v switch (with_transition i busy messages switch)
  begins_it busy message messages number fits call calls = record {
    moves = one_move v (shown v (with_transition i busy messages switch)) (Begins (region_of entry) busy message)
        (record {
          entry = λ page within. regions-got v.regions switch.directory.entries i entry page shows.regions sound.blocks stands within;
          idle = free;
          unfetched = λ page blade within. ap (λ f. is_fetching (f blade page)) shows.wants ∙ unfetched entry.range switch.requests blade page still within;
          number = number ∙ ap (λ n. n + 1) (sym shows.last);
          covered = fits.covered;
          owners = fits.owners;
          kept = fits.kept;
          writers = fits.writers;
          call = call;
        })
        (λ j. record v {
          wants = sym shows.wants j;
          regions = regions-changed v.regions switch.directory.entries i (with_busy (Some busy)) entry shows.regions (λ x. refl) sound.blocks stands j;
          last = busy.number;
          downs = fun_ext {f = λ n. v.downs n ++ sent_on Down n messages} {g = λ n. v.downs n ++ call_to busy message n} (λ n. ap (λ s. v.downs n ++ s) (calls.down n)) j;
          tos = let tos : (λ n. v.tos n ++ sent_on To n messages) ≡ v.tos = fun_ext (λ n. ap (λ s. v.tos n ++ s) (calls.to n)) ∙ none_sent v.tos in tos j;
        });
    quiet = calls.quiet;
    asks = λ m. subst (AllByRecursion (AsksAt v.places m)) (sym (calls.to m)) tt;
    sound = record {
      requests = sound.requests;
      blades = sound.blades;
      blocks = apart-changed i (with_busy (Some busy)) switch.directory.entries (λ x. refl) sound.blocks;
      entries = all-changed (IsFitEntry 8) i (with_busy (Some busy)) switch.directory.entries (λ e at h. record { state = h.state; target = fits.fits }) sound.entries;
      region = sound.region;
    };
    places = record { places = shows.places.places; perms = shows.places.perms };
    told = kept-told v switch i (with_busy (Some busy)) entry shows.regions (λ x. refl) sound.blocks stands (with_transition i busy messages switch) refl refl refl refl;
  }

-- ---- invalidations

invalidations-calls : (busy : Busy) (number : ℕ) (range : RangeView) (asked : Option PageView) → busy.waiting < 2 ^ 8 → AreCalls busy (Inv number range asked) (invalidations number range asked busy.waiting)
invalidations-calls busy number range asked lt = record {
  down = λ blade. calls-down busy.waiting (Inv number range asked) blade (omega arith);
  to = λ memory. calls-to (casts_of busy.waiting) (Inv number range asked) memory;
  quiet = λ n. calls-quiet (casts_of busy.waiting) (Inv number range asked) n;
}

holders-fit : (state : State) → IsFitState 8 state → holders state < 2 ^ 8
holders-fit I h = omega arith
holders-fit (S sharers) h = h.1
holders-fit (M owner) h = (one-fits owner h).1

less-fits : (w b : ℕ) → w < 2 ^ 8 → without_blade w b < 2 ^ 8
less-fits w b lt = by (has_blade w b) where
  by : (t : Bool) → (if t then w - 2 ^ b else w) < 2 ^ 8
  by true = omega arith
  by false = lt

-- who is named is a holder
names-holds : (state : State) (blade : ℕ) → names state blade ≡ true → has_blade (holders state) blade ≡ true
names-holds I blade h = absurd (false≢true h)
names-holds (S sharers) blade h = h
names-holds (M owner) blade h = subst (λ b. has_blade (2 ^ owner) b ≡ true) (eqb-true owner blade h) (one-here owner)

owns-names : (state : State) (blade : ℕ) → owns state blade ≡ true → names state blade ≡ true
owns-names I blade h = h
owns-names (S sharers) blade h = absurd (false≢true h)
owns-names (M owner) blade h = h

-- all holders give up
pub cleared-for : (number : ℕ) (state : State) → IsFor state (record { number = number; waiting = holders state; target = I; for_room = true })
cleared-for number state = record {
  covered = λ blade named gone. absurd (false≢true (sym gone ∙ names-holds state blade named));
  owners = λ blade. refl;
  kept = λ blade h. absurd (false≢true h);
  writers = λ blade h. names-holds state blade (owns-names state blade h);
  fits = tt;
}

-- all others give up
left-covered : (asking : ℕ) (state : State) → grants true asking state ≡ false → (blade : ℕ) → names state blade ≡ true → has_blade (without_blade (holders state) asking) blade ≡ false → names (left_to asking state) blade ≡ true
left-covered asking state cannot blade named gone = by (blade == asking) refl where
  self : (s : State) → grants true asking s ≡ false → names s asking ≡ true → names (left_to asking s) asking ≡ true
  self I f h = absurd (false≢true h)
  self (S sharers) f h = ap (λ t. names (if t then S (2 ^ asking) else I) asking) h ∙ one-here asking
  self (M owner) f h = absurd (false≢true (sym f ∙ h))

  by : (t : Bool) → (blade == asking) ≡ t → names (left_to asking state) blade ≡ true
  by true e = let same = eqb-true blade asking e in subst (λ b. names (left_to asking state) b ≡ true) (sym same) (self state cannot (subst (λ b. names state b ≡ true) same named))
  by false e = absurd (false≢true (sym gone ∙ (without-other (holders state) asking blade (λ same. false≢true (sym e ∙ eq-eqb blade asking same)) ∙ names-holds state blade named)))

left-owners : (asking : ℕ) (state : State) (blade : ℕ) → owns (left_to asking state) blade ≡ false
left-owners asking I blade = refl
left-owners asking (S sharers) blade = by (has_blade sharers asking) where
  by : (t : Bool) → owns (if t then S (2 ^ asking) else I) blade ≡ false
  by true = refl
  by false = refl
left-owners asking (M owner) blade = refl

left-kept : (asking : ℕ) (state : State) (blade : ℕ) → names (left_to asking state) blade ≡ true → names state blade ≡ true
left-kept asking I blade h = h
left-kept asking (S sharers) blade h = by (has_blade sharers asking) refl h where
  by : (t : Bool) → has_blade sharers asking ≡ t → names (if t then S (2 ^ asking) else I) blade ≡ true → has_blade sharers blade ≡ true
  by true e n = subst (λ b. has_blade sharers b ≡ true) (sym (one-only asking blade n)) e
  by false e n = absurd (false≢true n)
left-kept asking (M owner) blade h = absurd (false≢true h)

left-writers : (asking : ℕ) (state : State) → grants true asking state ≡ false → (blade : ℕ) → owns state blade ≡ true → has_blade (without_blade (holders state) asking) blade ≡ true
left-writers asking I cannot blade h = absurd (false≢true h)
left-writers asking (S sharers) cannot blade h = absurd (false≢true h)
left-writers asking (M owner) cannot blade h =
    let same = eqb-true owner blade h in
    without-other (2 ^ owner) asking blade (λ e. false≢true (sym cannot ∙ eq-eqb owner asking (same ∙ e))) ∙ subst (λ b. has_blade (2 ^ owner) b ≡ true) same (one-here owner)

left-fits : (asking : ℕ) (state : State) → asking < 8 → IsFitState 8 (left_to asking state)
left-fits asking I lt = tt
left-fits asking (S sharers) lt = by (has_blade sharers asking) where
  by : (t : Bool) → IsFitState 8 (if t then S (2 ^ asking) else I)
  by true = one-fits asking lt
  by false = tt
left-fits asking (M owner) lt = tt

pub invalidated-for : (number asking : ℕ) (state : State) → asking < 8 → grants true asking state ≡ false
    → IsFor state (record { number = number; waiting = without_blade (holders state) asking; target = left_to asking state; for_room = false })
invalidated-for number asking state lt cannot = record {
  covered = left-covered asking state cannot;
  owners = left-owners asking state;
  kept = left-kept asking state;
  writers = left-writers asking state cannot;
  fits = left-fits asking state lt;
}

-- the owner may write no longer
pub lowered-for : (number owner : ℕ) → owner < 8 → IsFor (M owner) (record { number = number; waiting = 2 ^ owner; target = S (2 ^ owner); for_room = false })
lowered-for number owner lt = record {
  covered = λ blade named gone. absurd (false≢true (sym gone ∙ names-holds (M owner) blade named));
  owners = λ blade. refl;
  kept = λ blade h. eq-eqb owner blade (sym (one-only owner blade h));
  writers = λ blade h. names-holds (M owner) blade h;
  fits = one-fits owner lt;
}

lowering-calls : (busy : Busy) (owner : ℕ) (message : Msg) → busy.waiting ≡ 2 ^ owner → AreCalls busy message (to_blade owner message ∷ [])
lowering-calls busy owner message is = record { down = λ blade. ap (λ t. if t then message ∷ [] else []) (same blade (blade == owner) refl); to = λ memory. refl; quiet = λ n. (refl, refl) } where
  same : (blade : ℕ) (t : Bool) → (blade == owner) ≡ t → (blade == owner) ≡ has_blade busy.waiting blade
  same blade true e = e ∙ sym (subst (λ b. has_blade busy.waiting b ≡ true) (sym (eqb-true blade owner e)) (subst (λ s. has_blade s owner ≡ true) (sym is) (one-here owner)))
  same blade false e = e ∙ sym (subst (λ s. has_blade s blade ≡ false) (sym is) (one-other owner blade e))

-- ---- the switch's transitions

module _ (v : World) (switch : SwitchView) (i : ℕ) (entry : Entry) (shows : Shows v switch) (sound : IsSoundSwitch switch)
    (stands : slice_get switch.directory.entries i ≡ Some entry) (free : entry.busy ≡ None) (still : is_fetched entry.range switch.requests ≡ false) where
  fit : IsFitState 8 entry.state
  fit = (all-at (IsFitEntry 8) switch.directory.entries i entry sound.entries stands).state

  abbrev number : ℕ
  number = switch.last + 1

  pub begins_for : (purpose : Purpose) → HasPurpose purpose entry switch → Follows v v switch (begun_for purpose i entry switch)
  begins_for MakesRoom is =
      begins_it v switch i entry shows sound stands free still (transition_for MakesRoom number entry.state) (Inv number entry.range None) (calls_for MakesRoom number entry)
      refl (cleared-for number entry.state) (refl, refl) (invalidations-calls (transition_for MakesRoom number entry.state) number entry.range None (holders-fit entry.state fit))
  begins_for (LetsWrite r) (at, waiting, within, cannot) =
      begins_it v switch i entry shows sound stands free still (transition_for (LetsWrite r) number entry.state) (Inv number entry.range (Some r.page)) (calls_for (LetsWrite r) number entry)
      refl (invalidated-for number r.blade entry.state (all-at (λ q. q.blade < 8) switch.requests at r sound.blades waiting.stands) cannot) (refl, refl)
      (invalidations-calls (transition_for (LetsWrite r) number entry.state) number entry.range (Some r.page) (less-fits (holders entry.state) r.blade (holders-fit entry.state fit)))
  begins_for (LetsRead r owner) (at, waiting, within, is, other) =
      let busy : Busy = transition_for (LetsRead r owner) number entry.state in
      let message : Msg = Lower number entry.range r.page in
      begins_it v switch i entry shows sound stands free still busy message (calls_for (LetsRead r owner) number entry)
      refl (subst (λ s. IsFor s busy) (sym is) (lowered-for number owner (subst (IsFitState 8) is fit))) (refl, refl, λ blade h. h)
      (lowering-calls busy owner message refl)
