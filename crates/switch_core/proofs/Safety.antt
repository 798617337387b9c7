-- Each change of the switch leaves a switch, sends only what may be sent, and leaves less to do.
use Rattle.std.proofs.Common.{◌≡◌, ◌≢◌, ℕ, ◌+◌, ◌^◌, ◌<◌, ◌≤◌, Bool, true, false, cond, ◌==◌, Option, Some, None, List, [], ◌∷◌, length, map, refl, ap, sym, subst, ◌∙◌, inl, inr, arith}
use Rattle.std.specs.List.{AllByRecursion, insert, remove, slice_get, range_with_len, filter}
use Rattle.std.specs.Option.{IfSome}
use Rattle.std.proofs.Math.Pow.{pow_mono}
use Rattle.std.proofs.lemmas.Bool.{cases_Bool}
use Rattle.std.proofs.lemmas.List.Edits.{length-insert, length-remove}
use Rattle.std.proofs.lemmas.List.Sums.{count_by-le-length}
use Rattle.std.proofs.lemmas.Nat.{pow_pos}
use Rattle.std.proofs.lemmas.Option.{slice_get_within}
use Rattle.region_directory.proofs.Callers.{length-changed}
use Rattle.region_directory.specs.Block.{is_before}
use Rattle.mind_base.specs.Page.{PageView}
use Rattle.mind_base.specs.Range.{RangeView, InRange}
use Rattle.mind_base.specs.declared.links.LinkName.{LinkName}
use Rattle.mind_base.specs.declared.notes.State.{State}
use Rattle.mind_base.specs.declared.notes.State.TheVariants.{I, S, M}
use Rattle.mind_base.specs.declared.plans.RackPlan.{RackPlan}
use Rattle.mind_base.specs.Permission.{allows}
use Rattle.invalidate_multicast.specs.Blades.{has_blade, without_blade, cast_to, casts_of}
use Rattle.invalidate_multicast.specs.Transition.{is_answered}
use Rattle.protect_table.specs.Protect.{permission_at}
use Rattle.range_translate.specs.Place.{physical_place as place_among}
use Rattle.region_directory.specs.Directory.{DirectoryView}
use Rattle.region_directory.specs.Entry.{changed_at, in_state, with_busy, fresh_entry, entry_place}
use Rattle.region_directory.specs.declared.entries.Busy.{Busy}
use Rattle.region_directory.specs.declared.entries.Entry.{Entry}
use Rattle.request_list.specs.Requests.{fetching_at}
use Rattle.request_list.specs.declared.requests.Request.{Request}
use Rattle.wire_msg.specs.WellFormed.{AsksIn}
use Rattle.wire_msg.specs.declared.msgs.Msg.{Msg}
use Rattle.wire_msg.specs.declared.msgs.Msg.TheVariants.{Inv}
use Rattle.switch_core.specs.Invariant.{IsFitState, IsFitEntry, IsFitRequest, IsSwitch}
use Rattle.switch_core.specs.Sending.{AreFetchesAllowed, IsSendable, Stays}
use Rattle.switch_core.specs.Standing.{left_to_do}
use Rattle.switch_core.specs.Switch.{SwitchView, SwitchEffect, with_entries, with_requests, place_in, to_blade}
use Rattle.switch_core.specs.Treating.{holders, granted_state, left_to, without_request, denied_request, granted, reading, with_transition, cleared, invalidated, lowered, invalidations, entered, dropped}
use Rattle.switch_core.proofs.Lists.{all-at, all-insert, all-remove, all-filter, all-changed, all-fetching, waiting-fetching, waiting-without, idle-state, under-state, idle-busy, under-busy, idle-remove, under-remove, idle-insert, under-insert}
use Rattle.switch_core.proofs.Places.{place-within}
use Rattle.invalidate_multicast.proofs.Callers.{with_blade-fits, with_blade-some, power-some, power-fits, has_blade-below, without-le}

-- what the request fetches is allowed
abbrev pub IsAllowed : SwitchView → Request → Type 0
IsAllowed s r = r.fetching ≡ true → allows r.write (permission_at s.protect r.page) ≡ true

pub record Safe (old : SwitchView) (new : SwitchEffect) : Type 0 where
  pub switch : IsSwitch new.switch
  pub sendable : AllByRecursion (IsSendable old.plan) new.sent
  pub stays : Stays old new.switch
  pub allowed : AreFetchesAllowed old → AreFetchesAllowed new.switch

-- ---- states

pub fit-granted : (n : ℕ) (write : Bool) (blade : ℕ) (state : State) → blade < n → IsFitState n state → IsFitState n (granted_state write blade state)
fit-granted n false blade I lt h = (power-some blade, power-fits n blade lt)
fit-granted n false blade (S sharers) lt h = (with_blade-some sharers blade h.0, with_blade-fits n sharers blade h.1 lt)
fit-granted n false blade (M owner) lt h = h
fit-granted n true blade I lt h = lt
fit-granted n true blade (S sharers) lt h = lt
fit-granted n true blade (M owner) lt h = lt

pub fit-left : (n blade : ℕ) (state : State) → blade < n → IsFitState n (left_to blade state)
fit-left n blade I lt = tt
fit-left n blade (S sharers) lt =
    let chosen = λ (b : Bool). IsFitState n (cond b (S (2 ^ blade)) I) in
    elim (cases_Bool (has_blade sharers blade)) [
      | inl t ↦ subst chosen (sym t) (power-some blade, power-fits n blade lt)
      | inr f ↦ subst chosen (sym f) tt
    ]
fit-left n blade (M owner) lt = tt

pub holders-fit : (n : ℕ) (state : State) → IsFitState n state → holders state < 2 ^ n
holders-fit n I h = pow_pos n
holders-fit n (S sharers) h = h.1
holders-fit n (M owner) h = power-fits n owner h

-- the state of an entry in which nobody is idle names somebody
pub holders-some : (n : ℕ) (state : State) → IsFitState n state → state ≢ I → holders state ≢ 0
holders-some n I h ne = absurd (ne refl)
holders-some n (S sharers) h ne = h.0
holders-some n (M owner) h ne = power-some owner

-- ---- messages

-- a message to one of the blades of a set
pub told : (plan : RackPlan) (number : ℕ) (range : RangeView) (asked : Option PageView) (blades : ℕ) (ns : List ℕ) → blades < 2 ^ length plan.frames → AsksIn range asked → AllByRecursion (IsSendable plan) (map (λ cast. to_blade cast.blade (Inv number range asked)) (map cast_to (filter (has_blade blades) ns)))
told plan number range asked blades [] lt h = tt
told plan number range asked blades (n ∷ ns) lt h =
    let chosen = λ (b : Bool). AllByRecursion (IsSendable plan) (map (λ cast. to_blade cast.blade (Inv number range asked)) (map cast_to (cond b (n ∷ filter (has_blade blades) ns) (filter (has_blade blades) ns)))) in
    let rest = told plan number range asked blades ns lt h in
    elim (cases_Bool (has_blade blades n)) [
      | inl t ↦ subst chosen (sym t) (record { link = has_blade-below (length plan.frames) blades n lt t; fields = h }, rest)
      | inr f ↦ subst chosen (sym f) rest
    ]

pub invalidations-sendable : (plan : RackPlan) (number : ℕ) (range : RangeView) (asked : Option PageView) (blades : ℕ) → blades < 2 ^ length plan.frames → AsksIn range asked → AllByRecursion (IsSendable plan) (invalidations number range asked blades)
unfolding casts_of
invalidations-sendable plan number range asked blades lt h = told plan number range asked blades (range_with_len 0 8) lt h

read-sendable : (plan : RackPlan) (r : Request) (place : Option (ℕ × ℕ)) → r.blade < 8 → IfSome place (λ p. p.0 < length plan.memories) → AllByRecursion (IsSendable plan) (reading r place)
read-sendable plan r None b h = tt
read-sendable plan r (Some place) b h = (record { link = h; fields = b }, tt)

pub place-in-rack : (s : SwitchView) (page : PageView) → IsSwitch s → IfSome (place_in s page) (λ p. p.0 < length s.plan.memories)
place-in-rack s page h =
    let same : s.table.homes ≡ s.plan.memories = h.homes in
    let within = place-within s.plan.memories s.table.outliers page h.outliers in
    subst (λ ms. IfSome (place_among ms s.table.outliers page) (λ p. p.0 < length s.plan.memories)) (sym same) within

-- ---- the switch after changes of its entries and requests

-- a transition of the entry waits for somebody
abbrev pub Waits : Entry → Type 0
Waits entry = is_answered entry.busy ≡ false

some-waits : (blades : ℕ) → blades ≢ 0 → (blades == 0) ≡ false
some-waits blades some = grind arith

waits-state : (s : SwitchView) (i : ℕ) (state : State) (entry : Entry) → IsSwitch s → slice_get s.directory.entries i ≡ Some entry → AllByRecursion Waits (changed_at i (in_state state) s.directory.entries)
waits-state s i state entry h found =
    all-changed Waits i (in_state state) s.directory.entries entry found h.waits (all-at Waits s.directory.entries i entry h.waits found)

pub waits-busy : (s : SwitchView) (i : ℕ) (entry : Entry) (busy : Busy) → IsSwitch s → slice_get s.directory.entries i ≡ Some entry → busy.waiting ≢ 0 → AllByRecursion Waits (changed_at i (with_busy (Some busy)) s.directory.entries)
waits-busy s i entry busy h found some =
    all-changed Waits i (with_busy (Some busy)) s.directory.entries entry found h.waits (some-waits busy.waiting some)

pub switch-requests : (s : SwitchView) (rs : List Request) → IsSwitch s → AllByRecursion (IsFitRequest (length s.plan.frames)) rs → IsSwitch (with_requests s rs)
switch-requests s rs h k = record { plan = h.plan; homes = h.homes; outliers = h.outliers; slots = h.slots; fits = h.fits; entries = h.entries; waits = h.waits; requests = k }

pub switch-entries : (s : SwitchView) (es : List Entry) (last : ℕ) → IsSwitch s → length es ≤ s.directory.slots → AllByRecursion (IsFitEntry (length s.plan.frames)) es → AllByRecursion Waits es → IsSwitch (record (with_entries s es) { last = last })
switch-entries s es last h le k w = record { plan = h.plan; homes = h.homes; outliers = h.outliers; slots = h.slots; fits = le; entries = k; waits = w; requests = h.requests }

-- the entries still fit into the slots
pub count-changed : (s : SwitchView) (i : ℕ) (change : Entry → Entry) → IsSwitch s → length (changed_at i change s.directory.entries) ≤ s.directory.slots
count-changed s i change h = omega (arith, length-changed i change s.directory.entries, h.fits)

count-entered : (s : SwitchView) (range : RangeView) → length s.directory.entries < s.directory.slots → length (insert s.directory.entries (entry_place s.directory.entries range) (fresh_entry range)) ≤ s.directory.slots
count-entered s range space =
    omega (arith, length-insert s.directory.entries (entry_place s.directory.entries range) (fresh_entry range) (count_by-le-length (λ entry. is_before entry.range range) s.directory.entries), space)

count-dropped : (s : SwitchView) (i : ℕ) (entry : Entry) → IsSwitch s → slice_get s.directory.entries i ≡ Some entry → length (remove s.directory.entries i) ≤ s.directory.slots
count-dropped s i entry h found =
    omega (arith, length-remove s.directory.entries i (slice_get_within s.directory.entries i entry found), h.fits)

fit-state : (n : ℕ) (state : State) (e : Entry) → IsFitEntry n e → IsFitState n state → IsFitEntry n (in_state state e)
fit-state n state e h k = record { state = k; target = h.target }

fit-busy : (n : ℕ) (busy : Busy) (e : Entry) → IsFitEntry n e → IsFitState n busy.target → IsFitEntry n (with_busy (Some busy) e)
fit-busy n busy e h k = record { state = h.state; target = k }

pub entries-granted : (s : SwitchView) (r : Request) (at i : ℕ) (entry : Entry) → IsSwitch s → slice_get s.requests at ≡ Some r → slice_get s.directory.entries i ≡ Some entry → AllByRecursion (IsFitEntry (length s.plan.frames)) (changed_at i (in_state (granted_state r.write r.blade entry.state)) s.directory.entries)
entries-granted s r at i entry h place found =
    let n = length s.plan.frames in
    let blade : r.blade < n = (all-at (IsFitRequest n) s.requests at r h.requests place).blade in
    let old : IsFitEntry n entry = all-at (IsFitEntry n) s.directory.entries i entry h.entries found in
    let state : IsFitState n (granted_state r.write r.blade entry.state) = fit-granted n r.write r.blade entry.state blade old.state in
    all-changed (IsFitEntry n) i (in_state (granted_state r.write r.blade entry.state)) s.directory.entries entry found h.entries (fit-state n (granted_state r.write r.blade entry.state) entry old state)

pub requests-granted : (s : SwitchView) (r : Request) (at : ℕ) → IsSwitch s → slice_get s.requests at ≡ Some r → AllByRecursion (IsFitRequest (length s.plan.frames)) (fetching_at s.requests at)
requests-granted s r at h place =
    let n = length s.plan.frames in
    let old : IsFitRequest n r = all-at (IsFitRequest n) s.requests at r h.requests place in
    all-fetching (IsFitRequest n) s.requests at r place h.requests (record { blade = old.blade })

pub entries-busy : (s : SwitchView) (i : ℕ) (entry : Entry) (busy : Busy) → IsSwitch s → slice_get s.directory.entries i ≡ Some entry → IsFitState (length s.plan.frames) busy.target → AllByRecursion (IsFitEntry (length s.plan.frames)) (changed_at i (with_busy (Some busy)) s.directory.entries)
entries-busy s i entry busy h found target =
    let n = length s.plan.frames in
    let old : IsFitEntry n entry = all-at (IsFitEntry n) s.directory.entries i entry h.entries found in
    all-changed (IsFitEntry n) i (with_busy (Some busy)) s.directory.entries entry found h.entries (fit-busy n busy entry old target)

-- ---- each change

pub safe-denied : (s : SwitchView) (r : Request) (at : ℕ) → IsSwitch s → slice_get s.requests at ≡ Some r → Safe s (denied_request r s)
safe-denied s r at h place =
    let n = length s.plan.frames in
    let blade : r.blade < n = (all-at (IsFitRequest n) s.requests at r h.requests place).blade in
    record {
      switch = switch-requests s (without_request r s.requests) h (all-filter (IsFitRequest n) _ s.requests h.requests);
      sendable = (record { link = blade; fields = tt }, tt);
      stays = record { plan = refl; slots = refl; numbers = refl };
      allowed = all-filter (IsAllowed s) _ s.requests;
    }

pub less-denied : (s : SwitchView) (r : Request) (at : ℕ) → slice_get s.requests at ≡ Some r → r.fetching ≡ false → left_to_do (denied_request r s).switch < left_to_do s
less-denied s r at place waits = omega (arith, waiting-without s.requests at r place waits)

granted-switch : (s : SwitchView) (r : Request) (at i : ℕ) (entry : Entry) → IsSwitch s → slice_get s.requests at ≡ Some r → slice_get s.directory.entries i ≡ Some entry → IsSwitch (granted r at i entry s).switch
granted-switch s r at i entry h place found = record {
  plan = h.plan;
  homes = h.homes;
  outliers = h.outliers;
  slots = h.slots;
  fits = count-changed s i (in_state (granted_state r.write r.blade entry.state)) h;
  entries = entries-granted s r at i entry h place found;
  waits = waits-state s i (granted_state r.write r.blade entry.state) entry h found;
  requests = requests-granted s r at h place;
}

pub safe-granted : (s : SwitchView) (r : Request) (at i : ℕ) (entry : Entry) → IsSwitch s → slice_get s.requests at ≡ Some r → allows r.write (permission_at s.protect r.page) ≡ true → slice_get s.directory.entries i ≡ Some entry → Safe s (granted r at i entry s)
safe-granted s r at i entry h place allowed found =
    let n = length s.plan.frames in
    let blade : r.blade < n = (all-at (IsFitRequest n) s.requests at r h.requests place).blade in
    let few : r.blade < 8 = omega (arith, blade, h.plan.blades.1) in
    record {
      switch = granted-switch s r at i entry h place found;
      sendable = read-sendable s.plan r (place_in s r.page) few (place-in-rack s r.page h);
      stays = record { plan = refl; slots = refl; numbers = ap (λ n. s.last + n) (sym (under-state s.directory.entries i (granted_state r.write r.blade entry.state))) };
      allowed = λ all. all-fetching (IsAllowed s) s.requests at r place all (λ t. allowed);
    }

pub less-granted : (s : SwitchView) (r : Request) (at i : ℕ) (entry : Entry) → slice_get s.requests at ≡ Some r → r.fetching ≡ false → left_to_do (granted r at i entry s).switch + 2 ≡ left_to_do s
less-granted s r at i entry place waits =
    omega (arith, waiting-fetching s.requests at r place waits, idle-state s.directory.entries i (granted_state r.write r.blade entry.state))

pub safe-begun : (s : SwitchView) (i : ℕ) (entry : Entry) (busy : Busy) (messages : List (LinkName × Msg)) → IsSwitch s → slice_get s.directory.entries i ≡ Some entry → entry.busy ≡ None → IsFitState (length s.plan.frames) busy.target → busy.waiting ≢ 0 → busy.number ≡ s.last + 1 → AllByRecursion (IsSendable s.plan) messages → Safe s (with_transition i busy messages s)
safe-begun s i entry busy messages h found idle target some number sendable = record {
  switch = switch-entries s (changed_at i (with_busy (Some busy)) s.directory.entries) busy.number h (count-changed s i (with_busy (Some busy)) h) (entries-busy s i entry busy h found target) (waits-busy s i entry busy h found some);
  sendable = sendable;
  stays = record { plan = refl; slots = refl; numbers = omega (arith, number, under-busy s.directory.entries i entry busy found idle) };
  allowed = λ all. all;
}

pub less-begun : (s : SwitchView) (i : ℕ) (entry : Entry) (busy : Busy) (messages : List (LinkName × Msg)) → slice_get s.directory.entries i ≡ Some entry → entry.busy ≡ None → left_to_do (with_transition i busy messages s).switch < left_to_do s
less-begun s i entry busy messages found idle = omega (arith, idle-busy s.directory.entries i entry busy found idle)

pub less-cleared : (s : SwitchView) (i : ℕ) (entry : Entry) → slice_get s.directory.entries i ≡ Some entry → entry.busy ≡ None → left_to_do (cleared i entry s).switch < left_to_do s
less-cleared s i entry found idle =
    less-begun s i entry (record { number = s.last + 1; waiting = holders entry.state; target = I; for_room = true }) [] found idle

pub less-invalidated : (s : SwitchView) (r : Request) (i : ℕ) (entry : Entry) → slice_get s.directory.entries i ≡ Some entry → entry.busy ≡ None → left_to_do (invalidated r i entry s).switch < left_to_do s
less-invalidated s r i entry found idle =
    less-begun s i entry (record { number = s.last + 1; waiting = without_blade (holders entry.state) r.blade; target = left_to r.blade entry.state; for_room = false }) [] found idle

pub less-lowered : (s : SwitchView) (r : Request) (owner i : ℕ) (entry : Entry) → slice_get s.directory.entries i ≡ Some entry → entry.busy ≡ None → left_to_do (lowered r owner i entry s).switch < left_to_do s
less-lowered s r owner i entry found idle =
    less-begun s i entry (record { number = s.last + 1; waiting = 2 ^ owner; target = S (2 ^ owner); for_room = false }) [] found idle

held : (s : SwitchView) (i : ℕ) (entry : Entry) → IsSwitch s → slice_get s.directory.entries i ≡ Some entry → holders entry.state < 2 ^ length s.plan.frames
held s i entry h found =
    holders-fit (length s.plan.frames) entry.state (all-at (IsFitEntry (length s.plan.frames)) s.directory.entries i entry h.entries found).state

pub safe-cleared : (s : SwitchView) (i : ℕ) (entry : Entry) → IsSwitch s → slice_get s.directory.entries i ≡ Some entry → entry.busy ≡ None → holders entry.state ≢ 0 → Safe s (cleared i entry s)
safe-cleared s i entry h found idle some =
    safe-begun s i entry _ _ h found idle tt some refl
    (invalidations-sendable s.plan (s.last + 1) entry.range None (holders entry.state) (held s i entry h found) tt)

pub safe-invalidated : (s : SwitchView) (r : Request) (at i : ℕ) (entry : Entry) → IsSwitch s → slice_get s.requests at ≡ Some r → slice_get s.directory.entries i ≡ Some entry → entry.busy ≡ None → InRange entry.range r.page → without_blade (holders entry.state) r.blade ≢ 0 → Safe s (invalidated r i entry s)
safe-invalidated s r at i entry h place found idle has some =
    let n = length s.plan.frames in
    let blade : r.blade < n = (all-at (IsFitRequest n) s.requests at r h.requests place).blade in
    let few : without_blade (holders entry.state) r.blade < 2 ^ n = omega (arith, without-le (holders entry.state) r.blade, held s i entry h found) in
    safe-begun s i entry _ _ h found idle (fit-left n r.blade entry.state blade) some refl
    (invalidations-sendable s.plan (s.last + 1) entry.range (Some r.page) (without_blade (holders entry.state) r.blade) few has)

pub safe-lowered : (s : SwitchView) (r : Request) (owner i : ℕ) (entry : Entry) → IsSwitch s → slice_get s.directory.entries i ≡ Some entry → entry.busy ≡ None → owner < length s.plan.frames → InRange entry.range r.page → Safe s (lowered r owner i entry s)
safe-lowered s r owner i entry h found idle lt has =
    safe-begun s i entry _ _ h found idle (power-some owner, power-fits (length s.plan.frames) owner lt) (power-some owner) refl
    (record { link = lt; fields = has }, tt)

pub safe-entered : (s : SwitchView) (range : RangeView) → IsSwitch s → length s.directory.entries < s.directory.slots → Safe s (entered range s)
safe-entered s range h space = record {
  switch = switch-entries s _ s.last h (count-entered s range space) (all-insert (IsFitEntry (length s.plan.frames)) s.directory.entries (entry_place s.directory.entries range) (fresh_entry range) h.entries (record { state = tt; target = tt }))
      (all-insert Waits s.directory.entries (entry_place s.directory.entries range) (fresh_entry range) h.waits refl);
  sendable = tt;
  stays = record { plan = refl; slots = refl; numbers = ap (λ n. s.last + n) (sym (under-insert s.directory.entries (entry_place s.directory.entries range) (fresh_entry range) refl)) };
  allowed = λ all. all;
}

pub more-entered : (s : SwitchView) (range : RangeView) → left_to_do (entered range s).switch ≡ left_to_do s + 1
more-entered s range = omega (arith, idle-insert s.directory.entries (entry_place s.directory.entries range) (fresh_entry range) refl)

pub safe-dropped : (s : SwitchView) (i : ℕ) (entry : Entry) → IsSwitch s → slice_get s.directory.entries i ≡ Some entry → entry.busy ≡ None → Safe s (dropped i entry s)
safe-dropped s i entry h found idle = record {
  switch = switch-entries s _ s.last h (count-dropped s i entry h found) (all-remove (IsFitEntry (length s.plan.frames)) s.directory.entries i h.entries) (all-remove Waits s.directory.entries i h.waits);
  sendable = tt;
  stays = record { plan = refl; slots = refl; numbers = ap (λ n. s.last + n) (sym (under-remove s.directory.entries i entry found idle)) };
  allowed = λ all. all;
}

pub less-dropped : (s : SwitchView) (i : ℕ) (entry : Entry) → slice_get s.directory.entries i ≡ Some entry → entry.busy ≡ None → left_to_do (dropped i entry s).switch + 1 ≡ left_to_do s
less-dropped s i entry found idle = omega (arith, idle-remove s.directory.entries i entry found idle)

-- the same for a directory and requests that equal those of the grant
pub switch-granted : (s : SwitchView) (r : Request) (at i : ℕ) (entry : Entry) (state : State) (d : DirectoryView) (rs : List Request) → IsSwitch s → slice_get s.requests at ≡ Some r → slice_get s.directory.entries i ≡ Some entry → state ≡ granted_state r.write r.blade entry.state → d ≡ record s.directory { entries = changed_at i (in_state state) s.directory.entries } → rs ≡ fetching_at s.requests at → IsSwitch (record s { directory = d; requests = rs })
switch-granted s r at i entry state d rs h place found e f g =
    let same : d ≡ record s.directory { entries = changed_at i (in_state (granted_state r.write r.blade entry.state)) s.directory.entries } =
    f ∙ ap (λ (x : State). record s.directory { entries = changed_at i (in_state x) s.directory.entries }) e in
    let whole : IsSwitch (granted r at i entry s).switch = granted-switch s r at i entry h place found in
    subst (λ (x : List Request). IsSwitch (record s { directory = d; requests = x })) (sym g)
    (subst (λ (x : DirectoryView). IsSwitch (record s { directory = x; requests = fetching_at s.requests at })) (sym same) whole)

-- what fits fewer blades fits eight
pub fit-eight : (n : ℕ) (state : State) → n ≤ 8 → IsFitState n state → IsFitState 8 state
fit-eight n I le h = tt
fit-eight n (S sharers) le h = let p : 2 ^ n ≤ 2 ^ 8 = pow_mono le in (h.0, omega (arith, h.1, p))
fit-eight n (M owner) le h = omega (arith, h)
