-- A pass over requests where nothing is under way does something for the first of them.
use Rattle.std.proofs.Common.{◌≡◌, refl, sym, ◌∙◌, ap, subst, ℕ, ◌+◌, ◌<◌, ◌≤◌, ◌==◌, Bool, true, false, List, [], ◌∷◌, length, suc, arith, Option, Some, None, get_or, not, ◌||◌, ◌&&◌}
use Rattle.std.specs.Prelude.{if◌then◌else◌, slice_get, position, is_some, is_none, option_map, unwrap_or}
use Rattle.std.specs.List.{list_any}
use Rattle.std.proofs.lemmas.Bool.{eqb-true, false≢true, not-false}
use Rattle.std.proofs.lemmas.List.{length-append}
use Rattle.std.proofs.lemmas.List.Quantifiers.{position-Some}
use Rattle.std.proofs.lemmas.Option.{none-some, slice_get-get_or}
use Rattle.mind_base.specs.Page.{PageView}
use Rattle.mind_base.specs.Range.{RangeView, in_range}
use Rattle.mind_base.specs.declared.notes.State.{State}
use Rattle.mind_base.specs.declared.notes.State.TheVariants.{I, S, M}
use Rattle.mind_base.specs.Permission.{allows}
use Rattle.protect_table.specs.Protect.{permission_at}
use Rattle.region_directory.specs.Entry.{entry_place, fresh_entry}
use Rattle.region_directory.specs.Room.{first_rule, is_droppable, is_evictable, is_for_room, room_of}
use Rattle.region_directory.specs.declared.entries.Entry.{Entry}
use Rattle.region_directory.specs.declared.rooms.Room.TheVariants.{Drop, Evict}
use Rattle.request_list.specs.Requests.{fetched_pages}
use Rattle.request_list.specs.declared.requests.Request.{Request}
use Rattle.switch_core.specs.Deeds.{SwitchDeed, DeniesRequest, GrantsRequest, BeginsTransition, EntersBlock, DropsEntry, MayDo, after_deed}
use Rattle.switch_core.specs.Serving.{treated_if, treated_next, over, first_pass, one_pass, IsServed}
use Rattle.switch_core.specs.Switch.{SwitchView, SwitchEffect, place_in, only, and_then}
use Rattle.switch_core.specs.Treating.{Pass, waits, blocks, does, grants, granted_state, is_denied, denied_request, noted_change, reading, granted, invalidated, lowered, changed_for, cleared, entered, dropped, new_range, is_fetched, with_idle, with_entry, at_entry, enters, with_room, without_entry, entry_for, for_entry, treated}
use Rattle.switch_core.proofs.Callers.{IsKeptByDeeds, deeds-kept, enters-is, no-deeds, over-deeds}
use Rattle.rack_core.proofs.Moves.Switch.Lookups.{position-here}

-- ---- how much was done

-- the messages sent, the notes made, and the transitions begun up to now
abbrev pub much : SwitchEffect → ℕ
much done = length done.sent + length done.noted + done.switch.last

-- a change does something: it sends, notes, or begins a transition
abbrev pub Does : SwitchView → SwitchEffect → Type 0
Does switch e = switch.last < much e

then-more : (done : SwitchEffect) (change : SwitchView → SwitchEffect) → Does done.switch (change done.switch) → much done < much (and_then done change)
then-more done change lt =
    let sent = length-append done.sent (change done.switch).sent in
    let noted = length-append done.noted (change done.switch).noted in
    omega (arith, lt, sent, noted)

then-keeps : (done : SwitchEffect) (change : SwitchView → SwitchEffect) → done.switch.last ≤ much (change done.switch) → much done ≤ much (and_then done change)
then-keeps done change le =
    let sent = length-append done.sent (change done.switch).sent in
    let noted = length-append done.noted (change done.switch).noted in
    omega (arith, le, sent, noted)

-- ---- one of two

-- what holds of each where it is the one holds of the one that is chosen
chosen-if : {X : Type 0} (P : X → Type 0) (b : Bool) (x y : X) → (b ≡ true → P x) → (b ≡ false → P y) → P (if b then x else y)
chosen-if P true x y p q = p refl
chosen-if P false x y p q = q refl

-- ---- what is done in a pass is done for good

-- so much was done at least
abbrev pub AtLeast : ℕ → Pass → Type 0
AtLeast n pass = n ≤ much pass.done

-- serving takes nothing back
serving-keeps : IsKeptByDeeds (λ (switch : SwitchView). switch.last) (λ n done. n ≤ much done)
serving-keeps = record {
  nothing = λ switch. omega arith;
  follows = λ n first next was more. let all = then-keeps first next more in omega (arith, all, was);
  each = each;
} where
  each : (deed : SwitchDeed) (switch : SwitchView) → MayDo deed switch → switch.last ≤ much (after_deed deed switch)
  each (DeniesRequest r at) switch may = omega arith
  each (GrantsRequest r at i entry) switch may = omega arith
  each (BeginsTransition purpose i entry) switch may = omega arith
  each (EntersBlock page) switch may = omega arith
  each (DropsEntry i entry) switch may = omega arith

-- so what was done is done when more requests are treated
over-keeps : (n left : ℕ) (pass : Pass) → AtLeast n pass → AtLeast n (over left pass)
over-keeps n left pass was = deeds-kept serving-keeps n pass.done (over left pass).done (over-deeds pass.done left pass (no-deeds pass.done)) was

-- an entry that is entered is noted
enters-more : (n : ℕ) (r : Request) (pass : Pass) → AtLeast n pass → AtLeast (suc n) (enters r pass)
enters-more n r pass was =
    let range : RangeView = new_range r.page pass.done.switch in
    let inside : Pass = does (entered range) pass in
    let more : much pass.done < much inside.done = then-more pass.done (entered range) (omega arith) in
    let keeps = then-keeps inside.done (granted r pass.at (entry_place pass.done.switch.directory.entries range) (fresh_entry range)) (omega arith) in
    subst (AtLeast (suc n)) (sym (enters-is r pass)) (omega (arith, more, keeps, was))

-- room for it was made before
dropped-more : (n : ℕ) (r : Request) (i : ℕ) (entry : Entry) (pass : Pass) → AtLeast n pass → AtLeast (suc n) (enters r (does (dropped i entry) pass))
dropped-more n r i entry pass was =
    let keeps = then-keeps pass.done (dropped i entry) (omega arith) in
    enters-more n r (does (dropped i entry) pass) (omega (arith, keeps, was))

cleared-more : (n i : ℕ) (entry : Entry) (pass : Pass) → AtLeast n pass → AtLeast (suc n) (blocks (does (cleared i entry) pass))
cleared-more n i entry pass was = let more = then-more pass.done (cleared i entry) (omega arith) in omega (arith, more, was)

-- ---- the first request

-- No transition is under way and no page is fetched; what is allowed lies somewhere; and there is a slot.
pub record IsStill (switch : SwitchView) : Type 0 where
  pub idle : (i : ℕ) (entry : Entry) → slice_get switch.directory.entries i ≡ Some entry → entry.busy ≡ None
  pub unfetched : fetched_pages switch.requests ≡ []
  pub placed : (write : Bool) (page : PageView) → allows write (permission_at switch.protect page) ≡ true → is_some (place_in switch page) ≡ true
  pub slots : 0 < switch.directory.slots

-- a request that is granted reads its page
granted-more : (n : ℕ) (r : Request) (i : ℕ) (entry : Entry) (pass : Pass) → is_some (place_in pass.done.switch r.page) ≡ true → AtLeast n pass
    → AtLeast (suc n) (waits (does (granted r pass.at i entry) pass))
granted-more n r i entry pass placed was =
    let more = then-more pass.done (granted r pass.at i entry) (by (place_in pass.done.switch r.page) placed) in omega (arith, more, was)
  where
    state : State
    state = granted_state r.write r.blade entry.state

    by : (o : Option (ℕ × ℕ)) → is_some o ≡ true
        → pass.done.switch.last < length (reading r o) + length (noted_change entry.range entry.state state) + pass.done.switch.last
    by None p = let never : ⊥ = cc in absurd never
    by (Some place) p = omega arith

-- where a state does not grant it a transition begins
changed-more : (r : Request) (state : State) (i : ℕ) (entry : Entry) (s : SwitchView) → grants r.write r.blade state ≡ false → Does s (changed_for r state i entry s)
changed-more r I i entry s never = absurd (by r.write never) where
  by : (b : Bool) → grants b r.blade I ≡ false → ⊥
  by true e = false≢true (sym e)
  by false e = false≢true (sym e)
changed-more r (S sharers) i entry s more = omega arith
changed-more r (M owner) i entry s more = by r.write where
  by : (b : Bool) → Does s (if b then invalidated r i entry s else lowered r owner i entry s)
  by true = omega arith
  by false = omega arith

none-fetched : (range : RangeView) (pages : List PageView) → pages ≡ [] → list_any (in_range range) pages ≡ false
none-fetched range pages none = ap (list_any (in_range range)) none

idle-more : (n : ℕ) (r : Request) (i : ℕ) (entry : Entry) (pass : Pass) → IsStill pass.done.switch → is_some (place_in pass.done.switch r.page) ≡ true → AtLeast n pass
    → AtLeast (suc n) (with_idle r i entry pass)
idle-more n r i entry pass still placed was =
    chosen-if (AtLeast (suc n)) (grants r.write r.blade entry.state) _ _ (λ t. granted-more n r i entry pass placed was)
    (λ f. chosen-if (AtLeast (suc n)) (is_fetched entry.range pass.done.switch.requests) _ _
    (λ t. absurd (false≢true (sym (none-fetched entry.range (fetched_pages pass.done.switch.requests) still.unfetched) ∙ t)))
    (λ g. let more = then-more pass.done (changed_for r entry.state i entry) (changed-more r entry.state i entry pass.done.switch f) in omega (arith, more, was)))

found-at : (p : Entry → Bool) (entries : List Entry) (i : ℕ) → position p entries ≡ Some i → (entry : Entry) × (slice_get entries i ≡ Some entry)
found-at p [] i found = absurd (none-some i found)
found-at p (entry ∷ entries) i found = (get_or (entry ∷ entries) i entry, slice_get-get_or (entry ∷ entries) i entry (position-Some p (entry ∷ entries) i entry found).0)

at-more : (n : ℕ) (r : Request) (i : ℕ) (pass : Pass) → IsStill pass.done.switch → is_some (place_in pass.done.switch r.page) ≡ true
    → entry_for r.page pass.done.switch.directory.entries ≡ Some i → AtLeast n pass → AtLeast (suc n) (at_entry r i pass)
at-more n r i pass still placed found was =
    let entry = found-at (λ e. in_range e.range r.page) pass.done.switch.directory.entries i found in
    subst (λ o. AtLeast (suc n) (with_entry r i o pass)) (sym entry.1)
    (subst (λ b. AtLeast (suc n) (if b then with_idle r i entry.0 pass else waits pass)) (sym (ap is_none (still.idle i entry.0 entry.1)))
    (idle-more n r i entry.0 pass still placed was))

-- ---- room in a full directory

-- an entry with no transition may be taken from its holders where nothing is fetched
none-for_room : (entries : List Entry) → ((i : ℕ) (entry : Entry) → slice_get entries i ≡ Some entry → entry.busy ≡ None) → list_any (λ entry. is_for_room entry.busy) entries ≡ false
none-for_room [] idle = refl
none-for_room (entry ∷ entries) idle =
    ap (λ b. b || list_any (λ e. is_for_room e.busy) entries) (ap is_for_room (idle 0 entry refl)) ∙ none-for_room entries (λ i e at. idle (suc i) e at)

first-evictable : (entries : List Entry) → 0 < length entries → ((i : ℕ) (entry : Entry) → slice_get entries i ≡ Some entry → entry.busy ≡ None) → position (is_evictable []) entries ≡ Some 0
first-evictable [] some idle = absurd (omega (arith, some))
first-evictable (entry ∷ entries) some idle =
    position-here (is_evictable []) entry entries (ap (λ b. is_none b && not (list_any (in_range entry.range) [])) (idle 0 entry refl))

drops-more : (n : ℕ) (r : Request) (i : ℕ) (pass : Pass) → position is_droppable pass.done.switch.directory.entries ≡ Some i → AtLeast n pass → AtLeast (suc n) (with_room r (Drop i) pass)
drops-more n r i pass found was =
    let entry = found-at is_droppable pass.done.switch.directory.entries i found in
    subst (λ o. AtLeast (suc n) (unwrap_or (option_map (λ e. enters r (does (dropped i e) pass)) o) (blocks pass))) (sym entry.1) (dropped-more n r i entry.0 pass was)

evicts-more : (n : ℕ) (r : Request) (pass : Pass) → 0 < length pass.done.switch.directory.entries → AtLeast n pass → AtLeast (suc n) (with_room r (Evict 0) pass)
evicts-more n r pass some was = by pass.done.switch.directory.entries some where
  by : (entries : List Entry) → 0 < length entries → AtLeast (suc n) (unwrap_or (option_map (λ e. blocks (does (cleared 0 e) pass)) (slice_get entries 0)) (blocks pass))
  by [] lt = absurd (omega (arith, lt))
  by (entry ∷ entries) lt = cleared-more n 0 entry pass was

room-more : (n : ℕ) (r : Request) (pass : Pass) → IsStill pass.done.switch → 0 < length pass.done.switch.directory.entries → AtLeast n pass
    → AtLeast (suc n) (with_room r (room_of pass.done.switch.directory (fetched_pages pass.done.switch.requests)) pass)
room-more n r pass still some was =
    subst (λ pages. AtLeast (suc n) (with_room r (room_of pass.done.switch.directory pages) pass)) (sym still.unfetched)
    (subst (λ b. AtLeast (suc n) (with_room r (first_rule (position is_droppable entries) b (position (is_evictable []) entries)) pass)) (sym (none-for_room entries still.idle))
    (subst (λ o. AtLeast (suc n) (with_room r (first_rule (position is_droppable entries) false o) pass)) (sym (first-evictable entries some still.idle))
    (by (position is_droppable entries) refl)))
  where
    entries : List Entry
    entries = pass.done.switch.directory.entries

    by : (o : Option ℕ) → position is_droppable entries ≡ o → AtLeast (suc n) (with_room r (first_rule o false (Some 0)) pass)
    by None found = evicts-more n r pass some was
    by (Some i) found = drops-more n r i pass found was

without-more : (n : ℕ) (r : Request) (pass : Pass) → IsStill pass.done.switch → pass.blocked ≡ false → AtLeast n pass → AtLeast (suc n) (without_entry r pass)
without-more n r pass still free was =
    subst (λ b. AtLeast (suc n) (if b then waits pass else rest)) (sym free)
    (chosen-if (AtLeast (suc n)) (length pass.done.switch.directory.entries == pass.done.switch.directory.slots) _ _
    (λ full. room-more n r pass still (let many = eqb-true _ _ full in omega (arith, many, still.slots)) was)
    (λ f. enters-more n r pass was))
  where
    rest : Pass
    rest = if length pass.done.switch.directory.entries == pass.done.switch.directory.slots
        then with_room r (room_of pass.done.switch.directory (fetched_pages pass.done.switch.requests)) pass else enters r pass

-- ---- the request

for-more : (n : ℕ) (r : Request) (pass : Pass) → IsStill pass.done.switch → pass.blocked ≡ false → is_some (place_in pass.done.switch r.page) ≡ true → AtLeast n pass
    → AtLeast (suc n) (for_entry r (entry_for r.page pass.done.switch.directory.entries) pass)
for-more n r pass still free placed was = by (entry_for r.page pass.done.switch.directory.entries) refl where
  by : (o : Option ℕ) → entry_for r.page pass.done.switch.directory.entries ≡ o → AtLeast (suc n) (for_entry r o pass)
  by None found = without-more n r pass still free was
  by (Some i) found = at-more n r i pass still placed found was

treated-more : (n : ℕ) (r : Request) (pass : Pass) → r.fetching ≡ false → IsStill pass.done.switch → pass.blocked ≡ false → AtLeast n pass → AtLeast (suc n) (treated r pass)
treated-more n r pass waiting still free was =
    subst (λ b. AtLeast (suc n) (if b then waits pass else rest)) (sym waiting)
    (chosen-if (AtLeast (suc n)) (is_denied pass.done.switch r) _ _
    (λ t. let more = then-more pass.done (denied_request r) (omega arith) in omega (arith, more, was))
    (λ f. for-more n r pass still free (still.placed r.write r.page (not-false (allows r.write (permission_at pass.done.switch.protect r.page)) f)) was))
  where
    rest : Pass
    rest = if is_denied pass.done.switch r then does (denied_request r) pass else for_entry r (entry_for r.page pass.done.switch.directory.entries) pass

-- A switch that has served, and where nothing is under way, has no request that waits first.
pub none_waits_first : (switch : SwitchView) (r : Request) (rest : List Request) → IsStill switch → IsServed switch → switch.requests ≡ r ∷ rest → r.fetching ≡ false → ⊥
none_waits_first switch r rest still served requests waiting =
    let first : AtLeast (suc switch.last) (treated r (first_pass switch)) = treated-more switch.last r (first_pass switch) waiting still refl (omega arith) in
    let next : AtLeast (suc switch.last) (treated_next (first_pass switch)) =
    subst (λ o. AtLeast (suc switch.last) (treated_if o (first_pass switch))) (sym (ap (λ rs. slice_get rs 0) requests)) first in
    let all : AtLeast (suc switch.last) (over (length switch.requests) (first_pass switch)) =
    subst (λ rs. AtLeast (suc switch.last) (over (length rs) (first_pass switch))) (sym requests) (over-keeps (suc switch.last) (length rest) (treated_next (first_pass switch)) next) in
    let same : much (one_pass switch) ≡ much (only switch) = ap much served in
    let none : much (only switch) ≡ switch.last = omega arith in
    omega (arith, all, same, none)
