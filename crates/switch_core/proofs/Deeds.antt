-- What the switch does when it serves is deeds in a row.
use Rattle.std.proofs.Common.{◌≡◌, ◌∙◌, ℕ, zero, suc, ◌^◌, ◌==◌, Bool, true, false, refl, ap, subst, sym, List, [], ◌∷◌, ◌++◌, length, insert, remove, append-nil, append_assoc, arith, Option, Some, None}
use Rattle.std.specs.Prelude.{if◌then◌else◌, is_none, option_map, slice_get, unwrap_or}
use Rattle.std.specs.List.{All, list_all}
use Rattle.std.proofs.Math.Nat.{mod-le, mod-lt}
use Rattle.std.proofs.lemmas.Bool.{false≢true}
use Rattle.std.proofs.lemmas.Bool.Decides.{nat_tests}
use Rattle.std.proofs.lemmas.List.Edits.{length-remove}
use Rattle.std.proofs.lemmas.List.Sums.{count_by-le-length}
use Rattle.std.proofs.lemmas.Nat.{pow_pos}
use Rattle.std.proofs.lemmas.Option.{same_Some, slice_get_within}
use Rattle.mind_base.specs.Page.{PageView}
use Rattle.mind_base.specs.Range.{RangeView, in_range}
use Rattle.mind_base.specs.declared.links.LinkName.{LinkName}
use Rattle.mind_base.specs.declared.notes.State.{State}
use Rattle.mind_base.specs.declared.notes.State.TheVariants.{I, S, M}
use Rattle.region_directory.specs.Block.{are_apart, block_of, is_before}
use Rattle.region_directory.specs.Entry.{entry_place, fresh_entry, largest_free}
use Rattle.region_directory.specs.Room.{room_of}
use Rattle.region_directory.specs.declared.entries.Entry.{Entry}
use Rattle.region_directory.specs.declared.rooms.Room.{Room}
use Rattle.region_directory.specs.declared.rooms.Room.TheVariants.{Drop, Merge, Evict, Wait}
use Rattle.region_directory.proofs.Callers.{all-fail, test-from_has}
use Rattle.request_list.specs.Requests.{fetched_pages}
use Rattle.request_list.specs.declared.requests.Request.{Request}
use Rattle.wire_msg.specs.declared.msgs.Msg.{Msg}
use Rattle.switch_core.specs.Deeds.{SwitchDeed, MakesRoom, LetsWrite, LetsRead, DeniesRequest, GrantsRequest, BeginsTransition, EntersBlock, DropsEntry, after_deed, after_deeds, IsWaiting, IsIdle, MayDo, MayDoEach, IsDeedsAfter, IsDeedsOf}
use Rattle.switch_core.specs.Handling.{handled_from, Receives}
use Rattle.switch_core.specs.Serving.{treated_if, treated_next, over, first_pass, one_pass, passes}
use Rattle.switch_core.specs.Switch.{SwitchView, SwitchEffect, only, and_then}
use Rattle.switch_core.specs.Treating.{Pass, waits, blocks, does, grants, is_denied, denied_request, granted, changed_for, invalidated, lowered, cleared, is_fetched, with_idle, with_entry, at_entry, entered, new_range, enters, dropped, with_room, without_entry, entry_for, for_entry, treated}
use Rattle.switch_core.proofs.Lists.{insert-at}
use Rattle.switch_core.proofs.Passing.{all-left, dropped-idle, dropped-unheld, evicted-free, evicted-held, evicted-idle, none-of, passed}

-- ---- deeds after deeds

-- an effect with what was sent and noted before
abbrev after : SwitchEffect → SwitchEffect → SwitchEffect
after first e = record { switch = e.switch; sent = first.sent ++ e.sent; noted = first.noted ++ e.noted }

joined : (deeds more : List SwitchDeed) (s : SwitchView) → after_deeds (deeds ++ more) s ≡ and_then (after_deeds deeds s) (after_deeds more)
joined [] more s = refl
joined (deed ∷ deeds) more s =
    let first : SwitchEffect = after_deed deed s in
    let mid : SwitchEffect = after_deeds deeds first.switch in
    let last : SwitchEffect = after_deeds more mid.switch in
    ap (after first) (joined deeds more first.switch)
    ∙ (λ j. record {
      switch = last.switch;
      sent = sym (append_assoc first.sent mid.sent last.sent) j;
      noted = sym (append_assoc first.noted mid.noted last.noted) j;
    })

may-joined : (deeds more : List SwitchDeed) (s : SwitchView) → MayDoEach deeds s → MayDoEach more (after_deeds deeds s).switch → MayDoEach (deeds ++ more) s
may-joined [] more s may later = later
may-joined (deed ∷ deeds) more s may later = (may.0, may-joined deeds more (after_deed deed s).switch may.1 later)

deeds-then : (first done : SwitchEffect) (next : SwitchView → SwitchEffect) → IsDeedsAfter first done → IsDeedsAfter (only done.switch) (next done.switch) → IsDeedsAfter first (and_then done next)
deeds-then first done next one two =
    let mid : SwitchEffect = after_deeds one.deeds first.switch in
    let last : SwitchEffect = after_deeds two.deeds mid.switch in
    record {
      deeds = one.deeds ++ two.deeds;
      done = ap (after done) two.done ∙ ap (λ e. and_then e (after_deeds two.deeds)) one.done
          ∙ (λ j. record { switch = last.switch; sent = append_assoc first.sent mid.sent last.sent j; noted = append_assoc first.noted mid.noted last.noted j })
          ∙ ap (after first) (sym (joined one.deeds two.deeds first.switch));
      may = may-joined one.deeds two.deeds first.switch one.may (subst (λ (e : SwitchEffect). MayDoEach two.deeds e.switch) one.done two.may);
    }

pub no-deeds : (first : SwitchEffect) → IsDeedsAfter first first
no-deeds first = record { deeds = []; done = λ j. record { switch = first.switch; sent = sym (append-nil first.sent) j; noted = sym (append-nil first.noted) j }; may = tt }

-- one more deed
more-deeds : (first done : SwitchEffect) (deed : SwitchDeed) → IsDeedsAfter first done → MayDo deed done.switch → IsDeedsAfter first (and_then done (after_deed deed))
more-deeds first done deed one may =
    let e : SwitchEffect = after_deed deed done.switch in
    deeds-then first done (after_deed deed) one
    (record { deeds = deed ∷ []; done = λ j. record { switch = e.switch; sent = sym (append-nil e.sent) j; noted = sym (append-nil e.noted) j }; may = (may, tt) })

-- ---- an idle entry

-- the request that is treated: it stands at its place, does not fetch yet, and is allowed
record IsTreated (r : Request) (at : ℕ) (s : SwitchView) : Type 0 where
  request : IsWaiting r at s
  allowed : is_denied s r ≡ false

changed-deeds : (first : SwitchEffect) (r : Request) (i : ℕ) (entry : Entry) (pass : Pass) → IsDeedsAfter first pass.done → IsWaiting r pass.at pass.done.switch → IsIdle i entry pass.done.switch → in_range entry.range r.page ≡ true
    → is_fetched entry.range pass.done.switch.requests ≡ false → grants r.write r.blade entry.state ≡ false → IsDeedsAfter first (and_then pass.done (changed_for r entry.state i entry))
changed-deeds first r i entry pass one is idle within still cannot = by entry.state refl cannot where
  to_write : (state : State) → entry.state ≡ state → grants true r.blade state ≡ false → IsDeedsAfter first (and_then pass.done (invalidated r i entry))
  to_write state e f = more-deeds first pass.done (BeginsTransition (LetsWrite r) i entry) one
      (record { idle = idle; unfetched = still; serves = (pass.at, is, within, ap (grants true r.blade) e ∙ f) })

  shared : (write : Bool) (sharers : ℕ) → entry.state ≡ S sharers → grants write r.blade (S sharers) ≡ false → IsDeedsAfter first (and_then pass.done (invalidated r i entry))
  shared true sharers e f = to_write (S sharers) e f
  shared false sharers e f = absurd (false≢true (sym f))

  owned : (write : Bool) (owner : ℕ) → entry.state ≡ M owner → grants write r.blade (M owner) ≡ false
      → IsDeedsAfter first (and_then pass.done (λ v. if write then invalidated r i entry v else lowered r owner i entry v))
  owned true owner e f = to_write (M owner) e f
  owned false owner e f = more-deeds first pass.done (BeginsTransition (LetsRead r owner) i entry) one
      (record { idle = idle; unfetched = still; serves = (pass.at, is, within, e, f) })

  by : (state : State) → entry.state ≡ state → grants r.write r.blade state ≡ false → IsDeedsAfter first (and_then pass.done (changed_for r state i entry))
  by I e f = absurd (never r.write f) where
    never : (write : Bool) → grants write r.blade I ≡ false → ⊥
    never true g = false≢true (sym g)
    never false g = false≢true (sym g)
  by (S sharers) e f = shared r.write sharers e f
  by (M owner) e f = owned r.write owner e f

idle-deeds : (first : SwitchEffect) (r : Request) (i : ℕ) (entry : Entry) (pass : Pass) → IsDeedsAfter first pass.done → IsTreated r pass.at pass.done.switch → IsIdle i entry pass.done.switch → in_range entry.range r.page ≡ true
    → IsDeedsAfter first (with_idle r i entry pass).done
idle-deeds first r i entry pass one is idle within = by (grants r.write r.blade entry.state) refl (is_fetched entry.range pass.done.switch.requests) refl where
  by : (b : Bool) → grants r.write r.blade entry.state ≡ b → (c : Bool) → is_fetched entry.range pass.done.switch.requests ≡ c
      → IsDeedsAfter first (if b then waits (does (granted r pass.at i entry) pass) else (if c then waits pass else waits (does (changed_for r entry.state i entry) pass))).done
  by true e c f = more-deeds first pass.done (GrantsRequest r pass.at i entry) one
      (record { request = is.request; allowed = is.allowed; idle = idle; within = within; grants = e })
  by false e true f = one
  by false e false f = changed-deeds first r i entry pass one is.request idle within f e

-- ---- an entry that has the page

at-deeds : (first : SwitchEffect) (r : Request) (i : ℕ) (pass : Pass) → IsDeedsAfter first pass.done → IsTreated r pass.at pass.done.switch
    → ((entry : Entry) → slice_get pass.done.switch.directory.entries i ≡ Some entry → in_range entry.range r.page ≡ true) → IsDeedsAfter first (at_entry r i pass).done
at-deeds first r i pass one is within = by (slice_get pass.done.switch.directory.entries i) refl where
  by_busy : (entry : Entry) → slice_get pass.done.switch.directory.entries i ≡ Some entry → (b : Bool) → is_none entry.busy ≡ b
      → IsDeedsAfter first (if b then with_idle r i entry pass else waits pass).done
  by_busy entry at true e = idle-deeds first r i entry pass one is (record { found = at; idle = none-of entry.busy e }) (within entry at)
  by_busy entry at false e = one

  by : (o : Option Entry) → slice_get pass.done.switch.directory.entries i ≡ o → IsDeedsAfter first (with_entry r i o pass).done
  by None at = one
  by (Some entry) at = by_busy entry at (is_none entry.busy) refl

-- ---- a request whose page has none

abbrev NoneHas : PageView → List Entry → Type 0
NoneHas page es = All (λ e. in_range e.range page ≡ false) es

-- a new entry has the page that it is for
block-has : (page : PageView) (log : ℕ) → in_range (block_of page log) page ≡ true
block-has page log =
    let le = mod-le page.number (2 ^ log) in
    let lt = mod-lt page.number (pow_pos log) in
    test-from_has (block_of page log) page (record { domain = refl; from = omega arith; below = omega (arith, le, lt) })

free-has : (es : List Entry) (page : PageView) (log : ℕ) → in_range (largest_free es page log) page ≡ true
free-has es page zero = block-has page 0
free-has es page (suc log) = by (list_all (λ e. are_apart e.range (block_of page (suc log))) es) (free-has es page log) where
  by : (b : Bool) → in_range (largest_free es page log) page ≡ true → in_range (if b then block_of page (suc log) else largest_free es page log) page ≡ true
  by true rest = block-has page (suc log)
  by false rest = rest

new-deeds : (first : SwitchEffect) (r : Request) (pass : Pass) → IsDeedsAfter first pass.done → IsTreated r pass.at pass.done.switch → NoneHas r.page pass.done.switch.directory.entries
    → (length pass.done.switch.directory.entries == pass.done.switch.directory.slots) ≡ false → IsDeedsAfter first (enters r pass).done
new-deeds first r pass one is none short =
    let es : List Entry = pass.done.switch.directory.entries in
    let range : RangeView = new_range r.page pass.done.switch in
    let there : slice_get (insert es (entry_place es range) (fresh_entry range)) (entry_place es range) ≡ Some (fresh_entry range) =
    insert-at es (entry_place es range) (fresh_entry range) (count_by-le-length (λ e. is_before e.range range) es) in
    at-deeds first r (entry_place es range) (does (entered range) pass) (more-deeds first pass.done (EntersBlock r.page) one (record { none = none; room = short }))
    (record { request = record { stands = is.request.stands; waiting = is.request.waiting }; allowed = is.allowed })
    (λ entry at. subst (λ (e : Entry). in_range e.range r.page ≡ true) (same_Some (fresh_entry range) entry (sym there ∙ at)) (free-has es r.page pass.done.switch.plan.region))

-- where one of as many entries as slots is dropped, there is room
shorter : (es : List Entry) (slots i : ℕ) (entry : Entry) → slice_get es i ≡ Some entry → (length es == slots) ≡ true → (length (remove es i) == slots) ≡ false
shorter es slots i entry at full =
    let fewer = length-remove es i (slice_get_within es i entry at) in
    grind (arith, nat_tests, fewer, full)

room-deeds : (first : SwitchEffect) (r : Request) (pass : Pass) → IsDeedsAfter first pass.done → IsTreated r pass.at pass.done.switch → NoneHas r.page pass.done.switch.directory.entries
    → (length pass.done.switch.directory.entries == pass.done.switch.directory.slots) ≡ true
    → (room : Room) → room_of pass.done.switch.directory (fetched_pages pass.done.switch.requests) ≡ room → IsDeedsAfter first (with_room r room pass).done
room-deeds first r pass one is none full (Drop i) room = by (slice_get pass.done.switch.directory.entries i) refl where
  pages : List PageView
  pages = fetched_pages pass.done.switch.requests

  by : (o : Option Entry) → slice_get pass.done.switch.directory.entries i ≡ o
      → IsDeedsAfter first (unwrap_or (option_map (λ entry. enters r (does (dropped i entry) pass)) o) (blocks pass)).done
  by None at = one
  by (Some entry) at =
      new-deeds first r (does (dropped i entry) pass)
      (more-deeds first pass.done (DropsEntry i entry) one (record {
        idle = record { found = at; idle = dropped-idle pass.done.switch.directory pages i entry room at };
        unheld = dropped-unheld pass.done.switch.directory pages i entry room at;
      }))
      (record { request = record { stands = is.request.stands; waiting = is.request.waiting }; allowed = is.allowed })
      (all-left (λ e. in_range e.range r.page ≡ false) pass.done.switch.directory.entries i none)
      (shorter pass.done.switch.directory.entries pass.done.switch.directory.slots i entry at full)
room-deeds first r pass one is none full (Merge i) room = one
room-deeds first r pass one is none full (Evict i) room = by (slice_get pass.done.switch.directory.entries i) refl where
  pages : List PageView
  pages = fetched_pages pass.done.switch.requests

  by : (o : Option Entry) → slice_get pass.done.switch.directory.entries i ≡ o
      → IsDeedsAfter first (unwrap_or (option_map (λ entry. blocks (does (cleared i entry) pass)) o) (blocks pass)).done
  by None at = one
  by (Some entry) at = more-deeds first pass.done (BeginsTransition MakesRoom i entry) one (record {
    idle = record { found = at; idle = evicted-idle pass.done.switch.directory pages i entry room at };
    unfetched = evicted-free pass.done.switch.directory pages i entry room at;
    serves = evicted-held pass.done.switch.directory pages i entry room at;
  })
room-deeds first r pass one is none full Wait room = one

without-deeds : (first : SwitchEffect) (r : Request) (pass : Pass) → IsDeedsAfter first pass.done → IsTreated r pass.at pass.done.switch → NoneHas r.page pass.done.switch.directory.entries → IsDeedsAfter first (without_entry r pass).done
without-deeds first r pass one is none = by pass.blocked (length pass.done.switch.directory.entries == pass.done.switch.directory.slots) refl where
  room : Room
  room = room_of pass.done.switch.directory (fetched_pages pass.done.switch.requests)

  by : (b c : Bool) → (length pass.done.switch.directory.entries == pass.done.switch.directory.slots) ≡ c
      → IsDeedsAfter first (if b then waits pass else (if c then with_room r room pass else enters r pass)).done
  by true c e = one
  by false true e = room-deeds first r pass one is none e room refl
  by false false e = new-deeds first r pass one is none e

-- ---- the request

treated-deeds : (first : SwitchEffect) (r : Request) (pass : Pass) → IsDeedsAfter first pass.done → slice_get pass.done.switch.requests pass.at ≡ Some r → IsDeedsAfter first (treated r pass).done
treated-deeds first r pass one stands = by r.fetching refl (is_denied pass.done.switch r) refl where
  by_entry : IsTreated r pass.at pass.done.switch → (o : Option ℕ) → entry_for r.page pass.done.switch.directory.entries ≡ o → IsDeedsAfter first (for_entry r o pass).done
  by_entry is None e = without-deeds first r pass one is (all-fail (λ x. in_range x.range r.page) pass.done.switch.directory.entries e)
  by_entry is (Some i) e = at-deeds first r i pass one is (λ entry at. passed (λ x. in_range x.range r.page) pass.done.switch.directory.entries i entry e at)

  by : (b : Bool) → r.fetching ≡ b → (c : Bool) → is_denied pass.done.switch r ≡ c
      → IsDeedsAfter first (if b then waits pass else (if c then does (denied_request r) pass else for_entry r (entry_for r.page pass.done.switch.directory.entries) pass)).done
  by true e c f = one
  by false e true f = more-deeds first pass.done (DeniesRequest r pass.at) one (record { request = record { stands = stands; waiting = e }; denied = f })
  by false e false f = by_entry (record { request = record { stands = stands; waiting = e }; allowed = f }) (entry_for r.page pass.done.switch.directory.entries) refl

-- ---- the switch serves

next-deeds : (first : SwitchEffect) (pass : Pass) → IsDeedsAfter first pass.done → IsDeedsAfter first (treated_next pass).done
next-deeds first pass one = by (slice_get pass.done.switch.requests pass.at) refl where
  by : (o : Option Request) → slice_get pass.done.switch.requests pass.at ≡ o → IsDeedsAfter first (treated_if o pass).done
  by None at = one
  by (Some r) at = treated-deeds first r pass one at

pub over-deeds : (first : SwitchEffect) (left : ℕ) (pass : Pass) → IsDeedsAfter first pass.done → IsDeedsAfter first (over left pass).done
over-deeds first zero pass one = one
over-deeds first (suc left) pass one = over-deeds first left (treated_next pass) (next-deeds first pass one)

pass-deeds : (s : SwitchView) → IsDeedsAfter (only s) (one_pass s)
pass-deeds s = over-deeds (only s) (length s.requests) (first_pass s) (no-deeds (only s))

passes-deeds : (first : SwitchEffect) (n : ℕ) (done : SwitchEffect) → IsDeedsAfter first done → IsDeedsAfter first (passes n done)
passes-deeds first zero done one = one
passes-deeds first (suc n) done one = passes-deeds first n (and_then done one_pass) (deeds-then first done one_pass one (pass-deeds done.switch))

-- What the switch does with a message is what the message itself does, and then deeds that may be done.
pub receives-deeds : (link : LinkName) (message : Msg) (switch : SwitchView) (effect : SwitchEffect) → Receives link message switch effect → IsDeedsOf link message switch effect
receives-deeds link message switch effect receives =
    let first : SwitchEffect = handled_from link.kind link.number message switch in
    subst (IsDeedsAfter first) (sym receives.1) (passes-deeds first receives.0 first (no-deeds first))
