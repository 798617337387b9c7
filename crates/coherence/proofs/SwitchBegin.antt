-- A transition that is begun keeps all that is true.
use Rattle.std.proofs.Common.{◌≡◌, ◌⊎◌, inl, inr, refl, sym, ℕ, ◌+◌, ◌==◌, Bool, true, false, List, [], ◌∷◌, ◌++◌, Option, Some, None, IfSome, subst, ap, arith, ◌∙◌, eq-eqb, pow_pos, ◌||◌, ◌≤◌}
use Rattle.std.specs.Prelude.{if◌then◌else◌}
use Rattle.std.proofs.lemmas.Bool.{and_parts, and_from}
use Rattle.std.proofs.lemmas.Bool.Decides.{nat_tests}
use Rattle.mind_base.specs.Page.{PageView}
use Rattle.mind_base.specs.Range.{RangeView, in_range}
use Rattle.region_directory.specs.declared.entries.Busy.{Busy}
use Rattle.invalidate_multicast.specs.Blades.{has_blade}
use Rattle.wire_msg.specs.declared.msgs.Msg.{Msg}
use Rattle.wire_msg.specs.declared.msgs.Msg.TheVariants.{Get, Fill, Deny, Back, Inv, Lower, Ack}
use Rattle.coherence.specs.Counts.{bit, is_fill, is_deny, is_call, is_ack, total, none_is}
use Rattle.coherence.specs.World.{Region, World, put_range}
use Rattle.coherence.specs.Facts.{IsCoherent, IsUp, AreUps, IsDown, AreDowns, AreAnswered, AreCalled, AreFetches, AreNumbered, AreTargets, IsTarget, WaitsSomewhere, transition, names, owns, stays, has_not_answered, may, may_hold_writable}
use Rattle.coherence.proofs.Changes.{by-test}
use Rattle.coherence.proofs.Lists.{total-append, total-none_is, none_is-total}
use Rattle.coherence.proofs.Queues.{ups-kept, downs-kept, none-never, none-more}
use Rattle.coherence.specs.Moves.{May, MayBegin, IsCallOf, call_to, moved, Begins, begun}
use Rattle.coherence.proofs.SwitchEntries.{frame_let, fill_let, entries_moved, blocks_put}
use Rattle.coherence.proofs.SwitchGrant.{block_closed}
use Rattle.coherence.proofs.SwitchTransitions.{transition_tells, number_used, waits_used}

-- ---- the calls

call_counts : (test : Msg → Bool) (busy : Busy) (message : Msg) (b : ℕ) → test message ≡ false → total test (call_to busy message b) ≡ 0
call_counts test busy message b none = grind (arith)

call_fills : (range : RangeView) (busy : Busy) (message : Msg) (page : PageView) → IsCallOf range busy message → is_fill page message ≡ false
call_fills range busy (Inv number block asked) page is = refl
call_fills range busy (Lower number block asked) page is = refl
call_fills range busy message page is = absurd is

call_denies : (range : RangeView) (busy : Busy) (message : Msg) (page : PageView) → IsCallOf range busy message → is_deny page message ≡ false
call_denies range busy (Inv number block asked) page is = refl
call_denies range busy (Lower number block asked) page is = refl
call_denies range busy message page is = absurd is

call_calls : (range : RangeView) (busy : Busy) (message : Msg) (number : ℕ) → IsCallOf range busy message → is_call number message ≡ (number == busy.number)
call_calls range busy (Inv other block asked) number is = ap (λ n. number == n) is.0
call_calls range busy (Lower other block asked) number is = ap (λ n. number == n) is.0
call_calls range busy message number is = absurd is

call_count : (range : RangeView) (busy : Busy) (message : Msg) (b : ℕ) → IsCallOf range busy message → total (is_call busy.number) (call_to busy message b) ≡ bit (has_blade busy.waiting b)
call_count range busy message b is = let e = call_calls range busy message busy.number is in let same = eq-eqb busy.number busy.number refl in grind arith

other_count : (range : RangeView) (busy : Busy) (message : Msg) (b number : ℕ) → IsCallOf range busy message → (number ≡ busy.number → ⊥) → total (is_call number) (call_to busy message b) ≡ 0
other_count range busy message b number is other = let e = call_calls range busy message number is in grind (arith, nat_tests, other)

-- ---- the entry

abbrev with_busy : Busy → Region → Region
with_busy busy region = record region { busy = Some busy }

begins_held : (t : Bool) (old : Option Region) (region : Region) (busy : Busy) (b : ℕ) → (t ≡ true → old ≡ Some region)
    → (names region.state b ≡ true → has_blade busy.waiting b ≡ false → names busy.target b ≡ true)
    → may old b ≡ true → may (if t then Some (with_busy busy region) else old) b ≡ true
begins_held false old region busy b here covered h = h
begins_held true old region busy b here covered h =
    let named = (and_parts (names region.state b) (stays region.busy b) (subst (λ o. may o b ≡ true) (here refl) h)).0 in
    and_from _ _ named (by-test (λ t. has_blade busy.waiting b ≡ t → t || names busy.target b ≡ true) (has_blade busy.waiting b) (λ _ _. refl) (λ _ e. covered named e) refl)

begins_writer : (t : Bool) (old : Option Region) (region : Region) (busy : Busy) (b : ℕ) → (t ≡ true → old ≡ Some region) → (owns region.state b ≡ true → has_blade busy.waiting b ≡ true)
    → may_hold_writable old b ≡ true → may_hold_writable (if t then Some (with_busy busy region) else old) b ≡ true
begins_writer false old region busy b here writers h = h
begins_writer true old region busy b here writers h =
    let owned = (and_parts (owns region.state b) (has_not_answered region.busy b) (subst (λ o. may_hold_writable o b ≡ true) (here refl) h)).0 in
    and_from _ _ owned (writers owned)

-- a transition of the new entries is the one that is begun, at a page of its block, or was there before
data Which (w : World) (region : Region) (busy : Busy) (number : ℕ) (page : PageView) (under : Busy) : Type 0 where
  New : in_range region.range page ≡ true → number ≡ busy.number → under ≡ busy → Which w region busy number page under
  Old : in_range region.range page ≡ false → transition number (w.regions page) ≡ Some under → Which w region busy number page under

which : (w : World) (region : Region) (busy : Busy) (number : ℕ) (page : PageView) (under : Busy) → transition number (put_range region.range (Some (with_busy busy region)) w.regions page) ≡ Some under
    → Which w region busy number page under
which w region busy number page under is =
    by-test (λ t. in_range region.range page ≡ t → transition number (if t then Some (with_busy busy region) else w.regions page) ≡ Some under → Which w region busy number page under) (in_range region.range page)
    (λ _ inside at. let tells = transition_tells number (Some (with_busy busy region)) under at in
    let entry = tells.entry in let under_way = tells.busy in
    let same : under ≡ busy = grind arith in
    New inside (sym tells.number ∙ ap (λ x. x.number) same) same)
    (λ _ outside at. Old outside at) refl is

-- ---- the facts

-- the first page of a block is one of it
abbrev page_in : RangeView → PageView
page_in range = record { domain = range.domain; number = range.base }

page_inside : (range : RangeView) → in_range range (page_in range) ≡ true
page_inside range = let some = pow_pos range.log in grind (arith, nat_tests)

module _ (w : World) (region : Region) (busy : Busy) (message : Msg) (can : MayBegin w region busy message) (safe : IsCoherent w) where
  held_begun : (p : PageView) (b : ℕ) → may (w.regions p) b ≡ true → may ((begun region busy message w).regions p) b ≡ true
  held_begun p b = begins_held (in_range region.range p) (w.regions p) region busy b (can.entry p) (can.covered b)

  writer_begun : (p : PageView) (b : ℕ) → may_hold_writable (w.regions p) b ≡ true → may_hold_writable ((begun region busy message w).regions p) b ≡ true
  writer_begun p b = begins_writer (in_range region.range p) (w.regions p) region busy b (can.entry p) (can.writers b)

  -- the number is new
  number_new : (number : ℕ) → number ≤ w.last → number ≡ busy.number → ⊥
  number_new number le same = let e = can.number in absurd (omega arith)

  -- what waited for a blade before does so still
  waits_begun : (number b : ℕ) → WaitsSomewhere w.regions number b → WaitsSomewhere (begun region busy message w).regions number b
  waits_begun number b (p, under, is, waits) = (p, under, outside, waits) where
    outside : transition number ((begun region busy message w).regions p) ≡ Some under
    outside = by-test (λ t. in_range region.range p ≡ t → transition number (if t then Some (with_busy busy region) else w.regions p) ≡ Some under) (in_range region.range p)
        (λ _ inside. let tells = transition_tells number (w.regions p) under is in
        let here = can.entry p inside in let entry = tells.entry in let idle = can.idle in let at = tells.busy in
        absurd (grind arith))
        (λ _ _. is) refl

  -- a transition with a number in use is the one that it was
  old_begun : (number : ℕ) → number ≤ w.last → (p : PageView) (under : Busy) → transition number ((begun region busy message w).regions p) ≡ Some under → transition number (w.regions p) ≡ Some under
  old_begun number le p under is = by (which w region busy number p under is) where
    by : Which w region busy number p under → transition number (w.regions p) ≡ Some under
    by (New inside same at) = absurd (number_new number le same)
    by (Old outside at) = at

  fill_begun : (n : ℕ) (p : PageView) (q : List Msg) → none_is (is_fill p) q ≡ true → none_is (is_fill p) (q ++ call_to busy message n) ≡ true
  fill_begun n p q none =
      let e = call_counts (is_fill p) busy message n (call_fills region.range busy message p can.call) in
      let sum = total-append (is_fill p) q (call_to busy message n) in total-none_is (is_fill p) (q ++ call_to busy message n) (let z = none_is-total (is_fill p) q none in omega arith)

  ups_begun : (n : ℕ) (m : Msg) (later : List Msg) → IsUp w n m later → IsUp (begun region busy message w) n m later
  ups_begun n (Back p image) later up =
      record { writer = writer_begun p n up.writer; newest = up.newest; placed = up.placed; lowered = up.lowered; unfilled = fill_begun n p (w.downs n) up.unfilled; unwanted = up.unwanted }
  ups_begun n (Ack number count) later up =
      let le = waits_used w safe.numbered number n up.0 in (
        waits_begun number n up.0,
        λ p under is. let keeps = up.1 p under (old_begun number le p under is) in
            record { back = keeps.back; fill = fill_begun n p (w.downs n) keeps.fill; left = keeps.left },
      )
  ups_begun n m later up = up

  downs_begun : (n : ℕ) (m : Msg) (later : List Msg) → IsDown w n m later → IsDown (begun region busy message w) n m (later ++ call_to busy message n)
  downs_begun n (Fill p perm writable image) later down = fill_let (held_begun p n) (writer_begun p n) down
  downs_begun n (Inv number range asked) later down =
      let le = waits_used w safe.numbered number n down.0 in (
        waits_begun number n down.0,
        λ p under is. let call = down.1 p under (old_begun number le p under is) in
            record { block = call.block; fill = fill_begun n p later call.fill },
      )
  downs_begun n (Lower number range asked) later down =
      let le = waits_used w safe.numbered number n down.0 in (
        waits_begun number n down.0,
        λ p under is. let call = down.1 p under (old_begun number le p under is) in
            (record { block = call.0.block; fill = fill_begun n p later call.0.fill }, call.1),
      )
  downs_begun n m later down = down

  -- the call that goes out
  begun_waits : (n : ℕ) → has_blade busy.waiting n ≡ true → WaitsSomewhere (begun region busy message w).regions busy.number n
  begun_waits n waits = (page_in region.range, busy, is, waits) where
    is : transition busy.number ((begun region busy message w).regions (page_in region.range)) ≡ Some busy
    is = ap (λ t. transition busy.number (if t then Some (with_busy busy region) else w.regions (page_in region.range))) (page_inside region.range)
        ∙ ap (λ t. if t then Some busy else None) (eq-eqb busy.number busy.number refl)

  waits_as : (number : ℕ) → number ≡ busy.number → (n : ℕ) → has_blade busy.waiting n ≡ true → WaitsSomewhere (begun region busy message w).regions number n
  waits_as number same n waits = subst (λ k. WaitsSomewhere (begun region busy message w).regions k n) (sym same) (begun_waits n waits)

  unused : (number : ℕ) → number ≡ busy.number → (p : PageView) (under : Busy) → transition number (w.regions p) ≡ Some under → ⊥
  unused number same p under at = number_new number (number_used w safe.numbered number p under at) same

  in_block : (number : ℕ) (range : RangeView) → number ≡ busy.number → range ≡ region.range → (p : PageView) (under : Busy) → transition number ((begun region busy message w).regions p) ≡ Some under → in_range range p ≡ true
  in_block number range same block p under is = by (which w region busy number p under is) where
    by : Which w region busy number p under → in_range range p ≡ true
    by (New inside eq at) = subst (λ r. in_range r p ≡ true) (sym block) inside
    by (Old outside at) = absurd (unused number same p under at)

  targets_it : (number : ℕ) → number ≡ busy.number → (n : ℕ) → has_blade busy.waiting n ≡ true → ((b : ℕ) → has_blade busy.waiting b ≡ true → names busy.target b ≡ true)
      → (p : PageView) (under : Busy) → transition number ((begun region busy message w).regions p) ≡ Some under → names under.target n ≡ true
  targets_it number same n waits all p under is = by (which w region busy number p under is) where
    by : Which w region busy number p under → names under.target n ≡ true
    by (New inside eq at) = subst (λ x. names x.target n ≡ true) (sym at) (all n waits)
    by (Old outside at) = absurd (unused number same p under at)

  last_call : (m : Msg) (n : ℕ) → has_blade busy.waiting n ≡ true → IsCallOf region.range busy m → IsDown (begun region busy message w) n m []
  last_call (Inv number range asked) n waits is = (waits_as number is.0 n waits, λ p under at. record { block = in_block number range is.0 is.1 p under at; fill = refl })
  last_call (Lower number range asked) n waits is =
      (waits_as number is.0 n waits, λ p under at. (record { block = in_block number range is.0 is.1 p under at; fill = refl }, targets_it number is.0 n waits is.2 p under at))
  last_call m n waits is = absurd is

  last_down : (n : ℕ) → AreDowns (begun region busy message w) n (call_to busy message n)
  last_down n = by-test (λ t. has_blade busy.waiting n ≡ t → AreDowns (begun region busy message w) n (if t then message ∷ [] else [])) (has_blade busy.waiting n)
      (λ _ waits. (last_call message n waits can.call, tt)) (λ _ _. tt) refl

  -- its number is in no message yet
  new_call : (n : ℕ) (m : Msg) (later : List Msg) → IsDown w n m later → is_call busy.number m ≡ false
  new_call n (Inv number range asked) later down =
      let ne = number_new number (waits_used w safe.numbered number n down.0) in grind (arith, nat_tests, ne)
  new_call n (Lower number range asked) later down =
      let ne = number_new number (waits_used w safe.numbered number n down.0) in grind (arith, nat_tests, ne)
  new_call n (Fill p perm writable image) later down = refl
  new_call n (Deny p) later down = refl
  new_call n m later down = absurd down

  new_calls : (n : ℕ) (q : List Msg) → AreDowns w n q → none_is (is_call busy.number) q ≡ true
  new_calls n [] downs = refl
  new_calls n (m ∷ q) downs = none-more (is_call busy.number) m q (new_call n m q downs.0) (new_calls n q downs.1)

  new_ack : (n : ℕ) (m : Msg) (later : List Msg) → IsUp w n m later → is_ack busy.number m ≡ false
  new_ack n (Ack number count) later up =
      let ne = number_new number (waits_used w safe.numbered number n up.0) in grind (arith, nat_tests, ne)
  new_ack n (Get p write) later up = refl
  new_ack n (Back p image) later up = refl
  new_ack n m later up = absurd up

  new_acks : (n : ℕ) (q : List Msg) → AreUps w n q → none_is (is_ack busy.number) q ≡ true
  new_acks n [] ups = refl
  new_acks n (m ∷ q) ups = none-more (is_ack busy.number) m q (new_ack n m q ups.0) (new_acks n q ups.1)

  called_begun : AreCalled (begun region busy message w)
  called_begun b number p under is = by (which w region busy number p under is) where
    by : Which w region busy number p under
        → total (is_call number) (w.downs b ++ call_to busy message b) + total (is_ack number) (w.ups b) ≡ bit (has_blade under.waiting b)
    by (New inside same at) =
        let calls = none_is-total (is_call busy.number) (w.downs b) (new_calls b (w.downs b) (safe.downs b)) in
        let acks = none_is-total (is_ack busy.number) (w.ups b) (new_acks b (w.ups b) (safe.ups b)) in
        let sent = call_count region.range busy message b can.call in
        let sum = total-append (is_call busy.number) (w.downs b) (call_to busy message b) in
        let now : total (is_call busy.number) (w.downs b ++ call_to busy message b) + total (is_ack busy.number) (w.ups b) ≡ bit (has_blade busy.waiting b) = omega arith in
        subst (λ k. total (is_call k) (w.downs b ++ call_to busy message b) + total (is_ack k) (w.ups b) ≡ bit (has_blade under.waiting b)) (sym same)
        (subst (λ u. total (is_call busy.number) (w.downs b ++ call_to busy message b) + total (is_ack busy.number) (w.ups b) ≡ bit (has_blade u.waiting b)) (sym at) now)
    by (Old outside at) =
        let known = safe.called b number p under at in
        let sent = other_count region.range busy message b number can.call (number_new number (number_used w safe.numbered number p under at)) in
        let sum = total-append (is_call number) (w.downs b) (call_to busy message b) in
        omega arith

  answered_begun : AreAnswered (begun region busy message w)
  answered_begun b p =
      let known = safe.answered b p in
      let fills = call_counts (is_fill p) busy message b (call_fills region.range busy message p can.call) in
      let denies = call_counts (is_deny p) busy message b (call_denies region.range busy message p can.call) in
      let sum = total-append (is_fill p) (w.downs b) (call_to busy message b) in
      let sums = total-append (is_deny p) (w.downs b) (call_to busy message b) in
      omega arith

  fetches_begun : AreFetches (begun region busy message w)
  fetches_begun b p v is fetching =
      let f = safe.fetches b p v is fetching in
      record { held = held_begun p b f.held; writer = λ t. writer_begun p b (f.writer t); idle = still f.idle; allowed = f.allowed }
    where
      still : IfSome (w.regions p) (λ r. r.busy ≡ None) → IfSome ((begun region busy message w).regions p) (λ r. r.busy ≡ None)
      still idle = by-test (λ t. in_range region.range p ≡ t → IfSome (if t then Some (with_busy busy region) else w.regions p) (λ r. r.busy ≡ None)) (in_range region.range p)
          (λ _ inside. let none = can.unfetched p b inside in absurd (grind arith)) (λ _ _. idle) refl

  -- an entry with a transition is the one with this, or was there before
  entries_begun : (p : PageView) (r : Region) (under : Busy) → (begun region busy message w).regions p ≡ Some r → r.busy ≡ Some under
      → ((r ≡ with_busy busy region) × (under ≡ busy)) ⊎ (w.regions p ≡ Some r)
  entries_begun p r under is at =
      by-test (λ t. (if t then Some (with_busy busy region) else w.regions p) ≡ Some r → ((r ≡ with_busy busy region) × (under ≡ busy)) ⊎ (w.regions p ≡ Some r)) (in_range region.range p)
      (λ _ e. inl (grind arith, grind arith)) (λ _ e. inr e) is

  numbered_begun : AreNumbered (begun region busy message w)
  numbered_begun p r under is at = by (entries_begun p r under is at) where
    by : ((r ≡ with_busy busy region) × (under ≡ busy)) ⊎ (w.regions p ≡ Some r) → under.number ≤ busy.number
    by (inl same) = subst (λ u. u.number ≤ busy.number) (sym same.1) (omega arith)
    by (inr e) = let le = safe.numbered p r under e at in let n = can.number in omega arith

  targets_begun : AreTargets (begun region busy message w)
  targets_begun p r under is at = by (entries_begun p r under is at) where
    by : ((r ≡ with_busy busy region) × (under ≡ busy)) ⊎ (w.regions p ≡ Some r) → IsTarget r.state under
    by (inl same) = subst (λ x. IsTarget x.state under) (sym same.0) (subst (λ u. IsTarget region.state u) (sym same.1) (λ b. (can.owners b, can.kept b)))
    by (inr e) = safe.targets p r under e at

  all_begun : IsCoherent (begun region busy message w)
  all_begun = let after = begun region busy message w in entries_moved after.regions after.last w.ups after.downs w safe
      (λ b p frame is. frame_let (held_begun p b) (λ _. writer_begun p b) (safe.frames b p frame is))
      (λ b. ups-kept w after b (λ m. false) (λ m later e. ups_begun b m later) (w.ups b) (none-never (w.ups b)) (safe.ups b))
      (λ b. downs-kept w after b (λ m. false) (call_to busy message b) (λ m later e. downs_begun b m later) (last_down b) (w.downs b) (none-never (w.downs b)) (safe.downs b))
      answered_begun called_begun fetches_begun numbered_begun
      (blocks_put w region.range (Some (with_busy busy region)) (λ r e. grind arith) (block_closed w region can.entry safe.blocks) safe.blocks)
      targets_begun safe.written

pub begins : (w : World) (region : Region) (busy : Busy) (message : Msg) → IsCoherent w → May w (Begins region busy message) → IsCoherent (moved w (Begins region busy message))
begins w region busy message safe can = all_begun w region busy message can safe
