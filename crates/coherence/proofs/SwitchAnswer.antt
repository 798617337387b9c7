-- What an acknowledgement makes of an entry.
use Rattle.std.proofs.Common.{◌≡◌, refl, sym, ℕ, ◌==◌, Bool, true, false, Option, Some, None, IfSome, subst, ap, arith, ◌∙◌, eq-eqb, eqb-true, ◌||◌}
use Rattle.std.specs.Prelude.{if◌then◌else◌}
use Rattle.std.proofs.lemmas.Bool.{and_parts, and_from}
use Rattle.std.proofs.lemmas.Nat.Bits.{bit_at_above}
use Rattle.region_directory.specs.declared.entries.Busy.{Busy}
use Rattle.invalidate_multicast.specs.Blades.{has_blade}
use Rattle.coherence.specs.World.{Region}
use Rattle.coherence.specs.Facts.{numbered, transition, names, owns, stays, has_not_answered, may, may_hold_writable}
use Rattle.coherence.proofs.Changes.{by-test}
use Rattle.invalidate_multicast.specs.Blades.{without_blade}
use Rattle.invalidate_multicast.specs.Transition.{after_answer}
use Rattle.invalidate_multicast.proofs.Callers.{without-gone, without-other}
use Rattle.coherence.specs.Moves.{ended, region_answered}
use Rattle.coherence.proofs.SwitchTransitions.{Tells, transition_tells}

-- whom the transition waits for when the blade has answered the one with the number
abbrev pub left : ℕ → ℕ → Busy → ℕ
left n c under = if under.number == n then without_blade under.waiting c else under.waiting

abbrev pub waits_for : ℕ → Busy → Busy
waits_for waiting under = record under { waiting = waiting }

-- the transition ends, or goes on
pub data Acked (n c : ℕ) (region : Region) (under : Busy) (new : Region) : Type 0 where
  Ends : left n c under ≡ 0 → new ≡ record { range = region.range; state = under.target; busy = None } → Acked n c region under new
  Goes : (left n c under ≡ 0 → ⊥) → new ≡ record { range = region.range; state = region.state; busy = Some (waits_for (left n c under) under) } → Acked n c region under new

abbrev pub acked_entry : ℕ → ℕ → Region → Region
acked_entry n c region = ended (record region { busy = after_answer n c region.busy })

after : (n c : ℕ) (under : Busy) → after_answer n c (Some under) ≡ Some (waits_for (left n c under) under)
after n c under = by-test (λ t. (if t then Some (waits_for (without_blade under.waiting c) under) else Some under) ≡ Some (waits_for (if t then without_blade under.waiting c else under.waiting) under)) (under.number == n) (λ _. refl) (λ _. refl)

ends_or_goes : (n c : ℕ) (region : Region) (under : Busy) → Acked n c region under (ended (record region { busy = Some (waits_for (left n c under) under) }))
ends_or_goes n c region under =
    by-test (λ t. (left n c under == 0) ≡ t → Acked n c region under (if t then record { range = region.range; state = under.target; busy = None } else record { range = region.range; state = region.state; busy = Some (waits_for (left n c under) under) })) (left n c under == 0)
    (λ _ e. Ends (eqb-true _ _ e) refl) (λ _ e. Goes (λ z. let t = eq-eqb _ _ z in absurd (cc (e, t))) refl) refl

pub acked : (n c : ℕ) (region : Region) (under : Busy) → region.busy ≡ Some under → Acked n c region under (acked_entry n c region)
acked n c region under e = subst (λ o. Acked n c region under (ended (record region { busy = o }))) (sym (ap (after_answer n c) e ∙ after n c under)) (ends_or_goes n c region under)

pub idle_entry : (n c : ℕ) (region : Region) → region.busy ≡ None → acked_entry n c region ≡ region
idle_entry n c region e = subst (λ o. ended (record region { busy = after_answer n c o }) ≡ record region { busy = o }) (sym e) refl

-- ---- who is waited for then

pub left_other : (n c : ℕ) (under : Busy) (b : ℕ) → (b ≡ c → ⊥) → has_blade (left n c under) b ≡ has_blade under.waiting b
left_other n c under b other = by-test (λ t. has_blade (if t then without_blade under.waiting c else under.waiting) b ≡ has_blade under.waiting b) (under.number == n)
    (λ _. without-other under.waiting c b other) (λ _. refl)

pub left_gone : (n c : ℕ) (under : Busy) → under.number ≡ n → has_blade (left n c under) c ≡ false
left_gone n c under same = ap (λ t. has_blade (if t then without_blade under.waiting c else under.waiting) c) (eq-eqb under.number n same) ∙ without-gone under.waiting c

pub left_stays : (n c : ℕ) (under : Busy) → (under.number ≡ n → ⊥) → left n c under ≡ under.waiting
left_stays n c under other = by-test (λ t. (under.number == n) ≡ t → (if t then without_blade under.waiting c else under.waiting) ≡ under.waiting) (under.number == n)
    (λ _ e. absurd (other (eqb-true _ _ e))) (λ _ _. refl) refl

-- a blade that is waited for still, unless it is the one that answered
left_waits : (n c : ℕ) (under : Busy) (b : ℕ) → (b ≡ c → under.number ≡ n → ⊥) → has_blade under.waiting b ≡ true → has_blade (left n c under) b ≡ true
left_waits n c under b other waits = by-test (λ t. (under.number == n) ≡ t → has_blade (if t then without_blade under.waiting c else under.waiting) b ≡ true) (under.number == n)
    (λ _ e. without-other under.waiting c b (λ same. other same (eqb-true _ _ e)) ∙ waits) (λ _ _. waits) refl

nobody : (b : ℕ) → has_blade 0 b ≡ false
nobody b = ap (λ k. k == 1) (bit_at_above 0 0 b (omega arith) (omega arith))

waits_not_zero : (waiting b : ℕ) → has_blade waiting b ≡ true → waiting ≡ 0 → ⊥
waits_not_zero waiting b waits empty = let none = nobody b in absurd (cc (subst (λ k. has_blade k b ≡ true) empty waits, none))

-- ---- who may hold a page then

or_right : (t : Bool) → t || true ≡ true
or_right true = refl
or_right false = refl

or_left : (t : Bool) → t || false ≡ true → t ≡ true
or_left true e = refl
or_left false e = e

stays_acked : (n c : ℕ) (under : Busy) (b : ℕ) → (b ≡ c → under.number ≡ n → names under.target b ≡ true)
    → has_blade under.waiting b || names under.target b ≡ true → has_blade (left n c under) b || names under.target b ≡ true
stays_acked n c under b keeps h = by-test (λ t. names under.target b ≡ t → has_blade under.waiting b || t ≡ true → has_blade (left n c under) b || t ≡ true) (names under.target b)
    (λ _ e x. or_right (has_blade (left n c under) b))
    (λ _ e x. let waits = or_left (has_blade under.waiting b) x in
    ap (λ t. t || false) (left_waits n c under b (λ same number. let t = keeps same number in absurd (cc (e, t))) waits)) refl h

held_some : (n c : ℕ) (region : Region) (under : Busy) (b : ℕ) → (b ≡ c → under.number ≡ n → names under.target b ≡ true) → (new : Region) → Acked n c region under new
    → names region.state b ≡ true → has_blade under.waiting b || names under.target b ≡ true → may (Some new) b ≡ true
held_some n c region under b keeps new (Ends none same) named stays =
    let answer = stays_acked n c under b keeps stays in
    let gone : has_blade (left n c under) b ≡ false = subst (λ k. has_blade k b ≡ false) (sym none) (nobody b) in
    subst (λ r. may (Some r) b ≡ true) (sym same) (and_from _ _ (subst (λ t. t || names under.target b ≡ true) gone answer) refl)
held_some n c region under b keeps new (Goes some same) named stays =
    subst (λ r. may (Some r) b ≡ true) (sym same) (and_from _ _ named (stays_acked n c under b keeps stays))

-- the transition of an entry is the one of its number
is_transition : (n : ℕ) (region : Region) (under : Busy) → region.busy ≡ Some under → under.number ≡ n → transition n (Some region) ≡ Some under
is_transition n region under e same = ap (numbered n) e ∙ ap (λ t. if t then Some under else None) (eq-eqb under.number n same)

pub held_acked : (n c : ℕ) (old : Option Region) (b : ℕ) → (b ≡ c → (under : Busy) → transition n old ≡ Some under → names under.target b ≡ true)
    → may old b ≡ true → may (region_answered n c old) b ≡ true
held_acked n c None b keeps h = h
held_acked n c (Some region) b keeps h = by region.busy refl where
  parts : (names region.state b ≡ true) × (stays region.busy b ≡ true)
  parts = and_parts (names region.state b) (stays region.busy b) h

  by : (o : Option Busy) → region.busy ≡ o → may (Some (acked_entry n c region)) b ≡ true
  by None e = subst (λ r. may (Some r) b ≡ true) (sym (idle_entry n c region e)) h
  by (Some under) e = held_some n c region under b (λ same number. keeps same under (is_transition n region under e number)) (acked_entry n c region) (acked n c region under e)
      parts.0 (subst (λ o. stays o b ≡ true) e parts.1)

pub writer_acked : (n c : ℕ) (old : Option Region) (b : ℕ) → (b ≡ c → (under : Busy) → transition n old ≡ Some under → ⊥)
    → may_hold_writable old b ≡ true → may_hold_writable (region_answered n c old) b ≡ true
writer_acked n c None b keeps h = h
writer_acked n c (Some region) b keeps h = by region.busy refl where
  parts : (owns region.state b ≡ true) × (has_not_answered region.busy b ≡ true)
  parts = and_parts (owns region.state b) (has_not_answered region.busy b) h

  some : (under : Busy) → region.busy ≡ Some under → (new : Region) → Acked n c region under new → has_blade (left n c under) b ≡ true → may_hold_writable (Some new) b ≡ true
  some under e new (Ends none same) waits = absurd (waits_not_zero (left n c under) b waits none)
  some under e new (Goes not same) waits = subst (λ r. may_hold_writable (Some r) b ≡ true) (sym same) (and_from _ _ parts.0 waits)

  by : (o : Option Busy) → region.busy ≡ o → may_hold_writable (Some (acked_entry n c region)) b ≡ true
  by None e = subst (λ r. may_hold_writable (Some r) b ≡ true) (sym (idle_entry n c region e)) h
  by (Some under) e = some under e (acked_entry n c region) (acked n c region under e)
      (left_waits n c under b (λ same number. keeps same under (is_transition n region under e number)) (subst (λ o. has_not_answered o b ≡ true) e parts.1))

-- ---- transitions

-- a transition that is still under way was before, and differs in whom it waits for
pub record Before (n c k : ℕ) (old : Option Region) (under : Busy) : Type 0 where
  pub first : Busy
  pub is : transition k old ≡ Some first
  pub now : under ≡ waits_for (left n c first) first

pub transition_before : (n c k : ℕ) (old : Option Region) (under : Busy) → transition k (region_answered n c old) ≡ Some under → Before n c k old under
transition_before n c k None under is = absurd (cc is)
transition_before n c k (Some region) under is = by region.busy refl where
  tells : Tells k (Some (acked_entry n c region)) under
  tells = transition_tells k (Some (acked_entry n c region)) under is

  some : (first : Busy) → region.busy ≡ Some first → (new : Region) → Acked n c region first new → new.busy ≡ Some under → Before n c k (Some region) under
  some first e new (Ends none same) at = absurd (let t = ap (λ r. r.busy) same in cc (t, at))
  some first e new (Goes not same) at =
      let t = ap (λ r. r.busy) same in
      let now : under ≡ waits_for (left n c first) first = cc (t, at) in
      record { first = first; is = is_transition k region first e (let number : first.number ≡ under.number = sym (ap (λ u. u.number) now) in number ∙ tells.number); now = now }

  at_end : acked_entry n c region ≡ tells.region
  at_end = let e = tells.entry in cc (e)

  by : (o : Option Busy) → region.busy ≡ o → Before n c k (Some region) under
  by None e = absurd (let same = idle_entry n c region e in let u = ap (λ r. r.busy) (sym at_end ∙ same) in let t = tells.busy in cc (u, t, e))
  by (Some first) e = some first e (acked_entry n c region) (acked n c region first e) (ap (λ r. r.busy) at_end ∙ tells.busy)

-- one that waits for a blade is still under way, unless the blade is the one that answered
pub record Still (n c k b : ℕ) (old : Option Region) : Type 0 where
  pub under : Busy
  pub is : transition k (region_answered n c old) ≡ Some under
  pub waits : has_blade under.waiting b ≡ true

pub transition_still : (n c k b : ℕ) (old : Option Region) (first : Busy) → (b ≡ c → k ≡ n → ⊥) → transition k old ≡ Some first → has_blade first.waiting b ≡ true → Still n c k b old
transition_still n c k b None first other is waits = absurd (cc is)
transition_still n c k b (Some region) first other is waits = by (acked_entry n c region) refl (acked n c region first at) where
  tells : Tells k (Some region) first
  tells = transition_tells k (Some region) first is

  at : region.busy ≡ Some first
  at = let e = tells.entry in let t = tells.busy in let same : region ≡ tells.region = cc (e) in ap (λ r. r.busy) same ∙ t

  still : has_blade (left n c first) b ≡ true
  still = left_waits n c first b (λ same number. other same (sym tells.number ∙ number)) waits

  by : (new : Region) → acked_entry n c region ≡ new → Acked n c region first new → Still n c k b (Some region)
  by new e (Ends none same) = absurd (waits_not_zero (left n c first) b still none)
  by new e (Goes not same) = record {
    under = waits_for (left n c first) first;
    is = subst (λ r. transition k (Some r) ≡ Some (waits_for (left n c first) first)) (sym (e ∙ same)) (ap (λ t. if t then Some (waits_for (left n c first) first) else None) (eq-eqb first.number k tells.number));
    waits = still;
  }

-- ---- entries

pub idle_acked : (n c : ℕ) (old : Option Region) → IfSome old (λ r. r.busy ≡ None) → region_answered n c old ≡ old
idle_acked n c None idle = refl
idle_acked n c (Some region) idle = ap Some (idle_entry n c region idle)

pub range_acked : (n c : ℕ) (region : Region) → (acked_entry n c region).range ≡ region.range
range_acked n c region = by region.busy refl where
  some : (under : Busy) (new : Region) → Acked n c region under new → new.range ≡ region.range
  some under new (Ends none same) = ap (λ r. r.range) same
  some under new (Goes not same) = ap (λ r. r.range) same

  by : (o : Option Busy) → region.busy ≡ o → (acked_entry n c region).range ≡ region.range
  by None e = ap (λ r. r.range) (idle_entry n c region e)
  by (Some under) e = some under (acked_entry n c region) (acked n c region under e)

-- an entry with a transition had it before, in the same state
pub record Stood (n c : ℕ) (old : Option Region) (r : Region) (under : Busy) : Type 0 where
  pub first : Region
  pub before : Busy
  pub entry : old ≡ Some first
  pub busy : first.busy ≡ Some before
  pub state : r.state ≡ first.state
  pub now : under ≡ waits_for (left n c before) before

pub stood : (n c : ℕ) (old : Option Region) (r : Region) (under : Busy) → region_answered n c old ≡ Some r → r.busy ≡ Some under → Stood n c old r under
stood n c None r under is at = absurd (cc is)
stood n c (Some region) r under is at = by region.busy refl where
  same_entry : acked_entry n c region ≡ r
  same_entry = cc (is)

  some : (before : Busy) → region.busy ≡ Some before → (new : Region) → Acked n c region before new → r ≡ new → Stood n c (Some region) r under
  some before e new (Ends none same) eq = absurd (let t = ap (λ x. x.busy) (eq ∙ same) in cc (t, at))
  some before e new (Goes not same) eq =
      let t = ap (λ x. x.busy) (eq ∙ same) in
      record { first = region; before = before; entry = refl; busy = e; state = ap (λ x. x.state) (eq ∙ same); now = cc (t, at) }

  by : (o : Option Busy) → region.busy ≡ o → Stood n c (Some region) r under
  by None e = absurd (let t = ap (λ x. x.busy) (sym same_entry ∙ idle_entry n c region e) in cc (t, at, e))
  by (Some before) e = some before e (acked_entry n c region) (acked n c region before e) (sym same_entry)
