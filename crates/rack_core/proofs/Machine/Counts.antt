-- What is done in a rack takes no hart from its blade, and makes no hart's count of stores less.
use Rattle.std.proofs.Common.{◌≡◌, ◌≤◌, ℕ, ◌==◌, ◌∙◌, Bool, true, false, ap, sym, refl, subst, List, [], ◌∷◌, Option, Some, None, slice_get, slice_set, arith}
use Rattle.std.specs.Prelude.{IfSome}
use Rattle.std.proofs.lemmas.Bool.{eqb-true}
use Rattle.std.proofs.lemmas.Option.{same_Some}
use Rattle.mind_base.specs.Page.{PageView}
use Rattle.mind_base.specs.declared.notes.Note.{Note}
use Rattle.mind_base.specs.declared.plans.ThreadPlan.{ThreadPlan}
use Rattle.hart_effect.specs.Deed.{Deed, Alone, Storing}
use Rattle.hart_effect.specs.declared.finds.Found.{Found}
use Rattle.page_cache.specs.declared.frames.Frame.{Frame}
use Rattle.compute_blade.specs.Actions.{Action, GivesUp, Lowers, Takes, Asks, Wakes, Performs, Refuses, Drains, Acks, IsActions, MayAct, MayActEach, after_action, after_actions}
use Rattle.compute_blade.specs.Blade.{HartView, BladeView, BladeEffect, hart_of}
use Rattle.compute_blade.specs.Denials.{faulting}
use Rattle.compute_blade.specs.Messages.{awake}
use Rattle.compute_blade.specs.Steps.{hart_after, one_more_store, waiting}
use Rattle.compute_blade.specs.declared.kept.Waits.{Waits}
use Rattle.compute_blade.specs.declared.kept.Waits.TheVariants.{Step, Drain}
use Rattle.rack_core.specs.Events.{BladeDoes, HartDoes}
use Rattle.rack_core.specs.Rack.{RackView}
use Rattle.rack_core.specs.StandLog.{AreHartsPlaced}
use Rattle.rack_core.specs.StandRuns.{AreCounted}
use Rattle.rack_core.proofs.Moves.Blade.Handed.{did}
use Rattle.rack_core.proofs.Moves.Blade.Sound.{hart_in-set, hart_in-other}
use Rattle.rack_core.proofs.Lists.Lookups.{slice_get-set, slice_get-set_other}

-- ---- a blade

-- a hart, where it is then, with a count that is not less
pub record StaysAt (blade : BladeView) (h : ℕ) (was : HartView) : Type 0 where
  pub now : HartView
  pub own : hart_of blade h ≡ Some now
  pub more : was.stores ≤ now.stores

-- the blade has the plan, the number and the harts that it had, and no count is less
pub record HartsStay (old new : BladeView) : Type 0 where
  pub plan : new.plan ≡ old.plan
  pub number : new.number ≡ old.number
  pub forth : (h : ℕ) (was : HartView) → hart_of old h ≡ Some was → StaysAt new h was
  pub back : (h : ℕ) (now : HartView) → hart_of new h ≡ Some now → (was : HartView) × (hart_of old h ≡ Some was)

-- no hart changed
stay-same : (old new : BladeView) → new.plan ≡ old.plan → new.number ≡ old.number → new.harts ≡ old.harts → HartsStay old new
stay-same old new plan number harts = record {
  plan = plan;
  number = number;
  forth = λ h was own. record { now = was; own = ap (λ all. hart_of (record old { harts = all }) h) harts ∙ own; more = omega arith };
  back = λ h now own. (now, ap (λ all. hart_of (record old { harts = all }) h) (sym harts) ∙ own);
}

-- one hart changed
stay-one : (old new : BladeView) (h : ℕ) (was now : HartView) → new.plan ≡ old.plan → new.number ≡ old.number → new.harts ≡ slice_set old.harts h (Some now) → hart_of old h ≡ Some was → was.stores ≤ now.stores → HartsStay old new
stay-one old new h was now plan number harts own more = record { plan = plan; number = number; forth = forth; back = back } where
  here : (n : ℕ) → (n == h) ≡ true → hart_of new n ≡ Some now
  here n e = ap (λ all. hart_of (record old { harts = all }) n) harts ∙ ap (hart_of (record old { harts = slice_set old.harts h (Some now) })) (eqb-true n h e) ∙ hart_in-set old.harts h was now own

  away : (n : ℕ) → (n == h) ≡ false → hart_of new n ≡ hart_of old n
  away n e = ap (λ all. hart_of (record old { harts = all }) n) harts ∙ hart_in-other old.harts h now n e

  forth : (n : ℕ) (hart : HartView) → hart_of old n ≡ Some hart → StaysAt new n hart
  forth n hart is = by (n == h) refl where
    by : (b : Bool) → (n == h) ≡ b → StaysAt new n hart
    by true e =
        let same : hart ≡ was = same_Some _ _ (sym is ∙ ap (hart_of old) (eqb-true n h e) ∙ own) in
        record { now = now; own = here n e; more = subst (λ (x : HartView). x.stores ≤ now.stores) (sym same) more }
    by false e = record { now = hart; own = away n e ∙ is; more = omega arith }

  back : (n : ℕ) (hart : HartView) → hart_of new n ≡ Some hart → (before : HartView) × (hart_of old n ≡ Some before)
  back n hart is = by (n == h) refl where
    by : (b : Bool) → (n == h) ≡ b → (before : HartView) × (hart_of old n ≡ Some before)
    by true e = (was, ap (hart_of old) (eqb-true n h e) ∙ own)
    by false e = (hart, sym (away n e) ∙ is)

-- one thing after another
stay-then : (a b c : BladeView) → HartsStay a b → HartsStay b c → HartsStay a c
stay-then a b c one two = record {
  plan = two.plan ∙ one.plan;
  number = two.number ∙ one.number;
  forth = λ h was own.
      let first = one.forth h was own in
      let later = two.forth h first.now first.own in
      let less : was.stores ≤ first.now.stores = first.more in
      let more : first.now.stores ≤ later.now.stores = later.more in
      record { now = later.now; own = later.own; more = omega arith };
  back = λ h now own. let before = two.back h now own in one.back h before.0 before.1;
}

-- ---- actions

waits-stores : (waits : Waits) (hart : HartView) → hart.stores ≤ (waiting waits hart).stores
waits-stores Step hart = omega arith
waits-stores Drain hart = omega arith

wakes-stores : (waits : Waits) (hart : HartView) → hart.stores ≤ (awake waits hart).stores
wakes-stores Step hart = omega arith
wakes-stores Drain hart = omega arith

deed-stores : (domain : ℕ) (found : Found) (entries : List (PageView × Frame)) (hart : HartView) (deed : Deed) → hart.stores ≤ (hart_after domain found entries hart deed).stores
deed-stores domain found entries hart (Alone thread) = omega arith
deed-stores domain found entries hart (Storing thread store) = omega arith

pub action-stays : (action : Action) (blade : BladeView) → MayAct action blade → HartsStay blade (after_action action blade).blade
action-stays (GivesUp page frame) blade may = stay-same blade (after_action (GivesUp page frame) blade).blade refl refl refl
action-stays (Lowers page frame) blade may = stay-same blade (after_action (Lowers page frame) blade).blade refl refl refl
action-stays (Takes page frame) blade may = stay-same blade (after_action (Takes page frame) blade).blade refl refl refl
action-stays (Asks h hart waits need) blade may =
    stay-one blade (after_action (Asks h hart waits need) blade).blade h hart (waiting waits hart) refl refl refl may.0 (waits-stores waits hart)
action-stays (Wakes hart asked) blade may =
    stay-one blade (after_action (Wakes hart asked) blade).blade asked.hart hart (awake asked.waits hart) refl refl refl may.0 (wakes-stores asked.waits hart)
action-stays (Performs h hart plan found pc deed) blade may =
    stay-one blade (after_action (Performs h hart plan found pc deed) blade).blade h hart (hart_after plan.domain found blade.cache.entries hart deed) refl refl refl may.at.own
    (deed-stores plan.domain found blade.cache.entries hart deed)
action-stays (Refuses h hart denial pc) blade may =
    stay-one blade (after_action (Refuses h hart denial pc) blade).blade h hart (faulting denial.kind denial.address pc hart) refl refl refl may.own (omega arith)
action-stays (Drains h hart plan oldest newer) blade may =
    stay-one blade (after_action (Drains h hart plan oldest newer) blade).blade h hart (one_more_store (record hart { queue = record hart.queue { stores = newer } })) refl refl refl may.own (omega arith)
action-stays (Acks number count) blade may = stay-same blade (after_action (Acks number count) blade).blade refl refl refl

actions-stay : (actions : List Action) (blade : BladeView) → MayActEach actions blade → HartsStay blade (after_actions actions blade).blade
actions-stay [] blade may = stay-same blade blade refl refl refl
actions-stay (action ∷ actions) blade may = stay-then blade (after_action action blade).blade (after_actions actions (after_action action blade).blade).blade
    (action-stays action blade may.0) (actions-stay actions (after_action action blade).blade may.1)

-- what is actions in a row
pub acts-stay : (blade : BladeView) (effect : BladeEffect) → IsActions blade effect → HartsStay blade effect.blade
acts-stay blade effect acts = subst (λ (e : BladeEffect). HartsStay blade e.blade) (sym acts.done) (actions-stay acts.actions blade acts.may)

-- ---- a rack

-- The rack has its plan and the blades that it had; they have the harts that they had, and no count is less.
pub record BladesStay (old new : RackView) : Type 0 where
  pub plan : new.plan ≡ old.plan
  pub forth : (c : ℕ) (was : BladeView) → slice_get old.blades c ≡ Some was → (now : BladeView) × (slice_get new.blades c ≡ Some now) × HartsStay was now
  pub back : (c : ℕ) (now : BladeView) → slice_get new.blades c ≡ Some now → (was : BladeView) × (slice_get old.blades c ≡ Some was) × HartsStay was now

-- no blade changed
pub blades-same : (old new : RackView) → new.plan ≡ old.plan → new.blades ≡ old.blades → BladesStay old new
blades-same old new plan blades = record {
  plan = plan;
  forth = λ c was there. (was, ap (λ all. slice_get all c) blades ∙ there, stay-same was was refl refl refl);
  back = λ c now there. (now, ap (λ all. slice_get all c) (sym blades) ∙ there, stay-same now now refl refl refl);
}

pub blades-then : (a b c : RackView) → BladesStay a b → BladesStay b c → BladesStay a c
blades-then a b c one two = record {
  plan = two.plan ∙ one.plan;
  forth = λ n was there.
      let first = one.forth n was there in
      let later = two.forth n first.0 first.1 in
      (later.0, later.1, stay-then was first.0 later.0 first.2 later.2);
  back = λ n now there.
      let later = two.back n now there in
      let first = one.back n later.0 later.1 in
      (first.0, first.1, stay-then first.0 later.0 now first.2 later.2);
}

-- one blade changed
blades-one : (old new : RackView) (c : ℕ) (was now : BladeView) → slice_get old.blades c ≡ Some was → new.plan ≡ old.plan → new.blades ≡ slice_set old.blades c now → HartsStay was now → BladesStay old new
blades-one old new c was now there plan blades stay = record { plan = plan; forth = forth; back = back } where
  here : (n : ℕ) → (n == c) ≡ true → slice_get new.blades n ≡ Some now
  here n e = ap (λ all. slice_get all n) blades ∙ ap (slice_get (slice_set old.blades c now)) (eqb-true n c e) ∙ slice_get-set old.blades c was now there

  away : (n : ℕ) → (n == c) ≡ false → slice_get new.blades n ≡ slice_get old.blades n
  away n e = ap (λ all. slice_get all n) blades ∙ slice_get-set_other old.blades c now n e

  forth : (n : ℕ) (blade : BladeView) → slice_get old.blades n ≡ Some blade → (after : BladeView) × (slice_get new.blades n ≡ Some after) × HartsStay blade after
  forth n blade is = by (n == c) refl where
    by : (b : Bool) → (n == c) ≡ b → (after : BladeView) × (slice_get new.blades n ≡ Some after) × HartsStay blade after
    by true e =
        let same : was ≡ blade = same_Some _ _ (sym there ∙ ap (slice_get old.blades) (sym (eqb-true n c e)) ∙ is) in
        (now, here n e, subst (λ b. HartsStay b now) same stay)
    by false e = (blade, away n e ∙ is, stay-same blade blade refl refl refl)

  back : (n : ℕ) (blade : BladeView) → slice_get new.blades n ≡ Some blade → (before : BladeView) × (slice_get old.blades n ≡ Some before) × HartsStay before blade
  back n blade is = by (n == c) refl where
    by : (b : Bool) → (n == c) ≡ b → (before : BladeView) × (slice_get old.blades n ≡ Some before) × HartsStay before blade
    by true e =
        let same : now ≡ blade = same_Some _ _ (sym (here n e) ∙ is) in
        (was, ap (slice_get old.blades) (eqb-true n c e) ∙ there, subst (HartsStay was) same stay)
    by false e = (blade, sym (away n e) ∙ is, stay-same blade blade refl refl refl)

-- what a blade does is actions in a row
pub does-stay : (c : ℕ) (act : BladeView → Option BladeEffect) (old new : RackView) (noted : List Note)
    → ((blade : BladeView) → slice_get old.blades c ≡ Some blade → IfSome (act blade) (IsActions blade)) → BladeDoes c act old new noted → BladesStay old new
does-stay c act old new noted each given =
    let d = did c act old new noted given in
    blades-one old new c d.blade d.effect.blade d.there (ap (λ (r : RackView). r.plan) d.acts.after) (ap (λ (r : RackView). r.blades) d.acts.after)
    (acts-stay d.blade d.effect (subst (λ o. IfSome o (IsActions d.blade)) d.does (each d.blade d.there)))

pub hart-stays : (thread : Option ThreadPlan) (act : BladeView → Option BladeEffect) (old new : RackView) (noted : List Note)
    → ((blade : BladeView) → IfSome (act blade) (IsActions blade)) → HartDoes thread act old new noted → BladesStay old new
hart-stays None act old new noted each given = absurd given
hart-stays (Some thread) act old new noted each given = does-stay thread.blade act old new noted (λ blade there. each blade) given

-- ---- what follows

-- where no more stores took effect than have tags, that was so before
pub counted-before : (old new : RackView) → BladesStay old new → AreCounted new → AreCounted old
counted-before old new stay counted h hart at =
    let blade = stay.forth at.plan.blade at.blade at.there in
    let its = blade.2.forth h hart at.own in
    let fits = counted h its.now (record { plan = at.plan; blade = blade.0; thread = ap (λ p. slice_get p.threads h) stay.plan ∙ at.thread; there = blade.1; own = its.own }) in
    let more : hart.stores ≤ its.now.stores = its.more in
    omega (arith, fits, more)

-- harts stand where the plan has them
pub placed-after : (old new : RackView) → BladesStay old new → AreHartsPlaced old → AreHartsPlaced new
placed-after old new stay placed c blade h hart plan there own planned =
    let was = stay.back c blade there in
    let before = was.2.back h hart own in
    placed c was.0 h before.0 plan was.1 before.1 (ap (λ p. slice_get p.threads h) (sym stay.plan) ∙ planned)
