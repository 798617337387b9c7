-- The labels of a schedule's stretches, and of a schedule whose events are settled one by one.
use Rattle.std.proofs.Common.{◌≡◌, inl, inr, ℕ, suc, ◌+◌, ◌∙◌, ap, sym, refl, subst, List, [], ◌∷◌, ◌++◌, length, append-nil, length-append, arith}
use Rattle.std.specs.List.{AllByRecursion}
use Rattle.std.specs.List.Sorted.{IsPermutation}
use Rattle.std.proofs.lemmas.List.{append_assoc}
use Rattle.std.proofs.lemmas.List.Elements.{filter_map-append}
use Rattle.std.proofs.lemmas.Option.{none-some, same_Some}
use Rattle.mind_base.specs.Fit.{IsFit}
use Rattle.mind_base.specs.declared.events.Event.{Event}
use Rattle.mind_base.specs.declared.events.Event.TheVariants.{Step, Drain, Evict, Deliver, Lose, Repeat, Resend, Epoch, Ask, Settle}
use Rattle.mind_base.specs.declared.images.Image.{Image}
use Rattle.mind_base.specs.declared.notes.Note.{Note}
use Rattle.mind_base.specs.declared.notes.Note.TheVariants as note
use Rattle.mind_base.specs.declared.plans.RackPlan.{RackPlan}
use Rattle.tso_machine.specs.Replay.{Whole, label_of, labels, replay}
use Rattle.tso_machine.specs.State.{Setup, start_state}
use Rattle.tso_machine.specs.declared.labels.Label.{Label}
use Rattle.rack_core.specs.Calls.{IsEventFor, IsKept, Notes}
use Rattle.rack_core.specs.Events.{Leads}
use Rattle.rack_core.specs.Rack.{RackView}
use Rattle.rack_core.specs.Safe.{IsSafe, IsOfRack, AreOfRack, Reaches}
use Rattle.rack_core.specs.StandLog.{StandsForLog, made_from}
use Rattle.rack_core.specs.StandRuns.{AreCounted}
use Rattle.rack_core.specs.Start.{IsStart}
use Rattle.rack_core.specs.Waits.{AreNeeded}
use Rattle.rack_core.proofs.Callers.{of-rack, BladesStay, blades-same, blades-then, counted-before, runs-log, runs-stay, start-logs, run_needs, start_needs, run_keeps-all, all_front}
use Rattle.rack_settle.specs.Labels.{owed, asked_labels, all_asked, AsksNothing, AskNothing, IsOneEach, threads_in, asked_after, settled_labels}
use Rattle.rack_settle.specs.Numbered.{AreOfEvents}
use Rattle.rack_settle.specs.Ran.{IsRunFor, LeadsOrSettles, Ran}
use Rattle.rack_settle.specs.Settled.{IsTurn, AreTurns, Settles}
use Rattle.rack_settle.specs.Stretches.{IsNoSettling, EndSettled, SettleTogether, IsStretch, HasItsLabels, AreSettledEach, HasSettledLabels}
use Rattle.rack_settle.proofs.LabelRuns.{quiet-owes, start-owes, safe-log, settling, settling-none, stretch-settles, few-asked, event-settles}
use Rattle.rack_settle.proofs.Numbers.{ran-numbered}
use Rattle.rack_settle.proofs.Rans.{ran-more, stands-noted}

-- ---- the events by which a schedule's event leads on

turns-reach : (images : List Image) (turns : List Event) (first last : RackView) (noted : List Note) → AreTurns images turns first last noted → Reaches images turns first last noted
turns-reach images [] first last noted taken = taken
turns-reach images (turn ∷ turns) first last noted (mid, now, later, is, leads, rest, split) = (mid, now, later, leads, turns-reach images turns mid last later rest, split)

turn-asks : (rack : RackView) (turn : Event) → IsTurn rack turn → AsksNothing turn
turn-asks rack (Deliver link side k) is = tt
turn-asks rack (Resend link) is = tt
turn-asks rack (Step hart) is = absurd is
turn-asks rack (Drain hart) is = absurd is
turn-asks rack (Evict blade page) is = absurd is
turn-asks rack (Lose link side k) is = absurd is
turn-asks rack (Repeat link side k) is = absurd is
turn-asks rack Epoch is = absurd is
turn-asks rack (Ask command) is = absurd is
turn-asks rack Settle is = absurd is

turns-ask : (images : List Image) (turns : List Event) (first last : RackView) (noted : List Note) → AreTurns images turns first last noted → AskNothing turns
turns-ask images [] first last noted taken = tt
turns-ask images (turn ∷ turns) first last noted (mid, now, later, is, leads, rest, split) = (turn-asks first turn is, turns-ask images turns mid last later rest)

all-of-rack : (plan : RackPlan) → IsFit plan → (events : List Event) → AllByRecursion (IsEventFor plan) events → AreOfRack events
all-of-rack plan fit [] all = tt
all-of-rack plan fit (event ∷ events) all = (of-rack plan event fit all.0, all-of-rack plan fit events all.1)

-- the rack is reached by events that each lead on by themselves
record IsReached (images : List Image) (old new : RackView) (noted : List Note) : Type 0 where
  events : List Event
  fits : AreOfRack events
  reaches : Reaches images events old new noted

-- a settling does so by turns that ask for nothing, to a rack that owes nothing
record HasSettled (images : List Image) (old new : RackView) (noted : List Note) : Type 0 where
  turns : List Event
  fits : AreOfRack turns
  asks : AskNothing turns
  reaches : Reaches images turns old new noted
  none : owed new ≡ []

settles-by : (images : List Image) (plan : RackPlan) (old new : RackView) (noted : List Note) → IsFit plan → old.plan ≡ plan → Settles images old new noted → HasSettled images old new noted
settles-by images plan old new noted fit same settles = record {
  turns = settles.turns;
  fits = all-of-rack plan fit settles.turns (subst (λ p. AllByRecursion (IsEventFor p) settles.turns) same settles.fits);
  asks = turns-ask images settles.turns old new noted settles.taken;
  reaches = turns-reach images settles.turns old new noted settles.taken;
  none = quiet-owes new settles.quiet;
}

-- what waited is noted, each once
pub settles-waiting : (images : List Image) (old new : RackView) (before behind : List Note) → IsKept old → Notes (Settles images old new) before behind → AreNeeded images old
    → Notes (λ noted. IsPermutation (labels noted) (owed old)) before behind
settles-waiting images old new before behind kept (noted, settles, log) needed =
    let s = settles-by images old.plan old new noted kept.shape.fit refl settles in
    (noted, settling images s.turns old new noted kept.safe needed s.fits s.asks s.reaches s.none, log)

-- an event that is no settling
alone : (images : List Image) (plan : RackPlan) (event : Event) (old new : RackView) (noted : List Note) → IsRunFor plan event → Leads images event old new noted → IsEventFor plan event
alone images plan event old new noted (inl is) leads = absurd (subst (λ e. Leads images e old new noted) is leads)
alone images plan event old new noted (inr fits) leads = fits

event-reaches : (images : List Image) (plan : RackPlan) (event : Event) (old new : RackView) (noted : List Note) → IsFit plan → old.plan ≡ plan → IsRunFor plan event → LeadsOrSettles images event old new noted
    → IsReached images old new noted
event-reaches images plan event old new noted fit same fits (inl (is, settles)) =
    let s = settles-by images plan old new noted fit same settles in
    record { events = s.turns; fits = s.fits; reaches = s.reaches }
event-reaches images plan event old new noted fit same fits (inr leads) = record {
  events = event ∷ [];
  fits = (of-rack plan event fit (alone images plan event old new noted fits leads), tt);
  reaches = (new, noted, [], leads, (refl, refl), sym (append-nil noted));
}

-- ---- what is true of the rack behind each event

pub record IsAhead (images : List Image) (plan : RackPlan) (rack : RackView) (log : List Note) : Type 0 where
  pub same : rack.plan ≡ plan
  pub stands : StandsForLog images rack log
  pub needed : AreNeeded images rack

starts-ahead : (images : List Image) (plan : RackPlan) (first : RackView) → IsFit plan → IsStart plan first → IsAhead images plan first []
starts-ahead images plan first fit start =
    record { same = start.of_plan; stands = start-logs images plan first fit start; needed = start_needs images plan first start }

event-ahead : (images : List Image) (plan : RackPlan) (event : Event) (index : ℕ) (old new : RackView) (log added : List Note) → IsFit plan → IsRunFor plan event → IsAhead images plan old log
    → LeadsOrSettles images event old new added → AreCounted new → IsAhead images plan new (log ++ note.Event index ∷ added)
event-ahead images plan event index old new log added fit fits ahead leads counted =
    let r = event-reaches images plan event old new added fit ahead.same fits leads in
    let safe = safe-log images old log ahead.stands in
    let stay = runs-stay images r.events old new added r.fits safe r.reaches in
    let stands = runs-log images r.events old new (log ++ note.Event index ∷ []) added r.fits (stands-noted images old log index ahead.stands) r.reaches counted in
    record {
      same = stay.plan ∙ ahead.same;
      stands = subst (StandsForLog images new) (append_assoc log (note.Event index ∷ []) added) stands;
      needed = run_needs images r.events old new added r.fits safe r.reaches ahead.needed;
    }

ran-stays : (images : List Image) (plan : RackPlan) (from : ℕ) (events : List Event) (first last : RackView) (notes : List Note) → IsFit plan → AllByRecursion (IsRunFor plan) events → first.plan ≡ plan → IsSafe first
    → Ran images from events first last notes → BladesStay first last
ran-stays images plan from [] first last notes fit fits same safe ran = blades-same first last (ap (λ (r : RackView). r.plan) ran.0) (ap (λ (r : RackView). r.blades) ran.0)
ran-stays images plan from (event ∷ events) first last notes fit fits same safe (mid, added, later, leads, stand, rest, split) =
    let r = event-reaches images plan event first mid added fit same fits.0 leads in
    let stay = runs-stay images r.events first mid added r.fits safe r.reaches in
    blades-then first mid last stay
    (ran-stays images plan (suc from) events mid last later fit fits.1 (stay.plan ∙ same) (run_keeps-all images r.events first mid added r.fits safe r.reaches) rest)

-- behind the first of some events
mid-ahead : (images : List Image) (plan : RackPlan) (from : ℕ) (event : Event) (events : List Event) (first mid last : RackView) (log added later : List Note) → IsFit plan
    → AllByRecursion (IsRunFor plan) (event ∷ events) → IsAhead images plan first log → LeadsOrSettles images event first mid added → Ran images (suc from) events mid last later → AreCounted last
    → IsAhead images plan mid (log ++ note.Event from ∷ added)
mid-ahead images plan from event events first mid last log added later fit fits ahead leads rest counted =
    let r = event-reaches images plan event first mid added fit ahead.same fits.0 leads in
    let safe = safe-log images first log ahead.stands in
    let stay = runs-stay images r.events first mid added r.fits safe r.reaches in
    let onward = ran-stays images plan (suc from) events mid last later fit fits.1 (stay.plan ∙ ahead.same) (run_keeps-all images r.events first mid added r.fits safe r.reaches) rest in
    event-ahead images plan event from first mid log added fit fits.0 ahead leads (counted-before mid last onward counted)

ran-ahead : (images : List Image) (plan : RackPlan) (from : ℕ) (events : List Event) (first last : RackView) (log notes : List Note) → IsFit plan → AllByRecursion (IsRunFor plan) events
    → IsAhead images plan first log → Ran images from events first last notes → AreCounted last → IsAhead images plan last (log ++ notes)
ran-ahead images plan from [] first last log notes fit fits ahead (same, none) counted =
    subst (λ ns. IsAhead images plan last (log ++ ns)) (sym none) (subst (IsAhead images plan last) (sym (append-nil log)) (subst (λ r. IsAhead images plan r log) (sym same) ahead))
ran-ahead images plan from (event ∷ events) first last log notes fit fits ahead (mid, added, later, leads, stand, rest, split) counted =
    let one = mid-ahead images plan from event events first mid last log added later fit fits ahead leads rest counted in
    let all = ran-ahead images plan (suc from) events mid last (log ++ note.Event from ∷ added) later fit fits.1 one rest counted in
    subst (λ ns. IsAhead images plan last (log ++ ns)) (sym split) (subst (IsAhead images plan last) (append_assoc log (note.Event from ∷ added) later) all)

-- ---- parts of a run

-- it goes through the first events, and then through the others
pub record RanInParts (images : List Image) (from : ℕ) (xs ys : List Event) (first last : RackView) (notes : List Note) : Type 0 where
  pub mid : RackView
  pub one : List Note
  pub two : List Note
  pub before : Ran images from xs first mid one
  pub behind : Ran images (from + length xs) ys mid last two
  pub split : notes ≡ one ++ two

ran-parts : (images : List Image) (from : ℕ) (xs ys : List Event) (first last : RackView) (notes : List Note) → Ran images from (xs ++ ys) first last notes → RanInParts images from xs ys first last notes
ran-parts images from [] ys first last notes ran = record {
  mid = first;
  one = [];
  two = notes;
  before = (refl, refl);
  behind = subst (λ n. Ran images n ys first last notes) (let same : from ≡ from + 0 = omega arith in same) ran;
  split = refl;
}
ran-parts images from (x ∷ xs) ys first last notes (next, added, later, leads, stand, rest, split) =
    let r = ran-parts images (suc from) xs ys next last later rest in
    record {
      mid = r.mid;
      one = note.Event from ∷ (added ++ r.one);
      two = r.two;
      before = (next, added, r.one, leads, stand, r.before, refl);
      behind = subst (λ n. Ran images n ys r.mid last r.two) (let same : suc from + length xs ≡ from + suc (length xs) = omega arith in same) r.behind;
      split = split ∙ ap (λ ns. note.Event from ∷ (added ++ ns)) r.split ∙ ap (λ ns. note.Event from ∷ ns) (sym (append_assoc added r.one r.two));
    }

labels-both : (a b : List Note) → labels (a ++ b) ≡ labels a ++ labels b
labels-both a b = filter_map-append label_of a b

-- events without a settling lead on by themselves
record LeadOn (images : List Image) (events : List Event) (first last : RackView) (notes : List Note) : Type 0 where
  noted : List Note
  reaches : Reaches images events first last noted
  same : labels noted ≡ labels notes

leads-alone : (images : List Image) (event : Event) (old new : RackView) (noted : List Note) → IsNoSettling event → LeadsOrSettles images event old new noted → Leads images event old new noted
leads-alone images event old new noted unsettled (inl (is, settles)) = absurd (unsettled is)
leads-alone images event old new noted unsettled (inr leads) = leads

lead-on : (images : List Image) (from : ℕ) (events : List Event) (first last : RackView) (notes : List Note) → AllByRecursion IsNoSettling events → Ran images from events first last notes
    → LeadOn images events first last notes
lead-on images from [] first last notes unsettled ran = record { noted = []; reaches = (ran.0, refl); same = sym (ap labels ran.1) }
lead-on images from (event ∷ events) first last notes unsettled (mid, added, later, leads, stand, rest, split) =
    let r = lead-on images (suc from) events mid last later unsettled.1 rest in
    record {
      noted = added ++ r.noted;
      reaches = (mid, added, r.noted, leads-alone images event first mid added unsettled.0 leads, r.reaches, refl);
      same = labels-both added r.noted ∙ ap (λ ls. labels added ++ ls) r.same ∙ sym (labels-both added later) ∙ sym (ap labels split);
    }

-- events that a rack takes and that are no settling
of-racks : (plan : RackPlan) (events : List Event) → IsFit plan → AllByRecursion (IsRunFor plan) events → AllByRecursion IsNoSettling events → AreOfRack events
of-racks plan [] fit fits unsettled = tt
of-racks plan (event ∷ events) fit fits unsettled = (one fits.0, of-racks plan events fit fits.1 unsettled.1) where
  one : IsRunFor plan event → IsOfRack event
  one (inl is) = absurd (unsettled.0 is)
  one (inr its) = of-rack plan event fit its

-- ---- a stretch

settled-owes : (images : List Image) (event : Event) (old new : RackView) (noted : List Note) → event ≡ Settle → LeadsOrSettles images event old new noted → Settles images old new noted
settled-owes images event old new noted is (inl (same, settles)) = settles
settled-owes images event old new noted is (inr leads) = absurd (subst (λ e. Leads images e old new noted) is leads)

-- a rack that starts, or that has settled, owes nothing
ends-owing : (images : List Image) (events : List Event) (first last : RackView) (notes : List Note) → owed first ≡ [] → EndSettled events → Ran images 0 events first last notes → owed last ≡ []
ends-owing images events first last notes none (inl e) ran =
    let same : last ≡ first = (subst (λ es. Ran images 0 es first last notes) e ran).0 in
    ap owed same ∙ none
ends-owing images events first last notes none (inr (front, e)) ran =
    let r = ran-parts images 0 front (Settle ∷ []) first last notes (subst (λ es. Ran images 0 es first last notes) e ran) in
    let end = r.behind in
    let same : last ≡ end.0 = end.5.0 in
    ap owed same ∙ quiet-owes end.0 (settled-owes images Settle r.mid end.0 end.1 refl end.3).quiet

-- the rack behind the first events of a schedule, and the rest of its run
pub record IsBetween (images : List Image) (plan : RackPlan) (xs ys : List Event) (first last : RackView) (log : List Note) : Type 0 where
  pub parts : RanInParts images 0 xs ys first last log
  pub open parts use *
  pub onward : Ran images (length xs) ys mid last two
  pub ahead : IsAhead images plan mid one
  pub open ahead use *

ran-safe : (images : List Image) (plan : RackPlan) (from : ℕ) (es : List Event) (one two : RackView) (notes : List Note) → IsFit plan → AllByRecursion (IsRunFor plan) es → one.plan ≡ plan → IsSafe one
    → Ran images from es one two notes → IsSafe two
ran-safe images plan from [] one two notes fit its same safe ran = subst IsSafe (sym ran.0) safe
ran-safe images plan from (e ∷ es) one two notes fit its same safe (next, added, later, leads, stand, rest, split) =
    let r = event-reaches images plan e one next added fit same its.0 leads in
    let stay = runs-stay images r.events one next added r.fits safe r.reaches in
    ran-safe images plan (suc from) es next two later fit its.1 (stay.plan ∙ same) (run_keeps-all images r.events one next added r.fits safe r.reaches) rest

pub between : (images : List Image) (plan : RackPlan) (xs ys : List Event) (first last : RackView) (log : List Note) → IsFit plan → IsStart plan first → AllByRecursion (IsRunFor plan) (xs ++ ys)
    → Ran images 0 (xs ++ ys) first last log → AreCounted last → IsBetween images plan xs ys first last log
between images plan xs ys first last log fit start its ran counted =
    let whole = ran-parts images 0 xs ys first last log ran in
    let mid = whole.mid in
    let onward : Ran images (length xs) ys mid last whole.two = subst (λ n. Ran images n ys mid last whole.two) (let same : 0 + length xs ≡ length xs = omega arith in same) whole.behind in
    let start_ahead = starts-ahead images plan first fit start in
    let first_safe = safe-log images first [] start_ahead.stands in
    let fits_xs = (all_front (IsRunFor plan) xs ys its).0 in
    let stay = ran-stays images plan 0 xs first mid whole.one fit fits_xs start.of_plan first_safe whole.before in
    let safe = ran-safe images plan 0 xs first mid whole.one fit fits_xs start.of_plan first_safe whole.before in
    let stays = ran-stays images plan (length xs) ys mid last whole.two fit (all_front (IsRunFor plan) xs ys its).1 (stay.plan ∙ start.of_plan) safe onward in
    let ahead = ran-ahead images plan 0 xs first mid [] whole.one fit fits_xs start_ahead whole.before (counted-before mid last stays counted) in
    record { parts = whole; onward = onward; ahead = ahead }

-- no two of the events are of one blade's threads
one-each : (plan : RackPlan) (events : List Event) → SettleTogether plan events → IsOneEach plan events
one-each plan events (inr each) = each.1
one-each plan [] (inl one) = tt
one-each plan (event ∷ []) (inl one) = (λ blade here. tt, tt)
one-each plan (event ∷ other ∷ events) (inl one) = let never : ⊥ = omega (arith, one) in absurd never

stretch_labels : (images : List Image) (plan : RackPlan) (events : List Event) (first last : RackView) (log : List Note) → IsFit plan → IsStart plan first → AllByRecursion (IsRunFor plan) events
    → Ran images 0 events first last log → AreCounted last → (before stretch after : List Event) → IsStretch plan events before stretch after
    → HasItsLabels (made_from images plan) log (length before) stretch (length after)
stretch_labels images plan events first last log fit start fits ran counted before stretch after is =
    let rest = stretch ++ Settle ∷ after in
    let its : AllByRecursion (IsRunFor plan) (before ++ rest) = subst (λ es. AllByRecursion (IsRunFor plan) es) is.split fits in
    let whole = between images plan before rest first last log fit start its (subst (λ es. Ran images 0 es first last log) is.split ran) counted in
    let mid = whole.mid in
    let behind = ran-parts images (length before) stretch (Settle ∷ after) mid last whole.two whole.onward in
    let end = behind.behind in
    let mid_safe = safe-log images mid whole.one whole.stands in
    let fits_rest = (all_front (IsRunFor plan) before rest its).1 in
    let none = ends-owing images before first mid whole.one (start-owes plan first start) is.begins whole.before in
    let fits_stretch = (all_front (IsRunFor plan) stretch (Settle ∷ after) fits_rest).0 in
    let on = lead-on images (length before) stretch mid behind.mid behind.one is.unsettled behind.before in
    let settles = settled-owes images Settle behind.mid end.0 end.1 refl end.3 in
    let same : mid.plan ≡ plan = whole.same in
    let stay = ran-stays images plan (length before) stretch mid behind.mid behind.one fit fits_stretch same mid_safe behind.before in
    let turn = settles-by images plan behind.mid end.0 end.1 fit (stay.plan ∙ same) settles in
    let result = stretch-settles images stretch turn.turns mid behind.mid end.0 whole.one on.noted end.1 whole.stands whole.needed none (of-racks plan stretch fit fits_stretch is.unsettled)
    (subst (λ p. IsOneEach p stretch) (sym same) (one-each plan stretch is.together)) on.reaches turn.fits turn.asks turn.reaches turn.none in
    let from = length before in
    let index = from + length stretch in
    let now = behind.one ++ note.Event index ∷ end.1 in
    let noted : labels (on.noted ++ end.1) ≡ labels now = labels-both on.noted end.1 ∙ ap (λ ls. ls ++ labels end.1) on.same ∙ sym (labels-both behind.one (note.Event index ∷ end.1)) in
    let Same : RackPlan → Type 0 = λ p. IsPermutation (labels now) (all_asked (made_from images p) whole.stands.state.threads stretch) in
    let Run : RackPlan → Type 0 = λ p. replay (made_from images p) (start_state (made_from images p)) (labels whole.one) ≡ Whole whole.stands.state in
    let those = subst Same same (subst (λ ls. IsPermutation ls (all_asked (made_from images mid.plan) whole.stands.state.threads stretch)) noted result) in
    record {
      part = record {
        before = whole.one;
        now = now;
        after = end.2;
        split = whole.split ∙ ap (λ ns. whole.one ++ ns) (behind.split ∙ ap (λ ns. behind.one ++ ns) end.6 ∙ sym (append_assoc behind.one (note.Event index ∷ end.1) end.2));
        ahead = ran-numbered images 0 before first mid whole.one whole.before;
        own = subst (λ n. AreOfEvents from n now) (length-append stretch (Settle ∷ []))
            (ran-numbered images from (stretch ++ Settle ∷ []) mid end.0 now (ran-more images from stretch Settle mid behind.mid end.0 behind.one end.1 behind.before end.3 end.4));
        behind = subst (λ n. AreOfEvents n (length after) end.2) (let next : suc index ≡ from + (length stretch + 1) = omega arith in next)
            (ran-numbered images (suc index) after end.0 last end.2 end.5);
        state = whole.stands.state;
        run = subst Run same whole.stands.run;
      };
      same = those;
      exact = λ few. few-asked (made_from images plan) whole.stands.state stretch (labels now) few those;
    }

-- ---- events that are settled one by one

-- the labels of some notes, and those of the events behind them
both-labels : (setup : Setup) (log now later : List Note) (asked : List Label) (events : List Event) → labels now ≡ asked → labels later ≡ settled_labels setup (labels (log ++ now)) events
    → labels (now ++ later) ≡ asked ++ settled_labels setup (labels log ++ asked) events
both-labels setup log now later asked events is rest =
    labels-both now later
    ∙ (λ i. is i ++ (rest ∙ (λ j. settled_labels setup (labels-both log now j) events) ∙ ap (λ ls. settled_labels setup (labels log ++ ls) events) is) i)

-- from a rack that owes nothing
module _ (images : List Image) (plan : RackPlan) (fit : IsFit plan) where
  abbrev setup : Setup
  setup = made_from images plan

  -- a settling has no label
  settles-none : (first mid : RackView) (log added : List Note) → IsAhead images plan first log → owed first ≡ [] → Settles images first mid added → labels added ≡ []
  settles-none first mid log added ahead none settles =
      let s = settles-by images plan first mid added fit ahead.same settles in
      settling-none images s.turns first mid added (safe-log images first log ahead.stands) ahead.needed s.fits s.asks s.reaches s.none none

  -- an event and the settling behind it have the labels that the event asks for
  settles-asked : (event : Event) (first mid next : RackView) (log added more : List Note) → IsRunFor plan event → IsAhead images plan first log → owed first ≡ [] → mid.plan ≡ plan
      → Leads images event first mid added → Settles images mid next more → labels (added ++ more) ≡ asked_after setup (labels log) event
  settles-asked event first mid next log added more fits ahead none same leads settles =
      let s = settles-by images plan mid next more fit same settles in
      let Run : RackPlan → Type 0 = λ p. replay (made_from images p) (start_state (made_from images p)) (labels log) ≡ Whole ahead.stands.state in
      subst (λ p. labels (added ++ more) ≡ asked_labels (made_from images p) ahead.stands.state.threads event) ahead.same
      (event-settles images event s.turns first mid next log added more ahead.stands ahead.needed none (of-rack plan event fit (alone images plan event first mid added fits leads)) leads
      s.fits s.asks s.reaches s.none)
      ∙ ap (λ r. asked_labels setup (threads_in r) event) (sym (subst Run ahead.same ahead.stands.run))

  -- the labels of all events, where the first one is a settling
  settling-first : (from : ℕ) (event : Event) (events : List Event) (first mid : RackView) (log added later notes : List Note) → event ≡ Settle → Settles images first mid added
      → IsAhead images plan first log → owed first ≡ [] → notes ≡ note.Event from ∷ (added ++ later) → labels later ≡ settled_labels setup (labels (log ++ note.Event from ∷ added)) events
      → labels notes ≡ settled_labels setup (labels log) (event ∷ events)
  settling-first from event events first mid log added later notes is settles ahead none split rest =
      subst (λ e. labels notes ≡ settled_labels setup (labels log) (e ∷ events)) (sym is)
      (ap labels split ∙ both-labels setup log (note.Event from ∷ added) later [] events (settles-none first mid log added ahead none settles) rest)

  -- and where it is another one, with a settling behind it
  event-first : (from : ℕ) (event other : Event) (events : List Event) (first mid next : RackView) (log added more others later notes : List Note) → other ≡ Settle → IsRunFor plan event
      → Leads images event first mid added → Settles images mid next more → IsAhead images plan first log → owed first ≡ [] → mid.plan ≡ plan
      → notes ≡ note.Event from ∷ (added ++ later) → later ≡ note.Event (suc from) ∷ (more ++ others)
      → labels others ≡ settled_labels setup (labels (log ++ (note.Event from ∷ (added ++ note.Event (suc from) ∷ more)))) events
      → labels notes ≡ settled_labels setup (labels log) (event ∷ other ∷ events)
  event-first from event other events first mid next log added more others later notes is fits leads settles ahead none same split split_too rest =
      let asked = asked_after setup (labels log) event in
      let now = note.Event from ∷ (added ++ note.Event (suc from) ∷ more) in
      let whole : notes ≡ now ++ others = split ∙ ap (λ ns. note.Event from ∷ (added ++ ns)) split_too ∙ ap (λ ns. note.Event from ∷ ns) (sym (append_assoc added (note.Event (suc from) ∷ more) others)) in
      let its : labels now ≡ asked = labels-both added (note.Event (suc from) ∷ more) ∙ sym (labels-both added more)
      ∙ settles-asked event first mid next log added more fits ahead none same leads settles in
      subst (λ e. labels notes ≡ settled_labels setup (labels log) (event ∷ e ∷ events)) (sym is)
      (ap labels whole ∙ both-labels setup log now others asked events its rest ∙ ap (λ ls. asked ++ settled_labels setup ls events) (sym (append-nil (labels log ++ asked))))

  each-settled : (from : ℕ) (events : List Event) (first last : RackView) (log notes : List Note) → AllByRecursion (IsRunFor plan) events → IsAhead images plan first log → owed first ≡ []
      → AreSettledEach events → Ran images from events first last notes → AreCounted last → labels notes ≡ settled_labels setup (labels log) events
  each-settled from [] first last log notes fits ahead none settled ran counted = ap labels ran.1
  each-settled from (event ∷ []) first last log notes fits ahead none settled (mid, added, later, inl (is, settles), stand, rest, split) counted =
      settling-first from event [] first mid log added later notes is settles ahead none split (ap labels rest.1)
  each-settled from (event ∷ []) first last log notes fits ahead none settled (mid, added, later, inr leads, stand, rest, split) counted =
      absurd (none-some Settle (settled.0 (λ is. subst (λ e. Leads images e first mid added) is leads)))
  each-settled from (event ∷ other ∷ events) first last log notes fits ahead none settled (mid, added, later, inl (is, settles), stand, rest, split) counted =
      settling-first from event (other ∷ events) first mid log added later notes is settles ahead none split
      (each-settled (suc from) (other ∷ events) mid last (log ++ note.Event from ∷ added) later fits.1
      (mid-ahead images plan from event (other ∷ events) first mid last log added later fit fits ahead (inl (is, settles)) rest counted) (quiet-owes mid settles.quiet) settled.1 rest counted)
  each-settled from (event ∷ other ∷ events) first last log notes fits ahead none settled (mid, added, later, inr leads, stand, (next, more, others, turned, stand_too, rest, split_too), split) counted =
      let is : other ≡ Settle = same_Some _ _ (settled.0 (λ is. subst (λ e. Leads images e first mid added) is leads)) in
      let settles = settled-owes images other mid next more is turned in
      let here = mid-ahead images plan from event (other ∷ events) first mid last log added later fit fits ahead (inr leads) (next, more, others, turned, stand_too, rest, split_too) counted in
      let there = mid-ahead images plan (suc from) other events mid next last (log ++ note.Event from ∷ added) more others fit fits.1 here turned rest counted in
      event-first from event other events first mid next log added more others later notes is fits.0 leads settles ahead none here.same split split_too
      (each-settled (suc (suc from)) events next last (log ++ (note.Event from ∷ (added ++ note.Event (suc from) ∷ more))) others fits.1.1
      (subst (IsAhead images plan next) (append_assoc log (note.Event from ∷ added) (note.Event (suc from) ∷ more)) there) (quiet-owes next settles.quiet) settled.1.1 rest counted)

-- ---- a schedule

pub settled_labels_of : (images : List Image) (plan : RackPlan) (events : List Event) (first last : RackView) (log : List Note) → IsFit plan → IsStart plan first → AllByRecursion (IsRunFor plan) events
    → Ran images 0 events first last log → AreCounted last → HasSettledLabels (made_from images plan) plan events log
settled_labels_of images plan events first last log fit start fits ran counted = record {
  stretches = stretch_labels images plan events first last log fit start fits ran counted;
  determined = λ settled. each-settled images plan fit 0 events first last [] log fits (starts-ahead images plan first fit start) (start-owes plan first start) settled ran counted;
}
