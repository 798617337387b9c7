-- The labels of stretches of events, and of events that are settled one by one.
use Rattle.std.proofs.Common.{◌≡◌, ◌⊎◌, inl, inr, ℕ, ◌≤◌, zero, suc, ap, sym, refl, subst, List, [], ◌∷◌, ◌++◌, length, map, slice_get, Option, Some, None, option_map, append-nil, arith, ◌∙◌}
use Rattle.std.specs.Prelude.{All}
use Rattle.std.specs.List.{AllByRecursion, flat_map, range_with_len}
use Rattle.std.specs.List.Sorted.{IsPermutation}
use Rattle.std.specs.Option.{option_to_list}
use Rattle.std.proofs.lemmas.List.Elements.{All-tail, filter_map-append}
use Rattle.std.proofs.lemmas.List.Sorted.{IsPermutation-append_right, IsPermutation-trans}
use Rattle.std.proofs.lemmas.Option.{same_Some}
use Rattle.mind_base.specs.Fit.{IsFit}
use Rattle.mind_base.specs.Page.{PageView}
use Rattle.mind_base.specs.declared.events.Event.{Event}
use Rattle.mind_base.specs.declared.events.Event.TheVariants.{Step, Drain, Evict, Deliver, Lose, Repeat, Resend, Epoch, Ask, Settle}
use Rattle.mind_base.specs.declared.images.Image.{Image}
use Rattle.mind_base.specs.declared.notes.Note.{Note}
use Rattle.mind_base.specs.declared.plans.RackPlan.{RackPlan}
use Rattle.mind_base.specs.declared.plans.ThreadPlan.{ThreadPlan}
use Rattle.page_image.specs.PageImage.{PageImageView}
use Rattle.compute_blade.specs.Blade.{BladeView}
use Rattle.compute_blade.specs.Start.{first_blade}
use Rattle.compute_blade.specs.declared.kept.Asked.{Asked}
use Rattle.tso_machine.specs.Replay.{label_of, labels}
use Rattle.tso_machine.specs.Scheduled.{step_label, drain_label}
use Rattle.tso_machine.specs.State.{Setup, State}
use Rattle.tso_machine.specs.declared.labels.Label.{Label}
use Rattle.rack_core.specs.BladeMoves.{hart_in}
use Rattle.rack_core.specs.Calls.{IsQuiet}
use Rattle.rack_core.specs.Events.{Leads}
use Rattle.rack_core.specs.Rack.{RackView}
use Rattle.rack_core.specs.Safe.{IsSafe, IsOfRack, AreOfRack, Reaches}
use Rattle.rack_core.specs.StandLog.{StandsForLog, made_from}
use Rattle.rack_core.specs.StandRuns.{GoesWith}
use Rattle.rack_core.specs.Start.{IsStart}
use Rattle.rack_core.specs.Waits.{AreNeeded}
use Rattle.rack_core.proofs.Callers.{runs-log, start-logs, event_needs, run_needs, start_needs, event_keeps, run_keeps-all, append-none}
use Rattle.rack_settle.specs.Labels.{owed, owed_by, owed_for, OwesNothingFor, asked_labels, all_asked, AsksNothing, AskNothing, asked_blade, IsOneEach, LeadsAndSettles, SettlesEach, threads_in, asked_after, settled_labels}
use Rattle.rack_settle.proofs.LabelLists.{only-none, only-one}
use Rattle.rack_settle.proofs.LabelMessages.{IsLeft}
use Rattle.rack_settle.proofs.LabelRacks.{Does, Any, FitsSetup, IsReady, NotOf, does-nothing, does-then, drain-asks, left-then, pays-owed, step-asks}

-- ---- nothing is owed

no-label : (requests : List Asked) → map owed_for requests ≡ [] → requests ≡ []
no-label [] e = refl
no-label (first ∷ requests) e = let never : ⊥ = cc in absurd never

none-owed : (blades : List BladeView) (c : ℕ) (blade : BladeView) → flat_map owed_by blades ≡ [] → slice_get blades c ≡ Some blade → blade.requests ≡ []
none-owed [] c blade e there = let never : ⊥ = cc in absurd never
none-owed (first ∷ blades) zero blade e there =
    subst (λ (b : BladeView). b.requests ≡ []) (same_Some _ _ there) (no-label first.requests (append-none (owed_by first) (flat_map owed_by blades) e).0)
none-owed (first ∷ blades) (suc c) blade e there = none-owed blades c blade (append-none (owed_by first) (flat_map owed_by blades) e).1 there

quiet-all : (blades : List BladeView) → All (λ blade. blade.requests ≡ []) blades → flat_map owed_by blades ≡ []
quiet-all [] all = refl
quiet-all (first ∷ blades) all =
    (λ i. map owed_for (all 0 first (omega arith) i) ++ quiet-all blades (All-tail (λ blade. blade.requests ≡ []) first blades all) i)

pub quiet-owes : (rack : RackView) → IsQuiet rack → owed rack ≡ []
quiet-owes rack quiet = quiet-all rack.blades quiet.blades

first-all : (plan : RackPlan) (numbers : List ℕ) → flat_map owed_by (map (first_blade plan) numbers) ≡ []
first-all plan [] = refl
first-all plan (number ∷ numbers) = first-all plan numbers

pub start-owes : (plan : RackPlan) (rack : RackView) → IsStart plan rack → owed rack ≡ []
start-owes plan rack start = ap (flat_map owed_by) start.blades ∙ first-all plan (range_with_len 0 (length plan.frames))

-- ---- what is not asked

-- an event in which no hart is to step or to drain
none-asked : (setup : Setup) (state : State) (event : Event) → AsksNothing event → asked_labels setup state.threads event ≡ []
none-asked setup state (Step hart) none = absurd none
none-asked setup state (Drain hart) none = absurd none
none-asked setup state (Evict blade page) none = refl
none-asked setup state (Deliver link side k) none = refl
none-asked setup state (Lose link side k) none = refl
none-asked setup state (Repeat link side k) none = refl
none-asked setup state (Resend link) none = refl
none-asked setup state Epoch none = refl
none-asked setup state (Ask command) none = refl
none-asked setup state Settle none = refl

none-at : (plan : RackPlan) (event : Event) → AsksNothing event → asked_blade plan event ≡ None
none-at plan (Step hart) none = absurd none
none-at plan (Drain hart) none = absurd none
none-at plan (Evict blade page) none = refl
none-at plan (Deliver link side k) none = refl
none-at plan (Lose link side k) none = refl
none-at plan (Repeat link side k) none = refl
none-at plan (Resend link) none = refl
none-at plan Epoch none = refl
none-at plan (Ask command) none = refl
none-at plan Settle none = refl

all-none : (setup : Setup) (state : State) (events : List Event) → AskNothing events → all_asked setup state.threads events ≡ []
all-none setup state [] none = refl
all-none setup state (event ∷ events) none = (λ i. none-asked setup state event none.0 i ++ all-none setup state events none.1 i)

-- ---- a stretch

-- a blade of which one of the events asks something
abbrev pub AsksAt : RackPlan → ℕ → List Event → Type 0
AsksAt plan c [] = ⊥
AsksAt plan c (event ∷ events) = (asked_blade plan event ≡ Some c) ⊎ AsksAt plan c events

not-at : (plan : RackPlan) (c : ℕ) (events : List Event) → AllByRecursion (λ other. asked_blade plan other ≡ Some c → ⊥) events → AsksAt plan c events → ⊥
not-at plan c [] all asks = asks
not-at plan c (event ∷ events) all (inl here) = all.0 here
not-at plan c (event ∷ events) all (inr asks) = not-at plan c events all.1 asks

-- the blade is as it was in the first rack, and owes nothing
abbrev pub Rests : RackView → RackView → ℕ → Type 0
Rests first rack c = (now : BladeView) → slice_get rack.blades c ≡ Some now → (was : BladeView) × (slice_get first.blades c ≡ Some was) × IsLeft was now

-- so a hart of it is as the machine has it, for which the first rack stands
ready-at : (images : List Image) (setup : Setup) (first : RackView) (flat : PageView → PageImageView) (m : State) → GoesWith images setup first flat m → (rack : RackView) → rack.plan ≡ first.plan → (h : ℕ)
    → ((thread : ThreadPlan) → slice_get rack.plan.threads h ≡ Some thread → Rests first rack thread.blade) → IsReady m.threads flat rack h
ready-at images setup first flat m goes rack plan h rests thread blade planned there =
    let r = rests thread planned blade there in
    let was = r.0 in
    let left = r.2 in
    let first_planned : slice_get first.plan.threads h ≡ Some thread = ap (λ p. slice_get p.threads h) (sym plan) ∙ planned in
    record {
      plan = left.plan ∙ goes.one.blades thread.blade was r.1 ∙ sym plan;
      free = left.free;
      stands = λ hart own. goes.stands.threads h hart (record { plan = thread; blade = was; thread = first_planned; there = r.1; own = ap (λ harts. hart_in harts h) (sym left.harts) ∙ own });
    }

-- what the machine is made from is that of each rack of the stretch
fits-setup : (images : List Image) (setup : Setup) (first : RackView) (flat : PageView → PageImageView) (m : State) → GoesWith images setup first flat m → (rack : RackView) → rack.plan ≡ first.plan → FitsSetup images setup rack
fits-setup images setup first flat m goes rack plan = record { plan = goes.plan ∙ sym plan; code = goes.code; fit = subst IsFit (sym plan) goes.one.fit }

-- a hart of a rack for which it stands itself, where nothing waits at its blade
ready-now : (images : List Image) (setup : Setup) (old : RackView) (flat : PageView → PageImageView) (m : State) → GoesWith images setup old flat m → (h : ℕ) → OwesNothingFor h old → IsReady m.threads flat old h
ready-now images setup old flat m goes h free = ready-at images setup old flat m goes old refl h
    (λ thread planned now there. (now, there, record { plan = refl; harts = refl; free = no-label now.requests (free thread now planned there) }))

pub step_pays : (images : List Image) (setup : Setup) (h : ℕ) (old new : RackView) (noted : List Note) (flat : PageView → PageImageView) (m : State) → GoesWith images setup old flat m → AreNeeded images old
    → OwesNothingFor h old → Leads images (Step h) old new noted → IsPermutation (labels noted ++ owed new) (asked_labels setup m.threads (Step h) ++ owed old)
step_pays images setup h old new noted flat m goes all free given =
    (step-asks images setup m.threads flat h old new noted (fits-setup images setup old flat m goes old refl) goes.sound all (ready-now images setup old flat m goes h free) given).same

pub drain_pays : (images : List Image) (setup : Setup) (h : ℕ) (old new : RackView) (noted : List Note) (flat : PageView → PageImageView) (m : State) → GoesWith images setup old flat m
    → OwesNothingFor h old → Leads images (Drain h) old new noted → IsPermutation (labels noted ++ owed new) (asked_labels setup m.threads (Drain h) ++ owed old)
drain_pays images setup h old new noted flat m goes free given =
    (drain-asks images setup m.threads flat h old new noted goes.sound (ready-now images setup old flat m goes h free) given).same

-- what is true of every blade is true of some
narrowed : (asked : List Label) (Elsewhere : ℕ → Type 0) (old new : RackView) (noted : List Note) → Does asked Any old new noted → Does asked Elsewhere old new noted
narrowed asked Elsewhere old new noted does = record { same = does.same; plan = does.plan; rests = λ c now apart there. does.rests c now tt there }

-- one event of it
event-does : (images : List Image) (setup : Setup) (first : RackView) (flat : PageView → PageImageView) (m : State) → GoesWith images setup first flat m → (event : Event) (old new : RackView) (noted : List Note)
    → old.plan ≡ first.plan → IsSafe old → AreNeeded images old → ((c : ℕ) → asked_blade first.plan event ≡ Some c → Rests first old c)
    → Leads images event old new noted → Does (asked_labels setup m.threads event) (NotOf old event) old new noted
event-does images setup first flat m goes (Step h) old new noted plan safe all rests given =
    step-asks images setup m.threads flat h old new noted (fits-setup images setup first flat m goes old plan) safe.sound.blades all
    (ready-at images setup first flat m goes old plan h (λ thread planned. rests thread.blade (ap (option_map (λ (t : ThreadPlan). t.blade)) (ap (λ p. slice_get p.threads h) (sym plan) ∙ planned)))) given
event-does images setup first flat m goes (Drain h) old new noted plan safe all rests given =
    drain-asks images setup m.threads flat h old new noted safe.sound.blades
    (ready-at images setup first flat m goes old plan h (λ thread planned. rests thread.blade (ap (option_map (λ (t : ThreadPlan). t.blade)) (ap (λ p. slice_get p.threads h) (sym plan) ∙ planned)))) given
event-does images setup first flat m goes (Evict blade page) old new noted plan safe all rests given = narrowed [] (NotOf old (Evict blade page)) old new noted (pays-owed images (Evict blade page) old new noted tt safe all given)
event-does images setup first flat m goes (Deliver link side k) old new noted plan safe all rests given = narrowed [] (NotOf old (Deliver link side k)) old new noted (pays-owed images (Deliver link side k) old new noted tt safe all given)
event-does images setup first flat m goes (Lose link side k) old new noted plan safe all rests given = narrowed [] (NotOf old (Lose link side k)) old new noted (pays-owed images (Lose link side k) old new noted tt safe all given)
event-does images setup first flat m goes (Repeat link side k) old new noted plan safe all rests given = narrowed [] (NotOf old (Repeat link side k)) old new noted (pays-owed images (Repeat link side k) old new noted tt safe all given)
event-does images setup first flat m goes (Resend link) old new noted plan safe all rests given = narrowed [] (NotOf old (Resend link)) old new noted (pays-owed images (Resend link) old new noted tt safe all given)
event-does images setup first flat m goes Epoch old new noted plan safe all rests given = narrowed [] (NotOf old Epoch) old new noted (pays-owed images Epoch old new noted tt safe all given)
event-does images setup first flat m goes (Ask command) old new noted plan safe all rests given = absurd given
event-does images setup first flat m goes Settle old new noted plan safe all rests given = absurd given

-- no blade
abbrev pub Nowhere : ℕ → Type 0
Nowhere c = ⊥

stretch-does : (images : List Image) (setup : Setup) (first : RackView) (flat : PageView → PageImageView) (m : State) → GoesWith images setup first flat m → (events : List Event) (old new : RackView) (noted : List Note)
    → old.plan ≡ first.plan → IsSafe old → AreNeeded images old → AreOfRack events → IsOneEach first.plan events → ((c : ℕ) → AsksAt first.plan c events → Rests first old c)
    → Reaches images events old new noted → Does (all_asked setup m.threads events) Nowhere old new noted
stretch-does images setup first flat m goes [] old new noted plan safe all fits each rests reaches = narrowed [] Nowhere old new noted
    (does-nothing old new noted (ap (λ (r : RackView). r.plan) reaches.0) (ap (λ (r : RackView). r.blades) reaches.0) (ap labels reaches.1))
stretch-does images setup first flat m goes (event ∷ events) old new noted plan safe all fits each rests reaches =
    let mid = reaches.0 in
    let one = event-does images setup first flat m goes event old mid reaches.1 plan safe all (λ c here. rests c (inl here)) reaches.3 in
    let rests_on : (c : ℕ) → AsksAt first.plan c events → Rests first mid c = λ c asks now there.
    let away : NotOf old event c = λ here. not-at first.plan c events (each.0 c (ap (λ p. asked_blade p event) (sym plan) ∙ here)) asks in
    let r = one.rests c now away there in
    let was = rests c (inr asks) r.0 r.1 in
    (was.0, was.1, left-then was.0 r.0 now was.2 (r.2 was.2.free)) in
    let later = stretch-does images setup first flat m goes events mid new reaches.2 (one.plan ∙ plan) (event_keeps images event old mid reaches.1 fits.0 safe reaches.3)
    (event_needs images event old mid reaches.1 safe reaches.3 all) fits.1 each.1 rests_on reaches.4 in
    subst (Does (all_asked setup m.threads (event ∷ events)) Nowhere old new) (sym reaches.5)
    (does-then (asked_labels setup m.threads event) (all_asked setup m.threads events) (NotOf old event) Nowhere Nowhere old mid new reaches.1 reaches.2 (λ c no. absurd no) one later)

rests-first : (first : RackView) → owed first ≡ [] → (c : ℕ) → Rests first first c
rests-first first e c now there = (now, there, record { plan = refl; harts = refl; free = none-owed first.blades c now e there })

-- From a rack that owes nothing: what is noted and what is owed then is what the events ask for.
stretch : (images : List Image) (setup : Setup) (events : List Event) (old new : RackView) (noted : List Note) (flat : PageView → PageImageView) (m : State) → GoesWith images setup old flat m
    → IsSafe old → AreNeeded images old → owed old ≡ [] → AreOfRack events → IsOneEach old.plan events → Reaches images events old new noted
    → IsPermutation (labels noted ++ owed new) (all_asked setup m.threads events)
stretch images setup events old new noted flat m goes safe all none fits each reaches =
    let does = stretch-does images setup old flat m goes events old new noted refl safe all fits each (λ c asks. rests-first old none c) reaches in
    subst (IsPermutation (labels noted ++ owed new)) (ap (λ l. all_asked setup m.threads events ++ l) none ∙ append-nil (all_asked setup m.threads events)) does.same

-- ---- a settling

settling-does : (images : List Image) (events : List Event) (old new : RackView) (noted : List Note) → IsSafe old → AreNeeded images old → AreOfRack events → AskNothing events → Reaches images events old new noted
    → Does [] Any old new noted
settling-does images [] old new noted safe all fits none reaches = does-nothing old new noted (ap (λ (r : RackView). r.plan) reaches.0) (ap (λ (r : RackView). r.blades) reaches.0) (ap labels reaches.1)
settling-does images (event ∷ events) old new noted safe all fits none reaches =
    let mid = reaches.0 in
    subst (Does [] Any old new) (sym reaches.5) (does-then [] [] Any Any Any old mid new reaches.1 reaches.2 (λ c apart. (apart, apart))
    (pays-owed images event old mid reaches.1 none.0 safe all reaches.3)
    (settling-does images events mid new reaches.2 (event_keeps images event old mid reaches.1 fits.0 safe reaches.3) (event_needs images event old mid reaches.1 safe reaches.3 all) fits.1 none.1 reaches.4))

-- Where nothing is owed at its end it notes what was owed.
pub settling : (images : List Image) (turns : List Event) (old new : RackView) (noted : List Note) → IsSafe old → AreNeeded images old → AreOfRack turns → AskNothing turns → Reaches images turns old new noted → owed new ≡ []
    → IsPermutation (labels noted) (owed old)
settling images turns old new noted safe all fits none reaches end =
    subst (λ l. IsPermutation l (owed old)) (ap (λ l. labels noted ++ l) end ∙ append-nil (labels noted)) (settling-does images turns old new noted safe all fits none reaches).same

pub settling-one : (images : List Image) (turns : List Event) (old new : RackView) (noted : List Note) (l : Label) → IsSafe old → AreNeeded images old → AreOfRack turns → AskNothing turns → Reaches images turns old new noted → owed new ≡ []
    → owed old ≡ l ∷ [] → labels noted ≡ l ∷ []
settling-one images turns old new noted l safe all fits none reaches end e = only-one (labels noted) l (subst (IsPermutation (labels noted)) e (settling images turns old new noted safe all fits none reaches end))

pub settling-none : (images : List Image) (turns : List Event) (old new : RackView) (noted : List Note) → IsSafe old → AreNeeded images old → AreOfRack turns → AskNothing turns → Reaches images turns old new noted → owed new ≡ []
    → owed old ≡ [] → labels noted ≡ []
settling-none images turns old new noted safe all fits none reaches end e = only-none (labels noted) (subst (IsPermutation (labels noted)) e (settling images turns old new noted safe all fits none reaches end))

-- ---- a stretch and the settling behind it

pub safe-log : (images : List Image) (rack : RackView) (log : List Note) → StandsForLog images rack log → IsSafe rack
safe-log images rack log stands = record { flat = stands.at.flat; coherent = stands.at.coherent; sound = stands.at.sound }

-- A stretch of a rack that stands for its log: what each event asks for is read in the state to which the log leads.
pub stretch-log : (images : List Image) (events : List Event) (old new : RackView) (log noted : List Note) → (stands : StandsForLog images old log) → AreNeeded images old → owed old ≡ [] → AreOfRack events
    → IsOneEach old.plan events → Reaches images events old new noted → IsPermutation (labels noted ++ owed new) (all_asked (made_from images old.plan) stands.state.threads events)
stretch-log images events old new log noted stands all none fits each reaches =
    stretch images (made_from images old.plan) events old new noted stands.at.flat stands.state stands.at.goes (safe-log images old log stands) all none fits each reaches

pub stretch-settles : (images : List Image) (events turns : List Event) (old mid new : RackView) (log noted later : List Note) → (stands : StandsForLog images old log) → AreNeeded images old → owed old ≡ []
    → AreOfRack events → IsOneEach old.plan events → Reaches images events old mid noted → AreOfRack turns → AskNothing turns → Reaches images turns mid new later → owed new ≡ []
    → IsPermutation (labels (noted ++ later)) (all_asked (made_from images old.plan) stands.state.threads events)
stretch-settles images events turns old mid new log noted later stands all none fits each reaches fits_turns asks turn end =
    let safe = safe-log images old log stands in
    let settled = settling images turns mid new later (run_keeps-all images events old mid noted fits safe reaches) (run_needs images events old mid noted fits safe reaches all) fits_turns asks turn end in
    subst (λ l. IsPermutation l (all_asked (made_from images old.plan) stands.state.threads events)) (sym (filter_map-append label_of noted later))
    (IsPermutation-trans _ _ _ (IsPermutation-append_right (labels noted) (labels later) (owed mid) settled) (stretch-log images events old mid log noted stands all none fits each reaches))

-- ---- one event

one-event : (plan : RackPlan) (event : Event) (turns : List Event) → AskNothing turns → IsOneEach plan (event ∷ turns)
one-event plan event turns none = (λ c here. away c turns none, each turns none) where
  away : (c : ℕ) (turns : List Event) → AskNothing turns → AllByRecursion (λ other. asked_blade plan other ≡ Some c → ⊥) turns
  away c [] none = tt
  away c (turn ∷ turns) none = ((λ here. let e : None ≡ Some c = sym (none-at plan turn none.0) ∙ here in let never : ⊥ = cc in never), away c turns none.1)

  each : (turns : List Event) → AskNothing turns → IsOneEach plan turns
  each [] none = tt
  each (turn ∷ turns) none = (λ c here. away c turns none.1, each turns none.1)

only-some : (xs : List Label) (o : Option Label) → IsPermutation xs (option_to_list o) → xs ≡ option_to_list o
only-some xs None same = only-none xs same
only-some xs (Some l) same = only-one xs l same

-- an event asks for one label at most
asks-one : (setup : Setup) (state : State) (event : Event) (xs : List Label) → IsPermutation xs (asked_labels setup state.threads event) → xs ≡ asked_labels setup state.threads event
asks-one setup state (Step h) xs same = only-some xs (step_label setup state.threads h) same
asks-one setup state (Drain h) xs same = only-some xs (drain_label state.threads h) same
asks-one setup state (Evict blade page) xs same = only-none xs same
asks-one setup state (Deliver link side k) xs same = only-none xs same
asks-one setup state (Lose link side k) xs same = only-none xs same
asks-one setup state (Repeat link side k) xs same = only-none xs same
asks-one setup state (Resend link) xs same = only-none xs same
asks-one setup state Epoch xs same = only-none xs same
asks-one setup state (Ask command) xs same = only-none xs same
asks-one setup state Settle xs same = only-none xs same

-- so do all events, where there is one at most
pub few-asked : (setup : Setup) (state : State) (events : List Event) (xs : List Label) → length events ≤ 1 → IsPermutation xs (all_asked setup state.threads events) → xs ≡ all_asked setup state.threads events
few-asked setup state [] xs few same = only-none xs same
few-asked setup state (event ∷ []) xs few same =
    asks-one setup state event xs (subst (IsPermutation xs) (append-nil (asked_labels setup state.threads event)) same) ∙ sym (append-nil (asked_labels setup state.threads event))
few-asked setup state (event ∷ other ∷ events) xs few same = let never : ⊥ = omega (arith, few) in absurd never

pub event-settles : (images : List Image) (event : Event) (turns : List Event) (old mid new : RackView) (log noted later : List Note) → (stands : StandsForLog images old log) → AreNeeded images old → owed old ≡ []
    → IsOfRack event → Leads images event old mid noted → AreOfRack turns → AskNothing turns → Reaches images turns mid new later → owed new ≡ []
    → labels (noted ++ later) ≡ asked_labels (made_from images old.plan) stands.state.threads event
event-settles images event turns old mid new log noted later stands all none fits given fits_turns asks turn end =
    let setup = made_from images old.plan in
    let alone : Reaches images (event ∷ []) old mid noted = (mid, noted, [], given, (refl, refl), sym (append-nil noted)) in
    asks-one setup stands.state event (labels (noted ++ later))
    (subst (IsPermutation (labels (noted ++ later))) (append-nil (asked_labels setup stands.state.threads event))
    (stretch-settles images (event ∷ []) turns old mid new log noted later stands all none (fits, tt) ((λ c here. tt), tt) alone fits_turns asks turn end))

-- ---- events that are settled one by one

-- an event that is settled notes just what it asks for
settles-one : (images : List Image) (event : Event) (old new : RackView) (log noted : List Note) → (stands : StandsForLog images old log) → AreNeeded images old → owed old ≡ [] → IsOfRack event
    → LeadsAndSettles images event old new noted → labels noted ≡ asked_labels (made_from images old.plan) stands.state.threads event
settles-one images event old new log noted stands all none fits settles =
    let setup = made_from images old.plan in
    let same = stretch-log images (event ∷ settles.turns) old new log noted stands all none (fits, settles.fits) (one-event old.plan event settles.turns settles.asks) settles.reaches in
    asks-one setup stands.state event (labels noted)
    (subst (λ l. IsPermutation l (asked_labels setup stands.state.threads event)) (ap (λ l. labels noted ++ l) settles.settled ∙ append-nil (labels noted))
    (subst (IsPermutation (labels noted ++ owed new)) (ap (λ l. asked_labels setup stands.state.threads event ++ l) (all-none setup stands.state settles.turns settles.asks)
    ∙ append-nil (asked_labels setup stands.state.threads event)) same))

-- The labels of events that are settled one by one are a function of what the machine is made from and of the events.
pub settles-each : (images : List Image) (events : List Event) (first last : RackView) (log noted : List Note) → StandsForLog images first log → AreNeeded images first → owed first ≡ [] → AreOfRack events
    → SettlesEach images events first last noted → labels noted ≡ settled_labels (made_from images first.plan) (labels log) events
settles-each images [] first last log noted stands all none fits settles = ap labels settles.1
settles-each images (event ∷ events) first last log noted stands all none fits settles =
    let mid = settles.0 in
    let now = settles.1 in
    let later = settles.2 in
    let s = settles.3 in
    let setup = made_from images first.plan in
    let safe = safe-log images first log stands in
    let of_all : AreOfRack (event ∷ s.turns) = (fits.0, s.fits) in
    let does = stretch-does images setup first stands.at.flat stands.state stands.at.goes (event ∷ s.turns) first mid now refl safe all of_all (one-event first.plan event s.turns s.asks)
    (λ c asks. rests-first first none c) s.reaches in
    let next = runs-log images (event ∷ s.turns) first mid log now of_all stands s.reaches s.counted in
    let now_is : labels now ≡ asked_after setup (labels log) event = settles-one images event first mid log now stands all none fits.0 s
    ∙ ap (λ r. asked_labels setup (threads_in r) event) (sym stands.run) in
    let rest = settles-each images events mid last (log ++ now) later next (run_needs images (event ∷ s.turns) first mid now of_all safe s.reaches all) s.settled fits.1 settles.4 in
    let behind : labels later ≡ settled_labels setup (labels log ++ asked_after setup (labels log) event) events = rest
    ∙ (λ i. settled_labels (made_from images (does.plan i)) (filter_map-append label_of log now i) events) ∙ ap (λ l. settled_labels setup (labels log ++ l) events) now_is in
    ap labels settles.5 ∙ filter_map-append label_of now later ∙ (λ i. now_is i ++ behind i)

pub settles-start : (images : List Image) (plan : RackPlan) (events : List Event) (first last : RackView) (noted : List Note) → IsFit plan → IsStart plan first → AreOfRack events
    → SettlesEach images events first last noted → labels noted ≡ settled_labels (made_from images plan) [] events
settles-start images plan events first last noted fit start fits settles =
    settles-each images events first last [] noted (start-logs images plan first fit start) (start_needs images plan first start) (start-owes plan first start) fits settles
    ∙ ap (λ p. settled_labels (made_from images p) [] events) start.of_plan

pub settles-same : (images : List Image) (plan : RackPlan) (events : List Event) (first other last last_other : RackView) (noted noted_other : List Note) → IsFit plan → AreOfRack events
    → IsStart plan first → SettlesEach images events first last noted → IsStart plan other → SettlesEach images events other last_other noted_other → labels noted ≡ labels noted_other
settles-same images plan events first other last last_other noted noted_other fit fits start settles start_other settles_other =
    settles-start images plan events first last noted fit start fits settles ∙ sym (settles-start images plan events other last_other noted_other fit start_other fits settles_other)
