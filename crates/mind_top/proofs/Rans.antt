-- A rack that ran through events: its log is a run of the machine, with all events in order.
use Rattle.std.proofs.Common.{◌≡◌, ◌<◌, ℕ, suc, ◌+◌, ◌⊎◌, inl, inr, ◌∙◌, true, false, List, [], ◌∷◌, ◌++◌, length, ap, sym, refl, subst, None, arith}
use Rattle.std.proofs.lemmas.List.{append_assoc, append-nil}
use Rattle.std.specs.List.{AllByRecursion, cons_option}
use Rattle.std.proofs.lemmas.List.Elements.{filter_map-append}
use Rattle.mind_base.specs.declared.events.Event.{Event}
use Rattle.mind_base.specs.declared.events.Event.TheVariants as event
use Rattle.mind_base.specs.declared.images.Image.{Image}
use Rattle.mind_base.specs.declared.links.LinkKind.{LinkKind}
use Rattle.mind_base.specs.declared.links.LinkKind.TheVariants.{Up, Down, To, From}
use Rattle.mind_base.specs.declared.notes.Note.{Note}
use Rattle.mind_base.specs.declared.notes.Note.TheVariants as note
use Rattle.mind_base.specs.declared.plans.RackPlan.{RackPlan}
use Rattle.schedule_text.specs.Event.{IsEventOf}
use Rattle.schedule_text.specs.Link.{ends_of}
use Rattle.schedule_text.specs.Size.{sizes_of}
use Rattle.mind_inputs.specs.Inputs.{IsBuilt, IsRunnable, Accepted}
use Rattle.mind_steps.specs.Run.{setup_of, event_number, events, below, IsWholeRun}
use Rattle.rack_core.specs.Noted.{StandsIn, AreInPlace}
use Rattle.rack_core.specs.Calls.{HasLink}
use Rattle.rack_core.specs.Rack.{RackView}
use Rattle.rack_core.specs.StandLog.{StandsForLog}
use Rattle.rack_settle.specs.Ran.{IsRunFor, Ran}

-- ---- the events of the log

-- what stands in an event has no number of an event
no-number : (plan : RackPlan) (e : Event) (n : Note) → StandsIn plan e n → event_number n ≡ None
no-number plan e (note.Event index) is = absurd is
no-number plan e n is = grind arith

no-events : (plan : RackPlan) (e : Event) (added : List Note) → AreInPlace plan e added → events added ≡ []
no-events plan e [] all = refl
no-events plan e (n ∷ ns) all = ap (λ o. cons_option o (events ns)) (no-number plan e n all.0) ∙ no-events plan e ns all.1

-- behind the numbers up to where it began, the log's events are the numbers up to where it ended
events-from : (images : List Image) (from : ℕ) (es : List Event) (first last : RackView) (log : List Note) → Ran images from es first last log → below (from + length es) ≡ below from ++ events log
events-from images from [] first last log (same, none) = ap below (let is : from + 0 ≡ from = omega arith in is) ∙ sym (append-nil (below from)) ∙ ap (λ ns. below from ++ events ns) (sym none)
events-from images from (e ∷ es) first last log (mid, added, later, leads, stand, rest, is) =
    ap below (let more : from + suc (length es) ≡ suc from + length es = omega arith in more)
    ∙ events-from images (suc from) es mid last later rest
    ∙ append_assoc (below from) (from ∷ []) (events later)
    ∙ ap (λ ns. below from ++ from ∷ ns) (sym (filter_map-append event_number added later ∙ ap (λ ns. ns ++ events later) (no-events first.plan e added stand)))
    ∙ ap (λ ns. below from ++ events ns) (sym is)

-- they are all events, in order from 0
pub ran-events : (images : List Image) (es : List Event) (first last : RackView) (log : List Note) → Ran images 0 es first last log → events log ≡ below (length es)
ran-events images es first last log ran = sym (ap below (let is : length es ≡ 0 + length es = omega arith in is) ∙ events-from images 0 es first last log ran)

-- ---- a log that the rack stands for is a run of the machine

pub whole-run : (images : List Image) (plan : RackPlan) (rack : RackView) (log : List Note) → rack.plan ≡ plan → StandsForLog images rack log → IsWholeRun (setup_of plan images) log
whole-run images plan rack log same stands = let P : RackPlan → Type 0 = λ p. IsWholeRun (setup_of p images) log in subst P same (stands.state, stands.run)

-- ---- events that run on a rack

on-link : (plan : RackPlan) (number : ℕ) (kind : LinkKind) → number < ends_of (sizes_of plan) kind → HasLink plan (record { kind = kind; number = number })
on-link plan number Up fits = fits
on-link plan number Down fits = fits
on-link plan number To fits = fits
on-link plan number From fits = fits

event-fits : (plan : RackPlan) (e : Event) → IsBuilt e → IsEventOf plan e → IsRunFor plan e
event-fits plan (event.Step hart) built is = inr is
event-fits plan (event.Drain hart) built is = inr is
event-fits plan (event.Evict blade page) built is = inr is
event-fits plan (event.Deliver link side k) built is = inr (on-link plan link.number link.kind is)
event-fits plan (event.Lose link side k) built is = inr (on-link plan link.number link.kind is)
event-fits plan (event.Repeat link side k) built is = inr (on-link plan link.number link.kind is)
event-fits plan (event.Resend link) built is = inr (on-link plan link.number link.kind is)
event-fits plan event.Epoch built is = inr tt
event-fits plan (event.Ask command) built is = absurd (let no : false ≡ true = built in cc)
event-fits plan event.Settle built is = inl refl

built-fit : (plan : RackPlan) (es : List Event) → AllByRecursion IsBuilt es → AllByRecursion (IsEventOf plan) es → AllByRecursion (IsRunFor plan) es
built-fit plan [] built are = tt
built-fit plan (e ∷ es) built are = (event-fits plan e built.0 are.0, built-fit plan es built.1 are.1)

-- those of inputs that a rack can run
pub events-fit : (inputs : Accepted) → IsRunnable inputs → AllByRecursion (IsRunFor inputs.plan) inputs.events
events-fit inputs runnable = built-fit inputs.plan inputs.events runnable.built runnable.numbers

-- all of them, of a rack of the same plan
pub fit-by : (plan other : RackPlan) (es xs : List Event) → other ≡ plan → xs ≡ es → AllByRecursion (IsRunFor plan) es → AllByRecursion (IsRunFor other) xs
fit-by plan other es xs planned same all =
    let P : RackPlan → Type 0 = λ p. AllByRecursion (IsRunFor p) xs in
    let Q : List Event → Type 0 = λ ys. AllByRecursion (IsRunFor plan) ys in
    subst P (sym planned) (subst Q (sym same) all)
