-- A settling, turn by turn.
use Rattle.std.proofs.Common.{◌≡◌, ◌<◌, ◌∙◌, List, [], ◌∷◌, ◌++◌, ap, length, sym, refl, subst, append-nil}
use Rattle.std.proofs.lemmas.List.{append_assoc, append_cancel_left}
use Rattle.mind_base.specs.declared.events.Event.{Event}
use Rattle.mind_base.specs.declared.events.Event.TheVariants as event
use Rattle.mind_base.specs.declared.images.Image.{Image}
use Rattle.mind_base.specs.declared.links.LinkName.{LinkName}
use Rattle.mind_base.specs.declared.notes.Note.{Note}
use Rattle.mind_base.specs.declared.plans.RackPlan.{RackPlan}
use Rattle.compute_blade.specs.Blade.{BeginsWith}
use Rattle.rack_net.specs.Net.{IsLinkOf, links_of_kind}
use Rattle.rack_core.specs.Calls.{HasLink, IsEventFor, IsKept, IsQuiet, Notes}
use Rattle.rack_core.specs.Events.{Leads}
use Rattle.rack_core.specs.Noted.{AreInPlace, StandsIn, CarriesOn}
use Rattle.rack_core.specs.Rack.{RackView}
use Rattle.rack_core.specs.StandLog.{StandsForLog}
use Rattle.rack_core.proofs.Callers.{in-settling, quiet-rack}
use Rattle.rack_settle.specs.Settled.{IsTurn, HasNoTurn, AreTurns, Settles, HasTurned}
use Rattle.rack_settle.specs.Turns.{turns_left}
use Rattle.rack_settle.proofs.TurnsFall.{deliver, resend}
use Rattle.switch_core.proofs.Callers.{all-append}

-- ---- one turn

-- a link of the net is one of the plan
of-plan : (rack : RackView) (link : LinkName) → IsKept rack → IsLinkOf rack.net link → HasLink rack.plan link
of-plan rack link kept of_net =
    subst (λ m. link.number < links_of_kind (length rack.plan.frames) m link.kind) kept.shape.links.1
    (subst (λ b. link.number < links_of_kind b rack.net.memories link.kind) kept.shape.links.0 of_net)

-- the rack takes the event that the rule names
pub turn-fits : (rack : RackView) (turn : Event) → IsKept rack → IsTurn rack turn → IsEventFor rack.plan turn
turn-fits rack (event.Deliver link side k) kept is = of-plan rack link kept is.0.of_net
turn-fits rack (event.Resend link) kept is = of-plan rack link kept is.1.of_net
turn-fits rack (event.Step hart) kept is = absurd is
turn-fits rack (event.Drain hart) kept is = absurd is
turn-fits rack (event.Evict blade page) kept is = absurd is
turn-fits rack (event.Lose link side k) kept is = absurd is
turn-fits rack (event.Repeat link side k) kept is = absurd is
turn-fits rack event.Epoch kept is = absurd is
turn-fits rack (event.Ask command) kept is = absurd is
turn-fits rack event.Settle kept is = absurd is

-- and fewer turns are left behind it
pub turn-lowers : (images : List Image) (turn : Event) (old new : RackView) (noted : List Note) → IsKept old → IsKept new → IsTurn old turn → Leads images turn old new noted
    → turns_left new < turns_left old
turn-lowers images (event.Deliver link side k) old new noted kept kept' is leads =
    deliver images link side old new noted kept kept.shape.net kept'.shape.net is.0 (subst (λ n. Leads images (event.Deliver link side n) old new noted) is.1 leads)
turn-lowers images (event.Resend link) old new noted kept kept' is leads = resend images link old new noted kept kept.shape.net is.0 is.1 leads
turn-lowers images (event.Step hart) old new noted kept kept' is leads = absurd is
turn-lowers images (event.Drain hart) old new noted kept kept' is leads = absurd is
turn-lowers images (event.Evict blade page) old new noted kept kept' is leads = absurd is
turn-lowers images (event.Lose link side k) old new noted kept kept' is leads = absurd is
turn-lowers images (event.Repeat link side k) old new noted kept kept' is leads = absurd is
turn-lowers images event.Epoch old new noted kept kept' is leads = absurd is
turn-lowers images (event.Ask command) old new noted kept kept' is leads = absurd is
turn-lowers images event.Settle old new noted kept kept' is leads = absurd is

pub lowered : (images : List Image) (turn : Event) (old new : RackView) (notes notes' : List Note) → IsKept old → IsKept new → IsTurn old turn
    → Notes (Leads images turn old new) notes notes' → turns_left new < turns_left old
lowered images turn old new notes notes' kept kept' is (noted, leads, log) = turn-lowers images turn old new noted kept kept' is leads

-- ---- one turn more

turns-more : (images : List Image) (turns : List Event) (turn : Event) (first mid last : RackView) (noted added : List Note) → AreTurns images turns first mid noted
    → IsTurn mid turn → Leads images turn mid last added → AreTurns images (turns ++ turn ∷ []) first last (noted ++ added)
turns-more images [] turn first mid last noted added (same, none) is leads = (
  last,
  added,
  [],
  subst (λ r. IsTurn r turn) same is,
  subst (λ r. Leads images turn r last added) same leads,
  (refl, refl),
  ap (λ ns. ns ++ added) none ∙ sym (append-nil added),
)
turns-more images (x ∷ xs) turn first mid last noted added (next, now, later, one, leads_on, rest, split) is leads = (
  next,
  now,
  later ++ added,
  one,
  leads_on,
  turns-more images xs turn next mid last later added rest is leads,
  ap (λ ns. ns ++ added) split ∙ append_assoc now later added,
)

-- what is said of notes that were added is said of the same ones
same-added : (Say : List Note → Type 0) (old new added : List Note) → new ≡ old ++ added → Notes Say old new → Say added
same-added Say old new added is (more, say, same) = subst Say (append_cancel_left old more added (sym same ∙ is)) say

-- notes of turns are notes of a settling
turn-places : (plan : RackPlan) (turn : Event) (notes : List Note) → AreInPlace plan turn notes → AreInPlace plan event.Settle notes
turn-places plan turn [] all = tt
turn-places plan turn (n ∷ notes) all = (in-settling plan turn n all.0, turn-places plan turn notes all.1)

pub turned-none : (images : List Image) (rack : RackView) (log : List Note) → IsKept rack → HasTurned images rack rack log log
turned-none images rack log kept = record {
  turns = [];
  noted = [];
  fits = tt;
  taken = (refl, refl);
  stands = λ before at. subst (StandsForLog images rack) (sym (append-nil before)) at;
  places = tt;
  kept = kept;
  plan = refl;
  log = sym (append-nil log);
}

pub turned-more : (images : List Image) (turn : Event) (first mid last : RackView) (before between behind : List Note) → HasTurned images first mid before between
    → IsTurn mid turn → Notes (Leads images turn mid last) between behind → Notes (CarriesOn images mid last) between behind
    → Notes (AreInPlace mid.plan turn) between behind → IsKept last → last.plan ≡ mid.plan → HasTurned images first last before behind
turned-more images turn first mid last before between behind has is (added, leads_on, log) carries places kept plan =
    let carries_on = same-added (CarriesOn images mid last) between behind added log carries in
    let stand = same-added (AreInPlace mid.plan turn) between behind added log places in
    record {
      turns = has.turns ++ turn ∷ [];
      noted = has.noted ++ added;
      fits = all-append (IsEventFor first.plan) has.turns (turn ∷ []) has.fits (subst (λ p. IsEventFor p turn) has.plan (turn-fits mid turn has.kept is), tt);
      taken = turns-more images has.turns turn first mid last has.noted added has.taken is leads_on;
      stands = λ start at. subst (StandsForLog images last) (append_assoc start has.noted added) (carries_on (start ++ has.noted) (has.stands start at));
      places = all-append (StandsIn first.plan event.Settle) has.noted added has.places (turn-places first.plan turn added (subst (λ p. AreInPlace p turn added) has.plan stand));
      kept = kept;
      plan = plan ∙ has.plan;
      log = log ∙ ap (λ ns. ns ++ added) has.log ∙ append_assoc before has.noted added;
    }

-- where a turn stopped
pub stopped-turn : (images : List Image) (first mid : RackView) (before between behind : List Note) → HasTurned images first mid before between → BeginsWith between behind → BeginsWith before behind
stopped-turn images first mid before between behind has begins = record {
  rest = has.noted ++ begins.rest;
  split = begins.split ∙ ap (λ ns. ns ++ begins.rest) has.log ∙ append_assoc before has.noted begins.rest;
}

-- ---- the end

pub settled-quiet : (rack : RackView) → IsKept rack → HasNoTurn rack → IsQuiet rack
settled-quiet rack kept none = quiet-rack rack kept none.0 none.1

pub settled : (images : List Image) (first last : RackView) (before behind : List Note) → HasTurned images first last before behind → HasNoTurn last
    → Notes (Settles images first last) before behind
settled images first last before behind has none = (has.noted, record { turns = has.turns; fits = has.fits; taken = has.taken; quiet = settled-quiet last has.kept none }, has.log)

pub turned-places : (images : List Image) (first last : RackView) (before behind : List Note) → HasTurned images first last before behind → Notes (AreInPlace first.plan event.Settle) before behind
turned-places images first last before behind has = (has.noted, has.places, has.log)
