-- Labels stand in the very event that asks for them, where what they need is at hand.
use Rattle.std.proofs.Common.{◌≡◌, inl, inr, ℕ, suc, ◌+◌, ◌∙◌, ap, sym, refl, subst, List, [], ◌∷◌, ◌++◌, append-nil, length, arith}
use Rattle.std.specs.List.{AllByRecursion}
use Rattle.mind_base.specs.Fit.{IsFit}
use Rattle.mind_base.specs.Page.{PageView}
use Rattle.mind_base.specs.declared.events.Event.{Event}
use Rattle.mind_base.specs.declared.events.Event.TheVariants.{Step, Drain, Evict, Deliver, Lose, Repeat, Resend, Epoch, Ask, Settle}
use Rattle.mind_base.specs.declared.images.Image.{Image}
use Rattle.mind_base.specs.declared.notes.Note.{Note}
use Rattle.mind_base.specs.declared.notes.Note.TheVariants as note
use Rattle.mind_base.specs.declared.plans.RackPlan.{RackPlan}
use Rattle.page_image.specs.PageImage.{PageImageView}
use Rattle.coherence.specs.Held.{Holdings, held_by}
use Rattle.tso_machine.specs.Replay.{Whole, labels, replay}
use Rattle.tso_machine.specs.State.{State, start_state}
use Rattle.rack_core.specs.AtOnce.{AreHeldIn}
use Rattle.rack_core.specs.Events.{Leads}
use Rattle.rack_core.specs.Rack.{RackView}
use Rattle.rack_core.specs.StandLog.{made_from}
use Rattle.rack_core.specs.StandRuns.{AreCounted, GoesWith}
use Rattle.rack_core.specs.Start.{IsStart}
use Rattle.rack_core.specs.Waits.{AreNeeded}
use Rattle.rack_core.proofs.Callers.{executes_at_once, step_drains_at_once, drains_at_once, one_of_step, one_of_drain}
use Rattle.rack_settle.specs.Numbered.{AreOfEvents}
use Rattle.rack_settle.specs.Prompt.{IsPrompt, HappensInLog}
use Rattle.rack_settle.specs.Ran.{IsRunFor, LeadsOrSettles, Ran}
use Rattle.rack_settle.proofs.Numbers.{no-numbers, ran-numbered}
use Rattle.rack_settle.proofs.Schedules.{between}

-- ---- one event

module _ (images : List Image) (old new : RackView) (index : ℕ) (noted : List Note) (flat : PageView → PageImageView) (m : State) (held : Holdings) (goes : GoesWith images (made_from images old.plan) old flat m)
    (needed : AreNeeded images old) (same : AreHeldIn old held) where
  prompt-alone : (event : Event) → Leads images event old new noted → IsPrompt (made_from images old.plan) held m event (note.Event index ∷ noted)
  prompt-alone (Step h) given = record {
    executes = λ now. executes_at_once images (made_from images old.plan) h old new noted flat m held goes needed same now given;
    drains = λ step now. step_drains_at_once images (made_from images old.plan) h old new noted flat m held goes needed step same now given;
    one = one_of_step images h old new noted given;
  }
  prompt-alone (Drain h) given = record {
    drains = λ now. drains_at_once images (made_from images old.plan) h old new noted flat m held goes same now given;
    one = one_of_drain images h old new noted given;
  }
  prompt-alone (Evict blade page) given = tt
  prompt-alone (Deliver link side k) given = tt
  prompt-alone (Lose link side k) given = tt
  prompt-alone (Repeat link side k) given = tt
  prompt-alone (Resend link) given = tt
  prompt-alone Epoch given = tt
  prompt-alone (Ask command) given = tt
  prompt-alone Settle given = tt

  prompt-event : (event : Event) → LeadsOrSettles images event old new noted → IsPrompt (made_from images old.plan) held m event (note.Event index ∷ noted)
  prompt-event event (inr leads) = prompt-alone event leads
  prompt-event event (inl (is, settles)) = subst (λ e. IsPrompt (made_from images old.plan) held m e (note.Event index ∷ noted)) (sym is) tt

-- ---- a schedule

pub happens_in_log : (images : List Image) (plan : RackPlan) (events : List Event) (first last : RackView) (log : List Note) → IsFit plan → IsStart plan first → AllByRecursion (IsRunFor plan) events
    → Ran images 0 events first last log → AreCounted last → (before after : List Event) (event : Event) → events ≡ before ++ (event ∷ after)
    → HappensInLog (made_from images plan) log (length before) event (length after)
happens_in_log images plan events first last log fit start fits ran counted before after event is =
    let whole = between images plan before (event ∷ after) first last log fit start (subst (λ es. AllByRecursion (IsRunFor plan) es) is fits) (subst (λ es. Ran images 0 es first last log) is ran) counted in
    let mid = whole.mid in
    let next = whole.onward.0 in
    let added = whole.onward.1 in
    let later = whole.onward.2 in
    let stands = whole.stands in
    let index = length before in
    let Prompt : RackPlan → Type 0 = λ p. IsPrompt (made_from images p) (held_by whole.one) stands.state event (note.Event index ∷ added) in
    let Run : RackPlan → Type 0 = λ p. replay (made_from images p) (start_state (made_from images p)) (labels whole.one) ≡ Whole stands.state in
    record {
      part = record {
        before = whole.one;
        now = note.Event index ∷ added;
        after = later;
        split = whole.split ∙ ap (λ ns. whole.one ++ ns) whole.onward.6;
        ahead = ran-numbered images 0 before first mid whole.one whole.before;
        own = (added, [], no-numbers mid.plan event added whole.onward.4, refl, ap (λ ns. note.Event index ∷ ns) (sym (append-nil added)));
        behind = subst (λ n. AreOfEvents n (length after) later) (let same : suc index ≡ index + 1 = omega arith in same) (ran-numbered images (suc index) after next last later whole.onward.5);
        state = stands.state;
        run = subst Run whole.same stands.run;
      };
      prompt = subst Prompt whole.same (prompt-event images mid next index added stands.at.flat stands.state (held_by whole.one) stands.at.goes whole.needed (stands.told.matches stands.at.flat).frames event whole.onward.3);
    }
