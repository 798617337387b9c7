-- Each event keeps what is true of the rack.
use Rattle.std.proofs.Common.{ℕ, List, [], ◌∷◌, Option, None, Some, slice_get, sym, subst}
use Rattle.mind_base.specs.declared.events.Event.{Event}
use Rattle.mind_base.specs.declared.events.Event.TheVariants.{Step, Drain, Evict, Deliver, Lose, Repeat, Resend, Epoch, Ask, Settle}
use Rattle.mind_base.specs.declared.images.Image.{Image}
use Rattle.mind_base.specs.declared.notes.Note.{Note}
use Rattle.mind_base.specs.declared.plans.ThreadPlan.{ThreadPlan}
use Rattle.compute_blade.specs.Blade.{BladeView, BladeEffect}
use Rattle.compute_blade.specs.Pages.{given_up}
use Rattle.compute_blade.specs.Steps.{after_step, blade_after_drain}
use Rattle.coherence.proofs.Callers.{run_keeps}
use Rattle.rack_core.specs.BladeMoves.{BladeLeads}
use Rattle.rack_core.specs.Events.{HartDoes, Leads}
use Rattle.rack_core.specs.Rack.{RackView}
use Rattle.rack_core.specs.Safe.{IsSafe, IsOfRack, AreOfRack, Reaches}
use Rattle.rack_core.specs.Seen.{seen}
use Rattle.rack_core.proofs.Moves.Blade.Handed.{step_leads, drain_leads, evict_leads}
use Rattle.rack_core.proofs.Events.Delivering.{delivers, net_changes}
use Rattle.rack_core.proofs.Events.Handing.{Leaves, blade_leaves, still_sound}

-- a blade has acted
acted : (c : ℕ) (old new : RackView) (safe : IsSafe old) → Leaves old new → BladeLeads c (seen old safe.flat) (seen new) new → IsSafe new
acted c old new safe leaves led = record {
  flat = led.leads.flat;
  coherent = run_keeps (seen old safe.flat) (seen new led.leads.flat) led.leads.moves safe.coherent led.leads.run;
  sound = still_sound old new leaves led.leads.sound safe.sound;
}

-- a hart's blade has
pub hart_leaves : (thread : Option ThreadPlan) (act : BladeView → Option BladeEffect) (old new : RackView) (noted : List Note) → HartDoes thread act old new noted → Leaves old new
hart_leaves None act old new noted does = absurd does
hart_leaves (Some thread) act old new noted does = blade_leaves thread.blade act old new noted does

pub event_keeps : (images : List Image) (event : Event) (old new : RackView) (noted : List Note) → IsOfRack event → IsSafe old → Leads images event old new noted → IsSafe new
event_keeps images (Step hart) old new noted fits safe given =
    let led = step_leads images hart old new noted safe.flat safe.coherent safe.sound.blades given in
    acted led.thread.blade old new safe (hart_leaves (slice_get old.plan.threads hart) (after_step images hart) old new noted given) led.does
event_keeps images (Drain hart) old new noted fits safe given =
    let led = drain_leads images hart old new noted safe.flat safe.coherent safe.sound.blades given in
    acted led.thread.blade old new safe (hart_leaves (slice_get old.plan.threads hart) (blade_after_drain hart) old new noted given) led.does
event_keeps images (Evict blade page) old new noted fits safe given =
    acted blade old new safe (blade_leaves blade (λ b. Some (given_up page b)) old new noted given) (evict_leads images blade page old new noted safe.flat safe.coherent safe.sound.blades given)
event_keeps images (Deliver link side k) old new noted fits safe given = delivers images link side k old new noted fits safe given
event_keeps images (Lose link side k) old new noted fits safe given = subst IsSafe (sym given.after) (net_changes link old given.net given.changes.fifo given.only safe)
event_keeps images (Repeat link side k) old new noted fits safe given = subst IsSafe (sym given.after) (net_changes link old given.net given.changes.fifo given.only safe)
event_keeps images (Resend link) old new noted fits safe given = subst IsSafe (sym given.after) (net_changes link old given.net given.changes.fifo given.only safe)
event_keeps images Epoch old new noted fits safe given = subst IsSafe (sym given.0) safe
event_keeps images (Ask command) old new noted fits safe given = absurd given
event_keeps images Settle old new noted fits safe given = absurd given

pub run_keeps-all : (images : List Image) (events : List Event) (old new : RackView) (noted : List Note) → AreOfRack events → IsSafe old → Reaches images events old new noted → IsSafe new
run_keeps-all images [] old new noted fits safe given = subst IsSafe (sym given.0) safe
run_keeps-all images (event ∷ events) old new noted fits safe given =
    run_keeps-all images events given.0 new given.2 fits.1 (event_keeps images event old given.0 given.1 fits.0 safe given.3) given.4
