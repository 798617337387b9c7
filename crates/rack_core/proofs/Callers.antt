-- What the proofs of other crates may cite.
pub use Rattle.rack_core.proofs.Events.Delivering.{asks_taken, gave_on, with_net-sound}
pub use Rattle.rack_core.proofs.Events.Handing.{each-handed}
pub use Rattle.rack_core.proofs.Events.Sending.{as-many}
pub use Rattle.rack_core.proofs.Events.Whole.{event_keeps, run_keeps-all}
pub use Rattle.rack_core.proofs.Functions.Events.{few-links, of-rack}
pub use Rattle.rack_core.proofs.Lists.Lookups.{Entries, found-put_fresh, found-put_pushed, found-put_replaced, slice_get-set, slice_get-set_other}
pub use Rattle.rack_core.proofs.Lists.Parts.{all_front, append-none}
pub use Rattle.rack_core.proofs.Lists.Sums.{below-changed}
pub use Rattle.rack_core.proofs.Log.Accesses.Logs.{accesses-event}
pub use Rattle.rack_core.proofs.Log.AtOnce.Events.{drains_at_once, executes_at_once, looked-up, one_of_drain, one_of_step, step_drains_at_once}
pub use Rattle.rack_core.proofs.Log.Held.Rack.{log-event}
pub use Rattle.rack_core.proofs.Log.Hits.Blades.{bit-most, marked, marked-cons}
pub use Rattle.rack_core.proofs.Log.Hits.Rack.{noted-released}
pub use Rattle.rack_core.proofs.Log.Places.Events.{in-settling}
pub use Rattle.rack_core.proofs.Machine.Counts.{BladesStay, blades-same, blades-then, counted-before}
pub use Rattle.rack_core.proofs.Machine.Logs.{runs-log, runs-stay}
pub use Rattle.rack_core.proofs.Machine.Mids.{taken-silent}
pub use Rattle.rack_core.proofs.Machine.Shaped.{shaped-counted}
pub use Rattle.rack_core.proofs.Machine.Silent.{receives-silent}
pub use Rattle.rack_core.proofs.Machine.Starts.{start-logs}
unfoldable pub use Rattle.rack_core.proofs.Moves.Blade.Deeds.{buffer_of}
pub use Rattle.rack_core.proofs.Moves.Blade.Fills.{Ends, resumed-is}
unfoldable pub use Rattle.rack_core.proofs.Moves.Blade.Fills.{awaking}
pub use Rattle.rack_core.proofs.Moves.Blade.Handed.{blade_handed, did, handed_may_come}
pub use Rattle.rack_core.proofs.Moves.Blade.Resuming.{resumes-as}
pub use Rattle.rack_core.proofs.Moves.Blade.Sound.{hart_in-set, of_found}
pub use Rattle.rack_core.proofs.Moves.Blade.Steps.{OfHart, for_hart-some}
pub use Rattle.rack_core.proofs.Moves.Switch.Sets.{one-here, one-other, with-here}
pub use Rattle.rack_core.proofs.Waits.GoOn.{carried, resumes}
pub use Rattle.rack_core.proofs.Waits.Messages.{message_keeps, out_for}
pub use Rattle.rack_core.proofs.Waits.Queues.{deed_fits}
pub use Rattle.rack_core.proofs.Waits.Quiet.{quiet-rack}
pub use Rattle.rack_core.proofs.Waits.Runs.{blade_keeps, event_needs, run_needs, start_needs}
