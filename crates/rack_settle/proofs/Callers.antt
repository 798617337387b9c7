-- What the proofs of other crates may cite.
pub use Rattle.rack_settle.proofs.Prompts.{happens_in_log}
pub use Rattle.rack_settle.proofs.Schedules.{settled_labels_of}
