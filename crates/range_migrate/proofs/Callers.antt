-- What the proofs of other crates may cite.
pub use Rattle.range_migrate.proofs.Onward.{reached-first}
