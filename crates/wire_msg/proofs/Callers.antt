-- What the proofs of other crates may cite.
pub use Rattle.wire_msg.proofs.Messages.{whole_again}
