-- What the proofs of other crates may cite.
pub use Rattle.link_retry.proofs.InOrder.{deliver_keeps}
