-- What the proofs of other crates may cite.
pub use Rattle.rack_net.proofs.Naming.{same-or-not}
