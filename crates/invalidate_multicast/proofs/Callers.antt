-- What the proofs of other crates may cite.
pub use Rattle.invalidate_multicast.proofs.BladeLemmas.{has-blade_above, without-gone, without-other}
pub use Rattle.invalidate_multicast.proofs.Sets.{has_blade-below, power-fits, power-some, with_blade-fits, with_blade-some, without-le, without-other_power}
