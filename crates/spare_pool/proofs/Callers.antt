-- What the proofs of other crates may cite.
pub use Rattle.spare_pool.proofs.Pages.{in_range, range_has}
