-- What the proofs of other crates may cite.
pub use Rattle.control_plane.proofs.Runs.{all_below-fails, all_below-more, all_in-holds, is_none-by, placed_below, unmapped-found}
