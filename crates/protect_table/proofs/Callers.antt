-- What the proofs of other crates may cite.
pub use Rattle.protect_table.proofs.Counting.{all_below-from, all_below-holds, all_below-same, sum_below-none, sum_below-same}
pub use Rattle.protect_table.proofs.Tables.{cover_of-fits, cover_of-most, permission_of-push}
