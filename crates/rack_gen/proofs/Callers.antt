-- What the proofs of other crates may cite.
pub use Rattle.rack_gen.proofs.Made.{IsSized, text_fits, text_reads}
