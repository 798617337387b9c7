-- What the proofs of other crates may cite.
pub use Rattle.plain_text.proofs.LineCuts.{first_line, whole}
pub use Rattle.plain_text.proofs.Reading.{ends, goes_on, stops}
