-- What the proofs of other crates may cite.
pub use Rattle.request_list.proofs.RequestFacts.{apart-fetching_at, apart-filter, apart-push}
