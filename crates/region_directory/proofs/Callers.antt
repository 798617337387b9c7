-- What the proofs of other crates may cite.
pub use Rattle.region_directory.proofs.BlockLemmas.{apart-from_test, block_of-InRange, has-from_test, one-page, range-test_passes, test-from_has}
pub use Rattle.region_directory.proofs.ChangeLemmas.{length-changed, set-changed}
pub use Rattle.region_directory.proofs.ResizeLemmas.{IsDirectory-merge, IsDirectory-two, IsHalved, merged-hits, split-halved}
pub use Rattle.region_directory.proofs.RoomLemmas.{all-fail}
pub use Rattle.region_directory.proofs.SearchLemmas.{blank}
