-- The directory: which blocks of pages have an entry, in order.
use Rattle.std.specs.Prelude.{◌≡◌, ℕ, ◌<◌, ◌≤◌, ◌^◌, IsTrue, List, length, All, AllPairs}
use Rattle.mind_base.specs.Range.{IsRange}
use Rattle.region_directory.specs.Block.{AreBlocksApart, is_before}
use Rattle.region_directory.specs.Entry.{changed_at}
use Rattle.region_directory.specs.declared.entries.Entry.{Entry}

-- how many entries there may be, the logarithm of the most pages that a merged block may have, and the entries
pub record DirectoryView : Type 0 where
  pub slots : ℕ
  pub most : ℕ
  pub entries : List Entry

-- each entry has an aligned block of its own; they stand by domain and first page, and are at most the slots,
-- which a 32-bit number counts
pub record IsDirectory (directory : DirectoryView) : Type 0 where
  pub slots_bound : directory.slots < 2 ^ 32
  pub fits : length directory.entries ≤ directory.slots
  pub blocks : All (λ entry. IsRange entry.range.domain entry.range.base entry.range.log) directory.entries
  pub ordered : AllPairs (λ entry later. IsTrue (is_before entry.range later.range)) directory.entries
  pub apart : AllPairs (λ entry later. AreBlocksApart entry.range later.range) directory.entries

-- the entry with this index is changed so, and nothing else; a directory stays one
pub record ChangesEntry (i : ℕ) (change : Entry → Entry) (old new : DirectoryView) : Type 0 where
  pub changed : new ≡ record old { entries = changed_at i change old.entries }
  pub count : length new.entries ≡ length old.entries
  pub valid : IsDirectory new
