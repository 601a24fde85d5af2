-- Entries of which the newest are kept, as contracts see them.
use Rattle.std.specs.Prelude.{ℕ, List}
use Rattle.mb_journal.specs.Entry.{Entry}

-- all entries, the newest first; and how many of the newest are kept at least
pub record LastEntriesView : Type 0 where
  pub entries : List Entry
  pub last : ℕ
