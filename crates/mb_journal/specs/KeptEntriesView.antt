-- Entries that are kept, as contracts see them.
use Rattle.std.specs.Prelude.{ℕ, List}
use Rattle.mb_journal.specs.Entry.{Entry}

-- the entries, the newest first; up to how many entries there is room, each with all its effects; and for how many there is room once they are
-- cleared
pub record KeptEntriesView : Type 0 where
  pub entries : List Entry
  pub places : ℕ
  pub reserved : ℕ
