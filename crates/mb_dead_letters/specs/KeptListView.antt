-- A list of which all items are kept, or the newest, or none, as contracts see it (this project's own profile).
use Rattle.std.specs.Prelude.{ℕ, List}
use Rattle.mb_msg.specs.JournalMode.{Retention}

-- how many items a list may have that does not keep all: 2^64 - 1
abbrev pub most_items : ℕ
most_items = 18446744073709551615

-- all items, in order; those of them that are kept, so that they can be read; how much is kept; and for how many more items there is room. The
-- items that are not kept stand in proofs alone
pub record KeptListView (T : Type 0) : Type 0 where
  pub items : List T
  pub kept : List T
  pub retention : Retention
  pub room : ℕ
