-- What holds of entries of which the newest are kept.
use Rattle.std.specs.Prelude.{◌≡◌, ℕ, ◌*◌, ◌<◌, ◌⊎◌, List, [], ◌++◌, length}
use Rattle.mb_journal.specs.LastEntries.{LastEntriesView}
use Rattle.mb_journal.specs.declared.last_entries.LastEntries.TheInside.{Inside}

-- the entries of the list that is being filled, those of the list before, and those that are kept no more
abbrev pub last_view : Inside → LastEntriesView
last_view j = record { entries = j.newer.entries ++ j.older.entries ++ j.gone; last = j.last }

-- what holds of them at rest: each list has room for as many entries as are to be kept; the list that is being filled has fewer; and the one
-- before has so many, behind full lists that were cleared, or none if no list was full yet
pub record KeepsLast (j : Inside) : Type 0 where
  pub above_0 : 0 < j.last
  pub newer_room : j.newer.places ≡ j.last
  pub newer_reserved : j.newer.reserved ≡ j.last
  pub older_reserved : j.older.reserved ≡ j.last
  pub not_full : length j.newer.entries < j.last
  pub full_lists : ((j.older.entries ≡ []) × (j.gone ≡ [])) ⊎ ((lists : ℕ) × (length j.older.entries ≡ j.last) × (length j.gone ≡ lists * j.last))
