-- What a journal stores of its entries.
use Rattle.std.specs.Prelude.{◌≡◌, ℕ, ◌≤◌, ⊤, true, false, if◌then◌else◌, List, length, nat_lt}
use Rattle.mb_msg.specs.JournalMode.{Retention}
use Rattle.mb_journal.specs.Counts.{AreCountsOf}
use Rattle.mb_journal.specs.Entry.{Entry}
use Rattle.mb_journal.specs.JournalView.{JournalView, first_of_last}
use Rattle.mb_journal.specs.declared.journal.Journal.TheInside.{Inside}
use Rattle.mb_journal.specs.declared.store.Store.{Store}
use Rattle.mb_journal.specs.declared.store.Store.TheVariants.{Kept, Counted, Last}

-- the entries, the newest first
abbrev pub stored : Store → List Entry
stored (Kept kept) = kept.entries
stored (Counted entries) = entries
stored (Last newest) = newest.value.entries

-- how much of them is kept, so that they can be read
abbrev pub retention_in : Store → Retention
retention_in (Kept kept) = record { keeps_all = true; last = 0 }
retention_in (Counted entries) = record { keeps_all = false; last = 0 }
retention_in (Last newest) = record { keeps_all = false; last = newest.value.last }

-- the index of the first entry that is kept
abbrev pub first_of : Store → ℕ
first_of store = if (retention_in store).keeps_all then 0 else first_of_last (retention_in store).last (length (stored store))

-- there is room for entries up to this number, each with all its effects
abbrev pub HasRoom : ℕ → Store → Type 0
HasRoom number (Kept kept) = number ≤ kept.places
HasRoom number (Counted entries) = ⊤
HasRoom number (Last newest) = ⊤

-- what holds of a journal at rest: its length and counts are those of the entries; there are no more of them than there may be; and up to
-- the number that is prepared, which is within the limit too, there is room
pub record AgreesWithStore (j : Inside) : Type 0 where
  pub number : j.len ≡ length (stored j.store)
  pub counted : AreCountsOf (stored j.store) j.counts
  pub within : j.len ≤ j.limit
  pub prepared_within : j.prepared ≤ j.limit
  pub room : HasRoom j.prepared j.store

-- a journal as contracts see it
abbrev pub view_of : Inside → JournalView
view_of j = record { entries = stored j.store; limit = j.limit; is_ready = nat_lt j.len j.prepared; retention = retention_in j.store }
