-- The entries of all journals in one order: a list of places, here with the LAST FIRST, so that what is behind a place in the list stands before it.
use Rattle.std.specs.Prelude.{ℕ, ◌==◌, Bool, List, [], take, reverse, count_by, slice_get, Option, Some, None}
use Rattle.mb_journal.specs.Entry.{Entry}
use Rattle.mb_report.specs.declared.report.ActorReport.{ActorReport}
use Rattle.mb_causal_order.specs.declared.place.Place.{Place}

-- the journal of a report, if there is one
abbrev pub entries_of : Option ActorReport → List Entry
entries_of None = []
entries_of (Some reported) = reported.journal.entries

-- the journal of the actor of this number, the newest entry first
abbrev pub journal_of : List ActorReport → ℕ → List Entry
journal_of actors a = entries_of (slice_get actors a)

-- its first entries, this many, the newest first
abbrev pub earliest : ℕ → List Entry → List Entry
earliest n journal = reverse (take n (reverse journal))

-- the place is in the journal of the actor of this number
abbrev pub is_of : ℕ → Place → Bool
is_of a p = p.actor == a

-- how many entries of the actor of this number stand in an order
abbrev pub entries_placed : ℕ → List Place → ℕ
entries_placed a order = count_by (is_of a) order

-- the entry at a place, if there is one
abbrev pub entry_at : List ActorReport → Place → Option Entry
entry_at actors p = slice_get (reverse (journal_of actors p.actor)) p.index
