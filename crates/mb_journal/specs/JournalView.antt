-- A journal as contracts see it, and its entries by its rows.
use Rattle.std.specs.Prelude.{ℕ, ◌-◌, ◌*◌, ◌/◌, ◌==◌, Bool, if◌then◌else◌, List, length}
use Rattle.mb_msg.specs.JournalMode.{Retention}
use Rattle.mb_actor.specs.declared.effect.Effect.{Effect}
use Rattle.mb_journal.specs.Entry.{Entry}
use Rattle.mb_journal.specs.Entry.Entry.{Handled, System, Dropped}
use Rattle.mb_journal.specs.Entry.Outcome.{Applied, SetAside}
use Rattle.mb_journal.specs.declared.entry.Received.{Received}
use Rattle.mb_journal.specs.declared.entry.Received.TheVariants as arrival
use Rattle.mb_journal.specs.declared.entry.EntryRef.{EntryRef}

-- the entries, the newest first; how many there may be; whether there is room for one more with all its effects; and how much of them is
-- kept, so that they can be read. The others stand in proofs alone
pub record JournalView : Type 0 where
  pub entries : List Entry
  pub limit : ℕ
  pub is_ready : Bool
  pub retention : Retention

-- the index of the first entry that is kept, of this many, where at least the last so many are kept: they are kept in groups of that size,
-- the newest group and the one before. Where at least the last 0 are kept, none is
abbrev pub first_of_last : ℕ → ℕ → ℕ
first_of_last last number = if last == 0 then number else (number / last - 1) * last

-- the index of the first entry of a journal that is kept: from there on all are
abbrev pub first_kept : JournalView → ℕ
first_kept journal = if journal.retention.keeps_all then 0 else first_of_last journal.retention.last (length journal.entries)

-- an entry, of what came and its effects
abbrev pub entry_with : Received → List Effect → Entry
entry_with (arrival.Handled answer envelope reading) effects = Handled envelope reading (Applied answer effects)
entry_with (arrival.System answer number message) effects = System number message (Applied answer effects)
entry_with (arrival.SetAside number message) effects = System number message SetAside
entry_with (arrival.Dropped envelope) effects = Dropped envelope

-- the entry of a record
abbrev pub entry_of : EntryRef → Entry
entry_of r = entry_with r.arrival r.effects.now
