-- What the entries at places send, by the acts of each; and how many envelopes an actor sends by its entries.
use Rattle.std.specs.Prelude.{ℕ, ◌+◌, Bool, true, false, List, [], ◌∷◌, count_by, slice_get, Option, Some}
use Rattle.mb_journal.specs.Acts.{Act, acts}
use Rattle.mb_journal.specs.Acts.Act.{Tell}
use Rattle.mb_journal.specs.Entry.{Entry}
use Rattle.mb_journal.specs.Identity.{Identity}
use Rattle.mb_report.specs.declared.report.ActorReport.{ActorReport}
use Rattle.mb_causal_order.specs.Places.{earliest, entry_at, journal_of}
use Rattle.mb_causal_order.specs.declared.place.Place.{Place}

-- the acts of an entry that came after these, of an actor that is known
abbrev pub acts_of_entry : Option Identity → Option Entry → List Entry → List Act
acts_of_entry (Some who) (Some e) before = acts who before e
acts_of_entry _ _ before = []

-- the acts of the entry at a place: what its actor's cell has to send and to do
abbrev pub acts_at : List Identity → List ActorReport → Place → List Act
acts_at who actors p = acts_of_entry (slice_get who p.actor) (entry_at actors p) (earliest p.index (journal_of actors p.actor))

-- the act sends an envelope
abbrev pub is_tell : Act → Bool
is_tell (Tell x body) = true
is_tell _ = false

-- how many envelopes an actor sends by these entries, of which the newest is first
unfoldable pub sent : Option Identity → List Entry → ℕ
sent who [] = 0
sent who (e ∷ before) = sent who before + count_by is_tell (acts_of_entry who (Some e) before)
