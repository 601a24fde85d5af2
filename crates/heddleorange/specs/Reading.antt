-- What a report says of one actor.
use Rattle.std.specs.Prelude.{ℕ, ℤ, List, [], ◌∷◌, ◌++◌, count_by, Option, Some, None, slice_get}
use Rattle.mb_msg.specs.declared.dead_letter.DeadLetter.{DeadLetter}
use Rattle.mb_dead_letters.specs.KeptListView.{KeptListView}
use Rattle.mb_actor.specs.declared.message.Message.{Message}
use Rattle.mb_journal.specs.Entry.{Entry}
use Rattle.mb_journal.specs.Incarnation.{entry_messages}
use Rattle.mb_journal.specs.JournalView.{JournalView}
use Rattle.mb_journal.specs.Counts.{tells_of_envelope}
use Rattle.mb_report.specs.declared.report.ActorReport.{ActorReport}
use Rattle.mb_report.specs.declared.report.Report.{Report}
use Rattle.mb_report.specs.declared.report.SenderReport.{SenderReport}

-- What is shown of the content of this actor, if there is one.
abbrev pub state_of : Option ActorReport → Option ℤ
state_of None = None
state_of (Some actor) = actor.state

-- The journal of this actor, if there is one.
abbrev pub journal_of : Option ActorReport → Option JournalView
journal_of None = None
journal_of (Some actor) = Some actor.journal

-- The entries of a journal, the newest first; none where there is no journal.
abbrev pub entries_of : Option JournalView → List Entry
entries_of None = []
entries_of (Some journal) = journal.entries

-- The messages of all envelopes that an actor handled, over all its lives, the earliest first.
abbrev pub handled_messages : List Entry → List Message
handled_messages [] = []
handled_messages (e ∷ before) = handled_messages before ++ entry_messages e

-- How many envelopes a journal has that were handled or dropped, if there is one.
abbrev pub handled_of : Option JournalView → Option ℕ
handled_of None = None
handled_of (Some journal) = Some (count_by tells_of_envelope journal.entries)

-- The dead letters of this sender, if there is one.
abbrev pub dead_of : Option SenderReport → Option (KeptListView DeadLetter)
dead_of None = None
dead_of (Some sender) = Some sender.dead

-- What the report shows of the content of the actor of this number. The guardian shows nothing, and so does an actor that there is not.
abbrev pub state_in : Report → ℕ → Option ℤ
state_in report id = state_of (slice_get report.actors.items id)

-- The journal of the actor of this number.
abbrev pub journal_in : Report → ℕ → Option JournalView
journal_in report id = journal_of (slice_get report.actors.items id)

-- The entries of the actor of this number, the newest first.
abbrev pub entries_in : Report → ℕ → List Entry
entries_in report id = entries_of (journal_in report id)

-- How many envelopes the actor of this number handled or dropped.
abbrev pub handled_in : Report → ℕ → Option ℕ
handled_in report id = handled_of (journal_in report id)

-- What the sender of this place sent and was told is dead: first each actor as a sender, then the senders outside.
abbrev pub dead_in : Report → ℕ → Option (KeptListView DeadLetter)
dead_in report place = dead_of (slice_get report.senders.items place)
