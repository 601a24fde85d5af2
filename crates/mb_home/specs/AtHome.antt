-- When a home may lie in its actor's slot, and what it says of the actor there.
use Rattle.std.specs.Prelude.{◌≡◌, ℕ, ◌+◌, ◌%◌, ◌^◌, false, List, [], ◌∷◌, ◌++◌, length}
use Rattle.std.specs.List.{flat_map}
use Rattle.mb_msg.specs.declared.dead_letter.DeadLetter.{DeadLetter}
use Rattle.mb_msg.specs.declared.dead_letter.DeadLetterReason.{DeadLetterReason}
use Rattle.mb_msg.specs.declared.dead_letter.DeadLetterReason.TheVariants as why
use Rattle.mb_msg.specs.declared.system.SysMsg.{SysMsg}
use Rattle.mb_status.specs.Mailbox.{Mailbox}
use Rattle.mb_actor.specs.Behaviour.{Moment, Reply}
use Rattle.mb_journal.specs.Aside.{next_number}
use Rattle.mb_journal.specs.Entry.{Entry}
use Rattle.mb_journal.specs.Entry.Entry.{Handled, System, Dropped}
use Rattle.mb_journal.specs.Identity.{Identity}
use Rattle.mb_journal.specs.Life.{closed}
use Rattle.mb_journal.specs.Suspension.{count}
use Rattle.mb_gate.specs.HomeFacts.{HomeFacts}
use Rattle.mb_home.specs.Contents.{Contents}
use Rattle.mb_home.specs.NamedActors.{NamesActors}
use Rattle.mb_home.specs.AgreesWithJournal.{AgreesWithJournal}
use Rattle.mb_home.specs.Steps.{HasNoBacklog}

-- It is the home of the actor of this number, with the same directory of actors as the first home. No act is left to be carried out, what is kept
-- beside the cell agrees with its journal, and it names only actors that exist.
pub record IsHomeOf (gives : Moment → Reply → Type 0) (first : Contents) (actor : ℕ) (h : Contents) : Type 0 where
  pub directory : h.directory ≡ first.directory
  pub number : h.cell.who.this.0 ≡ actor
  pub carried_out : h.cell.acts ≡ []
  pub settled : AgreesWithJournal gives [] h
  pub named : NamesActors h

-- The mailbox that a journal says: closed or not, how often suspended, and not scheduled.
abbrev pub mailbox_at : Identity → List Entry → Mailbox
mailbox_at who journal = record { closed = closed who journal; scheduled = false; count = count who journal }

-- How many system messages the actor's list gave, modulo 2^64: those that have an entry, those that were dropped, and those left beside the cell.
abbrev pub given_of : Contents → ℕ
given_of h = (next_number h.cell.journal + h.dropped + length h.rest) % 2 ^ 64

-- The system messages that have these entries, each with its number: one that was set aside and applied later stands twice.
abbrev pub system_entries : List Entry → List (ℕ × SysMsg)
system_entries [] = []
system_entries (System number message outcome ∷ before) = (number, message) ∷ system_entries before
system_entries (Handled envelope reading outcome ∷ before) = system_entries before
system_entries (Dropped envelope ∷ before) = system_entries before

-- The system messages of which the home says that the actor's list gave them: those that have an entry, and those left beside the cell.
abbrev pub drained_of : Contents → List (ℕ × SysMsg)
drained_of h = system_entries h.cell.journal ++ h.rest

-- The receiver of a dead letter that says that its receiver is closed.
abbrev pub receiver_if_closed : DeadLetterReason → ℕ → List ℕ
receiver_if_closed why.Closed to = to ∷ []
receiver_if_closed why.Full to = []
receiver_if_closed why.NoMemory to = []
receiver_if_closed why.Cleaned to = []

-- The receivers of the dead letters that say so, in order.
abbrev pub closed_receivers : List DeadLetter → List ℕ
closed_receivers = flat_map (λ (d : DeadLetter). receiver_if_closed d.why d.envelope.to.0)

-- what the gates ask of a home
abbrev pub facts_of : Contents → HomeFacts
facts_of h = record {
  journal = h.cell.journal;
  mailbox = mailbox_at h.cell.who h.cell.journal;
  no_backlog = HasNoBacklog h;
  given = given_of h;
  drained = drained_of h;
  closed_to = closed_receivers h.dead;
}
