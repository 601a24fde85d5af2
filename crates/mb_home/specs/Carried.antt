-- How carrying out an actor's acts changes its mailbox (`akka.actor.dungeon.FaultHandling` suspends and resumes through the dispatcher; that these
-- are acts, carried out one after another once a message was taken, is this project's own profile).
use Rattle.std.specs.Prelude.{◌≡◌, ◌<◌, List, [], ◌∷◌}
use Rattle.mb_status.specs.Mailbox.{Mailbox, most_suspensions, suspend, resume, closed_mailbox, idle}
use Rattle.mb_journal.specs.Acts.{Act, Tell, Sys, SuspendSelf, ResumeSelf, CloseSelf}
use Rattle.mb_home.specs.AtHome.{mailbox_at}
use Rattle.mb_home.specs.Contents.{Contents}

-- The mailbox after these acts, in order. What is sent to others does not change it.
abbrev pub mailbox_after : Mailbox → List Act → Mailbox
mailbox_after m [] = m
mailbox_after m (Tell to body ∷ rest) = mailbox_after m rest
mailbox_after m (Sys to message ∷ rest) = mailbox_after m rest
mailbox_after m (SuspendSelf ∷ rest) = mailbox_after (suspend m) rest
mailbox_after m (ResumeSelf ∷ rest) = mailbox_after (resume m) rest
mailbox_after m (CloseSelf ∷ rest) = mailbox_after closed_mailbox rest

-- The mailbox can count each suspension among these acts.
abbrev pub CountsEach : Mailbox → List Act → Type 0
CountsEach m [] = Unit {0}
CountsEach m (Tell to body ∷ rest) = CountsEach m rest
CountsEach m (Sys to message ∷ rest) = CountsEach m rest
CountsEach m (SuspendSelf ∷ rest) = (m.count < most_suspensions) × CountsEach (suspend m) rest
CountsEach m (ResumeSelf ∷ rest) = CountsEach (resume m) rest
CountsEach m (CloseSelf ∷ rest) = CountsEach closed_mailbox rest

-- These acts, carried out in order, lead from one mailbox to another, which is not scheduled.
pub record Leads (from : Mailbox) (pending : List Act) (to : Mailbox) : Type 0 where
  pub ends : idle (mailbox_after from pending) ≡ to
  pub counts : CountsEach from pending

-- From any mailbox that the journal said before, scheduled or not, the acts that are to be carried out now lead to the one that the journal says now.
abbrev pub LeadsOn : Contents → Contents → Type 0
LeadsOn old new = (m : Mailbox) → idle m ≡ mailbox_at old.cell.who old.cell.journal →
    Leads m new.cell.acts (mailbox_at new.cell.who new.cell.journal)
