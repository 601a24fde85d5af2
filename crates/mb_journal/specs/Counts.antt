-- How many entries of a journal are of envelopes, and how many of restarts (this project's own profile: Akka keeps no journal).
use Rattle.std.specs.Prelude.{◌≡◌, Bool, true, false, List, Some, count_by}
use Rattle.mb_msg.specs.declared.system.SysMsg.{SysMsg}
use Rattle.mb_msg.specs.declared.system.SysMsg.TheVariants as system
use Rattle.mb_journal.specs.Entry.{Entry}
use Rattle.mb_journal.specs.Entry.Entry.{Handled, System, Dropped}
use Rattle.mb_journal.specs.Entry.Outcome.{Applied}
use Rattle.mb_journal.specs.declared.counts.Counts.{Counts}

-- the entry is of an envelope, which the actor handled or which was dropped
abbrev pub tells_of_envelope : Entry → Bool
tells_of_envelope (Handled envelope reading outcome) = true
tells_of_envelope (System number message outcome) = false
tells_of_envelope (Dropped envelope) = true

-- the system messages that restart an actor: a Recreate, and for an actor whose last start failed a Resume
abbrev pub asks_for_restart : SysMsg → Bool
asks_for_restart (system.Recreate cause) = true
asks_for_restart (system.Resume of_failure) = true
asks_for_restart _ = false

-- the entry is of a call of the actor's `restart`: of a message that restarts, for which the actor was called
abbrev pub tells_of_restart : Entry → Bool
tells_of_restart (System number message (Applied (Some answer) effects)) = asks_for_restart message
tells_of_restart _ = false

-- these are the counts of these entries
pub record AreCountsOf (entries : List Entry) (counts : Counts) : Type 0 where
  pub envelopes : counts.envelopes ≡ count_by tells_of_envelope entries
  pub restarts : counts.restarts ≡ count_by tells_of_restart entries
