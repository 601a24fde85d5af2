-- Which system messages a run in progress has sent, of those that its new entries have to send.
use Rattle.std.specs.Prelude.{◌≡◌, ℕ, Bool, List, ◌++◌}
use Rattle.mb_msg.specs.declared.system.SysMsg.{SysMsg}
use Rattle.mb_journal.specs.Acts.{Act}
use Rattle.mb_journal.specs.Entry.{Entry}
use Rattle.mb_journal.specs.Identity.{Identity}
use Rattle.mb_gate.specs.SentSystem.{HasSentDue, due_since, messages_of}
use Rattle.mb_gate.specs.View.{SentSystem}

-- The journal extends the one before. What was sent is what the new entries have to send, but for what these acts will send.
pub record HasSentDueExcept (who : Identity) (actor : ℕ) (shut : Bool) (journal before : List Entry) (pending : List Act) (sent_system : List SentSystem) : Type 0 where
  pub newer : List Entry
  pub joined : journal ≡ newer ++ before
  pub due : List (ℕ × SysMsg)
  pub due_is : due_since who newer before ≡ due ++ messages_of pending
  pub told : HasSentDue actor shut due sent_system
