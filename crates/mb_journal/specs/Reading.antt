-- The status word that is read before an envelope is handled.
use Rattle.std.specs.Prelude.{ℕ, ◌≡◌, ◌&&◌, IsTrue, List}
use Rattle.mb_status.specs.Mailbox.{mailbox_of, is_valid, should_process}
use Rattle.mb_journal.specs.Entry.{Entry}
use Rattle.mb_journal.specs.Identity.{Identity}
use Rattle.mb_journal.specs.Life.{closed}
use Rattle.mb_journal.specs.Suspension.{count}

-- the word was open, neither closed nor suspended (`akka.dispatch.Mailbox.shouldProcessMessage`), and it is the one of
-- the journal
pub record IsOpen (who : Identity) (journal : List Entry) (word : ℕ) : Type 0 where
  pub open_word : IsTrue (is_valid word && should_process (mailbox_of word))
  pub same_count : (mailbox_of word).count ≡ count who journal
  pub same_closing : (mailbox_of word).closed ≡ closed who journal
