use Rattle.mb_core.proofs.MailboxLemmas.{mailbox_run}
use Rattle.mb_core.proofs.laws.every_run_keeps_mailboxes.Goals as goal

pub returns : goal.returns
returns c = mailbox_run
