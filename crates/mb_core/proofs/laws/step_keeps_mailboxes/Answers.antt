use Rattle.mb_core.proofs.MailboxLemmas.{mailbox_change, mailbox_step}
use Rattle.mb_core.proofs.laws.step_keeps_mailboxes.Goals as goal

pub returns-clause-of_its_actor : goal.returns-clause-of_its_actor
returns-clause-of_its_actor c = mailbox_change

pub returns-clause-of_all : goal.returns-clause-of_all
returns-clause-of_all c = mailbox_step
