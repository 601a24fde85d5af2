use Rattle.std.proofs.Common.{rules}
use Rattle.mb_journal.proofs.journal.Journal.push_set_aside.Goals as goal

pub returns-clause-added : goal.returns-clause-added
returns-clause-added c = search rules
