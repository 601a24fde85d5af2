use Rattle.std.proofs.Common.{rules}
use Rattle.mb_status.proofs.status.Status.word.Goals as goal

pub returns-clause-word : goal.returns-clause-word
returns-clause-word c = search rules
