use Rattle.std.proofs.Common.{rules}
use Rattle.mb_status.proofs.status.Status.count.Goals as goal

pub returns-clause-count : goal.returns-clause-count
returns-clause-count c = search rules
