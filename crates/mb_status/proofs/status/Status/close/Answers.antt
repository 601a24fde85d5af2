use Rattle.std.proofs.Common.{rules}
use Rattle.mb_status.proofs.status.Status.close.Goals as goal

pub returns-clause-first : goal.returns-clause-first
returns-clause-first c = search rules

pub returns-clause-after : goal.returns-clause-after
returns-clause-after c = search rules
