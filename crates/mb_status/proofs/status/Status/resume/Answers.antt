use Rattle.std.proofs.Common.{rules}
use Rattle.mb_status.proofs.status.Status.resume.Goals as goal

pub returns-clause-after : goal.returns-clause-after
returns-clause-after c = search rules

pub returns-clause-last : goal.returns-clause-last
returns-clause-last c = search rules
