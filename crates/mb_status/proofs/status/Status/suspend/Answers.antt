use Rattle.std.proofs.Common.{rules}
use Rattle.mb_status.proofs.status.Status.suspend.Goals as goal

pub returns-then-self-ne-CLOSED-clause-first : goal.returns-then-self-ne-CLOSED-clause-first
returns-then-self-ne-CLOSED-clause-first c = search rules

pub returns-then-self-ne-CLOSED-clause-after : goal.returns-then-self-ne-CLOSED-clause-after
returns-then-self-ne-CLOSED-clause-after c = search rules
