use Rattle.std.proofs.Common.{rules}
use Rattle.mb_actor.proofs.outbox.Outbox.effects.Goals as goal

pub returns-clause-value : goal.returns-clause-value
returns-clause-value c = search rules
