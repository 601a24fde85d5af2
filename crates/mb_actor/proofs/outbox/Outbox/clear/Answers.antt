use Rattle.std.proofs.Common.{rules}
use Rattle.mb_actor.proofs.outbox.Outbox.clear.Goals as goal

pub returns : goal.returns
returns c = search rules
