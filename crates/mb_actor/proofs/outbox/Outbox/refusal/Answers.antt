use Rattle.std.proofs.Common.{rules}
use Rattle.mb_actor.proofs.outbox.Outbox.refusal.Goals as goal

pub returns-then-id-eq0 : goal.returns-then-id-eq0
returns-then-id-eq0 c = search rules

pub returns : goal.returns
returns c = search rules
