use Rattle.mb_gate.proofs.ListCalls.{open_out}
use Rattle.mb_gate.proofs.gates.Gates.sys_enqueue.Goals as goal

pub enlist-requires-clause-lent : goal.enlist-requires-clause-lent
enlist-requires-clause-lent g c = let lent = c.in-Some.ensures.lent in open_out _ _ _ _ lent.0 lent.1
