use Rattle.mb_pool.proofs.Gathering.{Gathering}
use Rattle.mb_pool.proofs.gather.gather.Given as goal

abbrev pub invariant-loop-index : goal.invariant-loop-index
invariant-loop-index g l = Gathering l.initial.handles l.index l.handles
