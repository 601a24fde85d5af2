use Rattle.std.proofs.Common.{rules, arith}
use Rattle.mb_queue.proofs.ListSteps.{locks}
use Rattle.mb_queue.proofs.unbounded_fifo.UnboundedFifo.try_lock.Goals as goal

pub swap-requires : goal.swap-requires
swap-requires c = (search rules, (let s = c.args.self.now.sized in omega arith), locks _ _ _)
