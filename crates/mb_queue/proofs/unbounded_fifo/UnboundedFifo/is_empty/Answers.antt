use Rattle.std.proofs.Common.{rules, arith}
use Rattle.mb_queue.proofs.ListSteps.{looks}
use Rattle.mb_queue.proofs.unbounded_fifo.UnboundedFifo.is_empty.Goals as goal

pub load-requires : goal.load-requires
load-requires c = (search rules, (let s = c.args.self.now.sized in omega arith), looks _ _ _ c.requires.taker)
