use Rattle.std.proofs.Common.{rules, arith}
use Rattle.mb_queue.proofs.ListSteps.{splits}
use Rattle.mb_queue.proofs.Moves.{opens}
use Rattle.mb_queue.proofs.unbounded_fifo.UnboundedFifo.open.Goals as goal

pub split_seat-requires : goal.split_seat-requires
split_seat-requires g c = (search rules, (let s = c.args.self.now.sized in omega arith), splits _ _ _ _ (opens _ _ _ c.requires.unused))
