use Rattle.std.proofs.Common.{rules, arith, ap, sym, subst}
use Rattle.mb_queue.specs.Ledger.{IsTaker}
use Rattle.mb_queue.proofs.ListCalls.{joined_takes}
use Rattle.mb_queue.proofs.ListSteps.{learns, unites}
use Rattle.mb_queue.proofs.Moves.{joins}
use Rattle.mb_queue.proofs.unbounded_fifo.UnboundedFifo.join.Goals as goal

pub join_seat-requires : goal.join_seat-requires
join_seat-requires c = (
  search rules,
  search rules,
  search rules,
  (let s = c.args.self.now.sized in omega arith),
  unites _ _ _ _ _ (joins _ _ _ _ c.requires.taker c.requires.sender),
)

pub load-requires : goal.load-requires
load-requires c = (
  search rules,
  (let s = c.args.self.now.sized in omega arith),
  learns _ _ _ (subst IsTaker (sym (ap (λ m. m.0.ledger) c.join_seat.ensures.2)) (joined_takes _ _ c.requires.taker c.requires.sender)),
)
