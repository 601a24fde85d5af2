use Rattle.mb_queue.proofs.Moves.{takes, empty}
use Rattle.mb_queue.proofs.ListCalls.{takes_one}
use Rattle.mb_queue.proofs.bounded_fifo.BoundedFifo.take.Goals as goal

pub pop_as-requires-clause-rule : goal.pop_as-requires-clause-rule
pop_as-requires-clause-rule g c = (takes _ _ c.requires.taker, empty _ _ c.requires.taker)

pub returns-clause-taken : goal.returns-clause-taken
returns-clause-taken g c = takes_one _ _ c.pop_as.result c.pop_as.ensures.rule
