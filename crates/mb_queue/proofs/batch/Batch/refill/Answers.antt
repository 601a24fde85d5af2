use Rattle.std.proofs.Common.{refl}
use Rattle.mb_queue.proofs.ListCalls.{first_of_all}
use Rattle.mb_queue.proofs.batch.Batch.refill.Goals as goal

pub returns-clause-taken : goal.returns-clause-taken
returns-clause-taken g c = first_of_all _ _ _ _ _ c.give.result refl c.fill.ensures.taken c.fill.ensures.found c.give.ensures
