use Rattle.std.proofs.Common.{[]}
use Rattle.mb_pool.proofs.OneWorkerLemmas.{order-new}
use Rattle.mb_pool.proofs.WorkerPortLemmas.{logged}
use Rattle.mb_pool.proofs.worker_port.WorkerPort.new.Goals as goal

pub returns-clause-in_order : goal.returns-clause-in_order
returns-clause-in_order g c unused =
    order-new c.args.handle _
    (λ i. record {
      handle = c.into_parts-shared_port.ensures.same i;
      next = [];
      pushed = logged (c.new-4.ensures i);
      refused = logged (c.new-3.ensures i);
      taken = logged (c.new-5.ensures i);
    }) unused
