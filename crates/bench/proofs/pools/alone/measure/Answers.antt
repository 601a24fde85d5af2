use Rattle.std.proofs.Common.{All, subst}
use Rattle.mb_pool.proofs.Alike.{all_last}
use Rattle.bench.specs.Ready.{IsReadyWorker}
use Rattle.bench.proofs.pools.alone.measure.Goals as goal

pub rounds-requires : goal.rounds-requires
rounds-requires g c =
    let ready = IsReadyWorker c.args.gates.now in
    all_last ready c.pop.new.self.items c.in_ok-worker.worker (subst (All ready) c.in_ok-worker.ensures.items c.requires)
