use Rattle.bench.specs.Ready.{IsReadyWorker}
use Rattle.bench.proofs.pools.alone.rounds.Given as goal

abbrev pub invariant-loop-round : goal.invariant-loop-round
invariant-loop-round g l = IsReadyWorker l.gates l.worker
