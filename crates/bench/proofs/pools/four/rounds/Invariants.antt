use Rattle.bench.specs.Ready.{AreReady}
use Rattle.bench.proofs.pools.four.rounds.Given as goal

abbrev pub invariant-loop-round : goal.invariant-loop-round
invariant-loop-round g l = AreReady l.gates l.first × AreReady l.gates l.second
