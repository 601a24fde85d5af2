use Rattle.std.proofs.Common.{◌≡◌}
use Rattle.mb_testkit.proofs.random_actor.spawn_all.Given as goal

abbrev pub invariant-loop-number : goal.invariant-loop-number
invariant-loop-number l = record {
  actors : l.out.actors ≡ l.fn.out.actors;
  unspawned : l.out.unspawned ≡ l.fn.out.unspawned;
}
