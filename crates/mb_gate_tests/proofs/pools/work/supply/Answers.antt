use Rattle.std.proofs.Common.{◌∙◌}
use Rattle.mb_pool.proofs.SameGates.{same_gates}
use Rattle.mb_gate_tests.proofs.pools.work.supply.Goals as goal

pub supply_one-requires-clause-same_origin : goal.supply_one-requires-clause-same_origin
supply_one-requires-clause-same_origin g c = same_gates c.args.feed c.loop-actor.feed c.loop-actor.invariant.1 ∙ c.requires.same_origin
