use Rattle.std.proofs.Common.{◌∙◌}
use Rattle.mb_pool.proofs.SameGates.{same_gates}
use Rattle.mb_gate_tests.proofs.pools.work.work.Goals as goal

pub move_one-requires-clause-same_origin : goal.move_one-requires-clause-same_origin
move_one-requires-clause-same_origin g c = same_gates c.args.handle c.loop.handle c.loop.invariant.1 ∙ c.requires.same_origin
