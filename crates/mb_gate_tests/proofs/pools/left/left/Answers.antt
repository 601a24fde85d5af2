use Rattle.mb_pool.proofs.InOrder.{in_any_order}
use Rattle.mb_gate_tests.proofs.pools.left.left.Goals as goal

pub left_in_any_order-requires-clause-handles : goal.left_in_any_order-requires-clause-handles
left_in_any_order-requires-clause-handles g c = in_any_order c.args.pool c.args.handles.items c.requires.handles
