use Rattle.mb_pool.specs.Begins.{AreNew}
use Rattle.mb_gate.specs.Untouched.{origin_of}
use Rattle.mb_pool.proofs.new_worker_deques.new_deques.Given as goal

abbrev pub invariant-loop-number : goal.invariant-loop-number
invariant-loop-number g l = AreNew (origin_of l.gates) l.count l.number l.owns.items
