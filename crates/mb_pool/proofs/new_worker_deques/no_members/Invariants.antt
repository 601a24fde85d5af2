use Rattle.std.proofs.Common.{◌≡◌, None, replicate}
use Rattle.mb_pool.proofs.new_worker_deques.no_members.Given as goal

abbrev pub invariant-loop-member : goal.invariant-loop-member
invariant-loop-member g l = l.members.items ≡ replicate l._member None
