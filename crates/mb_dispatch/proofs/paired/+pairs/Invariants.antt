use Rattle.std.proofs.Common.{◌+◌, ◌*◌, length}
use Rattle.mb_dispatch.proofs.paired.+pairs.Given as goal

abbrev pub decreases-each_pair_in_parallel : goal.decreases-each_pair_in_parallel
decreases-each_pair_in_parallel g l = 3 * length l.tasks.now

abbrev pub decreases-one_pair_beside_others : goal.decreases-one_pair_beside_others
decreases-one_pair_beside_others g l = 3 * length l.others.now + 2

abbrev pub decreases-one_pair_beside_others-join_mut+arg2 : goal.decreases-one_pair_beside_others-join_mut+arg2
decreases-one_pair_beside_others-join_mut+arg2 g l = 3 * length l.others.now + 1
