use Rattle.std.proofs.Common.{length}
use Rattle.mb_dispatch.proofs.paired.+each_in_turn.Given as goal

abbrev pub decreases-each_in_turn : goal.decreases-each_in_turn
decreases-each_in_turn g l = length l.tasks.now
