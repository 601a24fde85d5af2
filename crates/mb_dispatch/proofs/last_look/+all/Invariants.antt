use Rattle.std.proofs.Common.{◌+◌, ◌*◌, length}
use Rattle.mb_dispatch.proofs.last_look.+all.Given as goal

abbrev pub decreases-look_by_all : goal.decreases-look_by_all
decreases-look_by_all g l = 4 * length l.handles.now

abbrev pub decreases-look_by_all-at_first : goal.decreases-look_by_all-at_first
decreases-look_by_all-at_first g l = 4 * length l.others.now + 2

abbrev pub decreases-look_from : goal.decreases-look_from
decreases-look_from g l = 4 * length l.others.now + 1
