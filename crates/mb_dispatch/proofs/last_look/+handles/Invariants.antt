use Rattle.std.proofs.Common.{◌+◌, ◌*◌, length}
use Rattle.mb_dispatch.proofs.last_look.+handles.Given as goal

abbrev pub decreases-look_with_handles : goal.decreases-look_with_handles
decreases-look_with_handles g l = 4 * length l.handles.now

abbrev pub decreases-look_with_handles-at_first : goal.decreases-look_with_handles-at_first
decreases-look_with_handles-at_first g l = 4 * length l.others.now + 3

abbrev pub decreases-look_with_handle : goal.decreases-look_with_handle
decreases-look_with_handle g l = 4 * length l.others.now + 2

abbrev pub decreases-look_with_handle-look_together : goal.decreases-look_with_handle-look_together
decreases-look_with_handle-look_together g l = 4 * length l.others.now + 1
