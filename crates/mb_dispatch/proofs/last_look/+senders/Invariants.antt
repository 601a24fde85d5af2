use Rattle.std.proofs.Common.{◌+◌, ◌*◌, length}
use Rattle.mb_dispatch.proofs.last_look.+senders.Given as goal

abbrev pub decreases-look_with_senders : goal.decreases-look_with_senders
decreases-look_with_senders g l = 4 * length l.senders.now

abbrev pub decreases-look_with_senders-at_first : goal.decreases-look_with_senders-at_first
decreases-look_with_senders-at_first g l = 4 * length l.others.now + 3

abbrev pub decreases-look_with_sender : goal.decreases-look_with_sender
decreases-look_with_sender g l = 4 * length l.others.now + 2

abbrev pub decreases-look_with_sender-look_together : goal.decreases-look_with_sender-look_together
decreases-look_with_sender-look_together g l = 4 * length l.others.now + 1
