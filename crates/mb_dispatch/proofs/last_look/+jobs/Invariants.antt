use Rattle.std.proofs.Common.{◌+◌, ◌*◌, length}
use Rattle.mb_dispatch.proofs.last_look.+jobs.Given as goal

abbrev pub decreases-look_with_jobs : goal.decreases-look_with_jobs
decreases-look_with_jobs g l = 4 * length l.jobs.now

abbrev pub decreases-look_with_jobs-at_first : goal.decreases-look_with_jobs-at_first
decreases-look_with_jobs-at_first g l = 4 * length l.others.now + 3

abbrev pub decreases-look_with_job : goal.decreases-look_with_job
decreases-look_with_job g l = 4 * length l.others.now + 2

abbrev pub decreases-look_with_job-look_together : goal.decreases-look_with_job-look_together
decreases-look_with_job-look_together g l = 4 * length l.others.now + 1
