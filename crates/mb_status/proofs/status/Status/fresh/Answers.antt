use Rattle.std.proofs.Common.{rules}
use Rattle.mb_status.proofs.status.Status.fresh.Goals as goal

pub returns : goal.returns
returns c = search rules
