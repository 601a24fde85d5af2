use Rattle.std.proofs.Common.{rules}
use Rattle.mb_supervision.proofs.retries.is_permitted.Goals as goal

pub returns : goal.returns
returns c = search rules
