use Rattle.std.proofs.Common.{rules}
use Rattle.mb_msg.proofs.strategy.by_default.Goals as goal

pub returns-in-Error : goal.returns-in-Error
returns-in-Error c = search rules
