use Rattle.std.proofs.Common.{rules}
use Rattle.mb_syslist.proofs.list.SysList.given.Goals as goal

pub returns : goal.returns
returns c = search rules
