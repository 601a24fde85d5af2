use Rattle.std.proofs.Common.{rules}
use Rattle.mb_syslist.proofs.list.SysList.close.Goals as goal

pub returns-clause-list : goal.returns-clause-list
returns-clause-list c = search rules

pub returns-clause-counted : goal.returns-clause-counted
returns-clause-counted c = search rules
