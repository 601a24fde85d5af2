use Rattle.std.proofs.Common.{arith, rules}
use Rattle.std.proofs.lemmas.Grind.{common_steps}
use Rattle.mb_syslist.proofs.list.SysList.drain.Goals as goal

pub returns-clause-chain : goal.returns-clause-chain
returns-clause-chain c = search rules

pub returns-clause-list : goal.returns-clause-list
returns-clause-list c = grind (arith, common_steps)
