use Rattle.std.proofs.Common.{rules}
use Rattle.mb_syslist.proofs.node.Node.msg.Goals as goal

pub returns : goal.returns
returns c = search rules
