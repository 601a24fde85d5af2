use Rattle.std.proofs.Common.{rules}
use Rattle.mb_core.proofs.messages.Messages.into_vec.Goals as goal

pub returns : goal.returns
returns c = search rules
