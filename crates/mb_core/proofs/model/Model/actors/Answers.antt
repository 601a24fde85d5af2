use Rattle.std.proofs.Common.{rules}
use Rattle.mb_core.proofs.model.Model.actors.Goals as goal

pub returns : goal.returns
returns c = search rules
