use Rattle.std.proofs.Common.{rules}
use Rattle.mb_schema.proofs.document.items_at.Goals as goal

pub returns-in-None : goal.returns-in-None
returns-in-None c = search rules
