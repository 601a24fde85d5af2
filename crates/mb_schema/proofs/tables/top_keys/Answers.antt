use Rattle.std.proofs.Common.{rules}
use Rattle.mb_schema.proofs.tables.top_keys.Goals as goal

pub returns : goal.returns
returns c = search rules
