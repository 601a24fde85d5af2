use Rattle.std.proofs.Common.{rules}
use Rattle.mb_schema.proofs.tables.send_keys.Goals as goal

pub returns : goal.returns
returns c = search rules
