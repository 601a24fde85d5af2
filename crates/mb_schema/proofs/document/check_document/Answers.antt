use Rattle.std.proofs.Common.{rules}
use Rattle.mb_schema.proofs.document.check_document.Goals as goal

pub returns : goal.returns
returns c = search rules
