use Rattle.std.proofs.Common.{rules}
use Rattle.mb_streams.proofs.refusal.print_line.Goals as goal

pub returns : goal.returns
returns g c = search rules
