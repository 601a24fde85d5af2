use Rattle.std.proofs.Common.{rules}
use Rattle.mb_streams.proofs.program_error.ProgramError.status.Goals as goal

pub returns-in-Os : goal.returns-in-Os
returns-in-Os c = search rules

pub returns-in-Os-2 : goal.returns-in-Os-2
returns-in-Os-2 c = search rules
