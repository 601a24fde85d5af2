use Rattle.std.proofs.Common.{of_calls}
use Rattle.mb_dispatch.proofs.parallel.both_in_parallel.Goals as goal

pub returns-clause-these : goal.returns-clause-these
returns-clause-these g c = search of_calls

pub returns-clause-those : goal.returns-clause-those
returns-clause-those g c = search of_calls
