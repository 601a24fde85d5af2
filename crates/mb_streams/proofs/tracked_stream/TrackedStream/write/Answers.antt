use Rattle.std.proofs.Common.{rules}
use Rattle.mb_streams.proofs.tracked_stream.TrackedStream.write.Goals as goal

pub returns-clause-bytes : goal.returns-clause-bytes
returns-clause-bytes g c = search rules

pub returns-clause-progress : goal.returns-clause-progress
returns-clause-progress g c = search rules
