use Rattle.std.proofs.Common.{rules}
use Rattle.mb_streams.proofs.tracked_stream.TrackedStream.new.Goals as goal

pub returns-clause-not_failed : goal.returns-clause-not_failed
returns-clause-not_failed g c = search rules
