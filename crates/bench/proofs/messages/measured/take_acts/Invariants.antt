use Rattle.std.proofs.Common.{◌≡◌, length}
use Rattle.bench.proofs.messages.measured.take_acts.Given as goal

abbrev pub invariant-loop-acts : goal.invariant-loop-acts
invariant-loop-acts g l = l.cell ≡ record l.fn.cell { acts = l.cell.acts }

abbrev pub decreases-loop-acts : goal.decreases-loop-acts
decreases-loop-acts g l = length l.cell.acts
