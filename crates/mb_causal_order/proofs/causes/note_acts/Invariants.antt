use Rattle.std.proofs.Common.{◌≡◌, length}
use Rattle.mb_causal_order.proofs.causes.note_acts.Given as goal

abbrev pub invariant-loop-act : goal.invariant-loop-act
invariant-loop-act l = l.cell ≡ record l.initial.cell { acts = l.cell.acts }

abbrev pub decreases-loop-act : goal.decreases-loop-act
decreases-loop-act l = length l.cell.acts
