use Rattle.std.proofs.Common.{◌≡◌, length}
use Rattle.mb_world.specs.Dispatched.{marks_of}
use Rattle.mb_world.proofs.running.carry_out.Given as goal

abbrev pub invariant-loop-act : goal.invariant-loop-act
invariant-loop-act g l =
    (l.cell ≡ record l.initial.cell { acts = l.cell.acts })
    × (marks_of l.dispatcher.mailboxes.items ≡ marks_of l.initial.dispatcher.mailboxes.items)
    × (length l.dispatcher.logs.items ≡ length l.initial.dispatcher.logs.items)

abbrev pub decreases-loop-act : goal.decreases-loop-act
decreases-loop-act g l = length l.cell.acts
