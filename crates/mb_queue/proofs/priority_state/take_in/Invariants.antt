use Rattle.std.proofs.Common.{◌-◌, length}
use Rattle.mb_queue.specs.Ledger.{IsTaker}
use Rattle.mb_queue.specs.Steps.{TakesMore}
use Rattle.mb_queue.proofs.priority_state.take_in.Given as goal

abbrev pub invariant-loop-choice : goal.invariant-loop-choice
invariant-loop-choice g l = IsTaker l.main.ledger × TakesMore l.initial.choice l.initial.main l.choice l.main

abbrev pub decreases-loop-choice : goal.decreases-loop-choice
decreases-loop-choice g l = 1024 - length l.choice.waiting
