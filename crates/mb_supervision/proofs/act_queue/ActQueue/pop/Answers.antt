use Rattle.std.proofs.Common.{rules}
use Rattle.mb_supervision.proofs.act_queue.ActQueue.pop.Goals as goal

pub invariant_of-self-in-Sys : goal.invariant_of-self-in-Sys
invariant_of-self-in-Sys c = search rules

pub invariant_of-self-in-SuspendSelf : goal.invariant_of-self-in-SuspendSelf
invariant_of-self-in-SuspendSelf c = search rules

pub invariant_of-self-in-ResumeSelf : goal.invariant_of-self-in-ResumeSelf
invariant_of-self-in-ResumeSelf c = search rules

pub invariant_of-self-in-CloseSelf : goal.invariant_of-self-in-CloseSelf
invariant_of-self-in-CloseSelf c = search rules
