use Rattle.mb_gate.specs.Untouched.{IsUntouched}
use Rattle.mb_pool.proofs.Emptying.{Emptying}
use Rattle.mb_pool.proofs.leaving.empty_own.Given as goal

abbrev pub invariant-loop : goal.invariant-loop
invariant-loop g l = Emptying (IsUntouched g.H.MailboxState.is_of g.H.MailboxState.facts) l.initial.own_deque l.initial.left.items l.own_deque l.left.items
