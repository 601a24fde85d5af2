use Rattle.mb_pool.specs.Parts.{port_view}
use Rattle.mb_gate.specs.Untouched.{IsUntouched}
use Rattle.mb_pool.proofs.Emptying.{Emptying}
use Rattle.mb_pool.proofs.leaving.empty_shared_port.Given as goal

abbrev pub invariant-loop : goal.invariant-loop
invariant-loop g l = Emptying (IsUntouched g.H.MailboxState.is_of g.H.MailboxState.facts) (port_view l.initial.shared_port) l.initial.left.items
    (port_view l.shared_port) l.left.items
