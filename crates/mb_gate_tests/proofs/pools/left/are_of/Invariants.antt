use Rattle.std.proofs.Common.{◌≡◌, All, Some}
use Rattle.mb_gate.specs.Accessors.{gates_id, pass_id}
use Rattle.mb_gate.specs.Untouched.{origin_of, IsUntouched}
use Rattle.mb_gate_tests.proofs.pools.left.are_of.Given as goal

abbrev pub invariant-loop-claim : goal.invariant-loop-claim
invariant-loop-claim g l = (pass_id l.pass ≡ gates_id l.gates)
    × All (IsUntouched g.H.MailboxState.is_of g.H.MailboxState.facts
    (Some (origin_of l.gates))) l.claims.items

abbrev pub decreases-loop-claim : goal.decreases-loop-claim
decreases-loop-claim g l = l.claims.len
