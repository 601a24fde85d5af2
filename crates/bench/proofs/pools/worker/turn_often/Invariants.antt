use Rattle.std.proofs.Common.{◌≡◌, Some}
use Rattle.mb_gate.specs.Accessors.{gates_id, pass_id}
use Rattle.mb_gate.specs.Untouched.{origin_of, IsUntouched}
use Rattle.mb_pool.specs.Places.{gates_of}
use Rattle.bench.proofs.pools.worker.turn_often.Given as goal

abbrev pub invariant-loop : goal.invariant-loop
invariant-loop g l = (pass_id l.pass ≡ gates_id l.gates)
    × (gates_of l.handle ≡ Some (origin_of l.gates))
    × IsUntouched g.H.MailboxState.is_of g.H.MailboxState.facts
    (Some (origin_of l.gates)) l.claim
