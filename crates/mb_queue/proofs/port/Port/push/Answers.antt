use Rattle.std.proofs.Common.{subst, sym}
use Rattle.mb_queue.specs.Ends.{known}
use Rattle.mb_queue.specs.Ledger.{MayPush}
use Rattle.mb_queue.specs.Port.{FifoPort}
use Rattle.mb_queue.proofs.Moves.{pushes, full}
use Rattle.mb_queue.proofs.port.Port.push.Goals as goal

pub push_as-requires-clause-rule : goal.push_as-requires-clause-rule
push_as-requires-clause-rule g c =
    let may = subst (λ e. MayPush c.args.envelope.now (known e).ledger) c.in-Bounded.is
    (subst (λ (p : FifoPort). MayPush c.args.envelope.now p.ledger) (sym c.self.view_is) c.requires) in
    (pushes _ _ _ _ may, full _ _ _ may)

pub push-requires-clause-may_push : goal.push-requires-clause-may_push
push-requires-clause-may_push g c =
    subst (λ e. MayPush c.args.envelope.now (known e).ledger) c.in-Unbounded.is
    (subst (λ (p : FifoPort). MayPush c.args.envelope.now p.ledger) (sym c.self.view_is) c.requires)
