use Rattle.std.proofs.Common.{subst, sym}
use Rattle.mb_queue.specs.Batches.{IsBatched}
use Rattle.mb_queue.specs.Ledger.{IsUnused, scope_of}
use Rattle.mb_queue.specs.Port.{FifoPort}
use Rattle.mb_queue.proofs.Given.{opened_kept, unused_port}
use Rattle.mb_queue.proofs.take_port.TakePort.open.Goals as goal

pub open-requires : goal.open-requires
open-requires c = let i = c.self.inside in
    unused_port i.port.fifo.capacity i.port.ledger i.batch i.given c.self.invariant
    (subst (λ (p : FifoPort). IsUnused p.ledger) (sym c.self.view_is) c.requires)

pub invariant_of-self : goal.invariant_of-self
invariant_of-self c = let i = c.self.inside in
    subst (λ (p : FifoPort). IsBatched p i.batch i.given) (sym c.open.ensures)
    (opened_kept i.port.fifo.capacity (scope_of c.args.senders.now c.args.to.0 c.args.part) i.port.ledger i.batch i.given c.self.invariant
    (subst (λ (p : FifoPort). IsUnused p.ledger) (sym c.self.view_is) c.requires))
