use Rattle.std.proofs.Common.{subst, sym}
use Rattle.mb_queue.specs.Batches.{AccountsBegin, IsBatched}
use Rattle.mb_queue.specs.Port.{FifoPort}
use Rattle.mb_queue.proofs.Given.{joined_kept}
use Rattle.mb_queue.proofs.take_port.TakePort.join.Goals as goal

pub invariant_of-self : goal.invariant_of-self
invariant_of-self c = let i = c.self.inside in
    subst (λ (p : FifoPort). IsBatched p i.batch i.given) (sym c.join.ensures.joined)
    (joined_kept i.port.fifo.capacity i.port.ledger c.args.other.ledger i.batch i.given c.self.invariant c.requires.sender
    (λ no_bound. subst (λ (p : FifoPort). AccountsBegin p.ledger) c.join.ensures.joined (c.join.ensures.begins no_bound)))
