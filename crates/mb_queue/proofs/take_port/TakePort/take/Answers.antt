use Rattle.std.proofs.Common.{subst, sym}
use Rattle.mb_queue.specs.Batches.{IsBatched}
use Rattle.mb_queue.proofs.Given.{filled_given, filled_stays, next_given, next_kept}
use Rattle.mb_queue.proofs.take_port.TakePort.take.Goals as goal

pub invariant_of-self : goal.invariant_of-self
invariant_of-self g c = let i = c.self.inside in
    subst (λ given. IsBatched i.port c.give.new.self given) (sym c.add.ensures)
    (next_kept i.port.fifo.capacity i.port.ledger i.batch i.given c.give.new.self c.in-Some.envelope c.self.invariant c.in-Some.ensures)

pub returns-in-Some : goal.returns-in-Some
returns-in-Some g c = let i = c.self.inside in
    next_given i.port c.args.self.now i.batch i.given c.add.new.self c.give.new.self c.in-Some.envelope c.self.view_is c.self.invariant c.in-Some.ensures c.add.ensures

pub invariant_of-self-2 : goal.invariant_of-self-2
invariant_of-self-2 g c = let i = c.self.inside in
    filled_stays i.port c.take.new.self i.given c.add-2.new.self c.take.new.batch c.in_ok-envelope.envelope
    (subst (λ batch. IsBatched i.port batch i.given) c.in_default.ensures.0 c.self.invariant)
    c.in_ok-envelope.ensures.0 c.in_ok-envelope.ensures.1 c.in_ok-envelope.ensures.2 c.add-2.ensures

pub returns : goal.returns
returns g c = let i = c.self.inside in
    filled_given i.port c.take.new.self i.given c.add-2.new.self c.take.new.batch c.in_ok-envelope.envelope
    (subst (λ batch. IsBatched i.port batch i.given) c.in_default.ensures.0 c.self.invariant)
    c.in_ok-envelope.ensures.0 c.in_ok-envelope.ensures.1 c.in_ok-envelope.ensures.2 c.add-2.ensures c.args.self.now c.self.view_is
