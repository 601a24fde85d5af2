use Rattle.mb_queue.proofs.Given.{lent_stays}
use Rattle.mb_queue.proofs.take_port.TakePort.lend.Goals as goal

pub invariant_of-self : goal.invariant_of-self
invariant_of-self c = let i = c.self.inside in
    lent_stays i.port c.lend.new.self i.batch i.given c.args.by.0 c.lend.result c.self.invariant c.lend.ensures
