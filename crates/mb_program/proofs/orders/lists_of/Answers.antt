use Rattle.mb_program.proofs.OrderLemmas.{lists-step}
use Rattle.mb_program.proofs.orders.lists_of.Goals as goal

pub loop-from-preserved : goal.loop-from-preserved
loop-from-preserved c =
    lists-step c.args.sends.now c.loop-from.from c.loop-from.lists.items c.push.new.self.items _ c.loop-from.invariant c.in_ok-orders_of.ensures
    c.in_ok-push.ensures.items
