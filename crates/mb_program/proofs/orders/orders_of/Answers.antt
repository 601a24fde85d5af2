use Rattle.std.proofs.Common.{◌∙◌, ap}
use Rattle.std.proofs.lemmas.List.{take_all}
use Rattle.heddleorange.specs.Orders.{orders_of}
use Rattle.mb_program.proofs.OrderLemmas.{orders-step}
use Rattle.mb_program.proofs.orders.orders_of.Goals as goal

pub loop-send-preserved : goal.loop-send-preserved
loop-send-preserved c =
    orders-step c.args.from c.args.sends.now c.loop-send.send-index _ c.loop-send.orders.items c.add_own.new.orders.items c.loop-send-test.true
    c.loop-send.invariant c.in_ok-add_own.ensures

pub returns : goal.returns
returns c = c.loop-send.invariant ∙ ap (orders_of c.args.from) (take_all _ _ c.loop-send-test.false)
