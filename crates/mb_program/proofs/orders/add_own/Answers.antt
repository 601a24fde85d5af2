use Rattle.std.proofs.Common.{◌∙◌, ◌++◌, ap, sym}
use Rattle.heddleorange.proofs.InOrder.{orders-own}
use Rattle.mb_program.proofs.orders.add_own.Goals as goal

pub returns : goal.returns
returns c =
    c.in_ok-push.ensures.items
    ∙ ap (λ l. c.args.orders.now.items ++ l) (sym (orders-own c.args.from c.args.send.now c.if-send-from.false))
