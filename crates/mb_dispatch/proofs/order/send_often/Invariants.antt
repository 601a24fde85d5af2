use Rattle.std.proofs.Common.{[], ◌∷◌}
use Rattle.mb_gate.specs.Accessors.{actors_of}
use Rattle.mb_register.specs.Caller.{OwesForRefusals}
use Rattle.mb_system.specs.Obligations.{KeepsObligations}
use Rattle.mb_system.specs.Members.{IsSenderOf, sender_caller}
use Rattle.mb_dispatch.specs.Claims.{SenderLosesNoClaim}
use Rattle.mb_dispatch.specs.Orders.{HasSent, order_for}
use Rattle.mb_dispatch.proofs.order.send_often.Given as goal

abbrev pub invariant-loop : goal.invariant-loop
invariant-loop g l =
    IsSenderOf l.system.gates l.sender × HasSent (order_for l.fn.order.to l.fn.order.what l.counter ∷ []) l.fn.sender l.sender
    × KeepsObligations (actors_of l.system.gates) (sender_caller l.fn.sender.registrar) (sender_caller l.sender.registrar)
    × OwesForRefusals (sender_caller l.fn.sender.registrar).account (sender_caller l.sender.registrar).account
    × SenderLosesNoClaim l.fn.sender l.sender
