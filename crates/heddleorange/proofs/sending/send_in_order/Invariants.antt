use Rattle.std.proofs.Common.{take}
use Rattle.std.specs.Prelude.{All}
use Rattle.mb_system.specs.Members.{IsSenderOf}
use Rattle.heddleorange.proofs.InTurn.{AreEach, DidOwn}
use Rattle.heddleorange.proofs.sending.send_in_order.Given as goal

abbrev pub invariant-loop-send : goal.invariant-loop-send
invariant-loop-send g l =
    All (λ s. IsSenderOf l.system.gates s) l.senders
    × AreEach (DidOwn l.system.gates (take l.send-index l.sends)) l.fn.senders l.senders
