use Rattle.std.proofs.Common.{map}
use Rattle.std.specs.Prelude.{All}
use Rattle.mb_system.specs.Members.{IsSenderOf}
use Rattle.heddleorange.proofs.Sent.{AreUpTo, Did}
use Rattle.heddleorange.proofs.sending.send_each.Given as goal

abbrev pub invariant-loop-place : goal.invariant-loop-place
invariant-loop-place g l =
    All (λ s. IsSenderOf l.system.gates s) l.senders
    × AreUpTo (Did l.system.gates (map (λ orders. orders.items) l.sends)) l.place l.fn.senders l.senders
