use Rattle.std.proofs.Common.{◌≡◌, ℕ, Bool, take}
use Rattle.mb_msg.specs.declared.system.SysMsg.{SysMsg}
use Rattle.mb_causal_order.specs.Replayed.{outstanding}
use Rattle.mb_causal_order.specs.SystemMessages.{sent_from_outside}
use Rattle.mb_causal_order.proofs.replay.sent_by_outside.Given as goal

abbrev pub invariant-loop-order : goal.invariant-loop-order
invariant-loop-order l =
    (test : ℕ → SysMsg → Bool) → outstanding test l.outstanding.rows.items ≡ sent_from_outside (take l.order-index l.sends) test
