use Rattle.std.proofs.Common.{◌≡◌, ◌+◌, ◌≤◌, ◌^◌, drop, fold, max}
use Rattle.mb_msg.specs.declared.order.SenderOrder.{SenderOrder}
use Rattle.mb_scenario.specs.Sends.{senders_of}
use Rattle.mb_scenario.proofs.sends.senders_of.Given as goal

-- those that are left lead to where all lead
abbrev pub invariant-loop-send : goal.invariant-loop-send
invariant-loop-send l = record {
  below_bound : l.senders ≤ 2 ^ 32;
  same : fold (λ n (s : SenderOrder). max n (s.from + 1)) l.senders (drop l.send-index l.sends) ≡ senders_of l.sends;
}
