use Rattle.std.proofs.Common.{◌≡◌, ◌+◌, ℕ, Bool, count_by, length}
use Rattle.mb_msg.specs.declared.system.SysMsg.{SysMsg}
use Rattle.mb_causal_order.specs.Replayed.{outstanding}
use Rattle.mb_causal_order.specs.SystemMessages.{sends}
use Rattle.mb_causal_order.proofs.replay.send_all.Given as goal

abbrev pub invariant-loop-act : goal.invariant-loop-act
invariant-loop-act l = record {
  rest : l.cell ≡ record l.initial.cell { acts = l.cell.acts };
  sent : (test : ℕ → SysMsg → Bool) → outstanding test l.messages.rows.items + count_by (sends test) l.cell.acts
      ≡ outstanding test l.initial.messages.rows.items + count_by (sends test) l.initial.cell.acts;
}

abbrev pub decreases-loop-act : goal.decreases-loop-act
decreases-loop-act l = length l.cell.acts
