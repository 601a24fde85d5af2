use Rattle.std.proofs.Common.{◌≡◌, subst, sym, true}
use Rattle.mb_msg.specs.declared.system.SysMsg.{SysMsg}
use Rattle.mb_msg.specs.declared.system.SysMsg.TheVariants as system
use Rattle.mb_causal_order.proofs.Complete.{is_exactly}
use Rattle.mb_causal_order.proofs.Missing.{one-row}
use Rattle.mb_causal_order.proofs.NoCell.{no_cell}
use Rattle.mb_causal_order.proofs.replay.Replay.sent_for.Goals as goal

pub returns-then-is_parent-clause-answers : goal.returns-then-is_parent-clause-answers
returns-then-is_parent-clause-answers c = λ test closed yes.
    let child = c.is_parent.ensures.parent c.if-is_parent.true no_cell in
    closed.create (record { 0 = c.args.to }) c.in-Died.ended no_cell child.0 child.1
    (subst (λ (m : SysMsg). test c.args.to m ≡ true) c.in-Died.is yes)

pub returns-then-is_parent-clause-covered : goal.returns-then-is_parent-clause-covered
returns-then-is_parent-clause-covered c = λ test covering covers yes.
    let child = c.is_parent.ensures.parent c.if-is_parent.true no_cell in
    subst (λ (m : SysMsg). covering c.args.to m ≡ true) (sym c.in-Died.is)
    (covers.create (record { 0 = c.args.to }) c.in-Died.ended no_cell child.0 child.1 yes)

pub returns-then-has-clause-first : goal.returns-then-has-clause-first
returns-then-has-clause-first c = λ none.
    absurd (one-row c.args.self.now.outstanding.rows.items c.args.to (system.Died c.in-Died.ended)
    (c.has.ensures.some c.if-has.true (is_exactly c.args.to (system.Died c.in-Died.ended))) none)

pub returns-then-has-2-clause-first : goal.returns-then-has-2-clause-first
returns-then-has-2-clause-first c = λ none.
    absurd (one-row c.args.self.now.outstanding.rows.items c.in-Died.ended.0 (system.Watch (record { 0 = c.args.to }))
    (c.has-2.ensures.some c.if-has-2.true (is_exactly c.in-Died.ended.0 (system.Watch (record { 0 = c.args.to })))) none)
