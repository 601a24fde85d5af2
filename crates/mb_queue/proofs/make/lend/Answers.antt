use Rattle.std.proofs.Common.{◌≡◌, [], ◌∷◌, ◌++◌, List, Option, Some, subst, sym, ap, ◌∙◌}
use Rattle.std.specs.List.{Contains}
use Rattle.mb_msg.specs.declared.envelope.Envelope.{Envelope}
use Rattle.mb_queue.specs.declared.ledger.Account.{Account}
use Rattle.mb_queue.specs.Ledger.{account, lent}
use Rattle.mb_queue.specs.Port.{FifoPort}
use Rattle.mb_queue.specs.declared.take_order.TakeOrder.{TakeOrder}
use Rattle.mb_queue.specs.Representation.{IsSending, IsTakePass, sending_of, taking_of}
use Rattle.mb_queue.specs.Lent.{order_lent}
use Rattle.mb_queue.specs.Made.{unused}
use Rattle.mb_queue.specs.Passes.{TakePassView}
use Rattle.mb_queue.proofs.Lends.{control_may, main_may, send_is, send_kept, take_is, take_kept}
use Rattle.mb_queue.proofs.Ours.{ours-lent}
use Rattle.mb_queue.proofs.make.lend.Goals as goal

pub lend-requires : goal.lend-requires
lend-requires c = let i = c.take.inside in let s = c.args.by.0 in
    main_may s i.main i.order i.taken i.accounts c.take.invariant.0
    (subst (λ (t : TakePassView). Contains t.queue.senders s) (sym c.take.view_is) c.requires.known)
    (subst (λ (t : TakePassView). account t.accounts s ≡ Some []) (sym c.take.view_is) c.requires.home)

pub lend_control-requires : goal.lend_control-requires
lend_control-requires c = let i = c.take.inside in let s = c.args.by.0 in
    control_may s i.main i.order i.taken i.accounts c.take.invariant.0
    (subst (λ (t : TakePassView). Contains t.queue.senders s) (sym c.take.view_is) c.requires.known)
    (subst (λ (t : TakePassView). account t.accounts s ≡ Some []) (sym c.take.view_is) c.requires.home)

pub invariant_of-take : goal.invariant_of-take
invariant_of-take c = let i = c.take.inside in let s = c.args.by.0 in
    subst (λ (y : FifoPort × TakeOrder × List Account). IsTakePass y.0 y.1 i.taken y.2)
    (λ k. (sym c.in_ok-own.ensures.0 k, sym c.in_ok-control.ensures.0 k, sym c.add.ensures k))
    (take_kept s i.main i.order i.taken i.accounts c.take.invariant.0, ours-lent s i.main i.order (order_lent s i.order) i.taken c.take.invariant.1)

pub invariant_of-send : goal.invariant_of-send
invariant_of-send c = let i = c.take.inside in let s = c.args.by.0 in
    subst (λ (y : FifoPort × Option FifoPort × List Envelope). IsSending s y.0 y.1 y.2)
    (λ k. (sym c.in_ok-own.ensures.1 k, sym c.in_ok-control.ensures.1 k, sym c.new.ensures k))
    (send_kept s i.main i.order i.taken i.accounts c.take.invariant.0)

pub returns : goal.returns
returns c = let i = c.take.inside in let s = c.args.by.0 in (
  (λ k. taking_of (c.in_ok-own.ensures.0 k) (c.in_ok-control.ensures.0 k) i.taken (c.add.ensures k))
      ∙ take_is s i.main i.order i.taken i.accounts c.take.invariant.0
      ∙ ap (λ (t : TakePassView). record t { accounts = t.accounts ++ lent s ∷ [] }) c.take.view_is,
  (λ k. sending_of s (c.in_ok-own.ensures.1 k) (c.in_ok-control.ensures.1 k) (c.new.ensures k))
      ∙ send_is s i.main i.order i.taken i.accounts c.take.invariant.0
      ∙ ap (λ (t : TakePassView). unused t.queue s) c.take.view_is,
)
