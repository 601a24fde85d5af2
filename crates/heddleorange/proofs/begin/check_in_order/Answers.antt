use Rattle.std.proofs.Common.{ap, sym, ◌∙◌}
use Rattle.std.proofs.lemmas.Option.{get_or_from_slice_get}
use Rattle.mb_msg.specs.declared.order.SenderOrder.{SenderOrder}
use Rattle.mb_shutdown.proofs.Lists.{there}
use Rattle.heddleorange.specs.NoReport.{has_nobody}
use Rattle.heddleorange.specs.Orders.{is_from_nobody}
use Rattle.heddleorange.proofs.First.{first-any, none-found}
use Rattle.heddleorange.proofs.InOrder.{for-nobody, length-lists, many-from, none-from, one-from}
use Rattle.heddleorange.proofs.begin.check_in_order.Goals as goal

pub returns-in-Some-clause-unfit : goal.returns-in-Some-clause-unfit
returns-in-Some-clause-unfit c =
    let senders = c.args.plan.now.senders in let sends = c.args.sends.now in
    (c.in_default.ensures, one-from senders sends (first-any (is_from_nobody senders) 0 sends c.in-Some.place (sym c.in-Some.ensures.place)))

pub returns-in-Some-clause-which : goal.returns-in-Some-clause-which
returns-in-Some-clause-which c =
    let sends = c.args.sends.now in let place = c.in-Some.place in let at = there sends place c.in-Some.ensures.within in (
      at.0,
      (sym c.in-Some.ensures.place, at.1),
      ap (λ (s : SenderOrder). s.from) (get_or_from_slice_get sends place at.0 _ at.1),
    )

pub returns-in-Some-first_to_nobody-clause-unfit : goal.returns-in-Some-first_to_nobody-clause-unfit
returns-in-Some-first_to_nobody-clause-unfit c =
    let senders = c.args.plan.now.senders in let sends = c.args.sends.now in
    let from = none-from senders sends (none-found (is_from_nobody senders) 0 sends (sym c.in_default-first_from_nobody.ensures.place)) in (
      c.in_default.ensures,
      length-lists senders sends ∙ many-from senders sends from,
      for-nobody c.args.actors senders sends from
          ∙ first-any (λ s. has_nobody c.args.actors s.order) 0 sends c.in-Some-first_to_nobody.place (sym c.in-Some-first_to_nobody.ensures.place),
    )

pub returns-in-Some-first_to_nobody-clause-which : goal.returns-in-Some-first_to_nobody-clause-which
returns-in-Some-first_to_nobody-clause-which c =
    let sends = c.args.sends.now in let place = c.in-Some-first_to_nobody.place in
    let at = there sends place c.in-Some-first_to_nobody.ensures.within in
    let is = get_or_from_slice_get sends place at.0 _ at.1 in (
      at.0,
      (sym c.in-Some-first_to_nobody.ensures.place, at.1),
      ap (λ (s : SenderOrder). s.from) is,
      ap (λ (s : SenderOrder). s.order.to) is,
    )

pub returns-clause-right : goal.returns-clause-right
returns-clause-right c =
    let senders = c.args.plan.now.senders in let sends = c.args.sends.now in
    let from = none-from senders sends (none-found (is_from_nobody senders) 0 sends (sym c.in_default-first_from_nobody.ensures.place)) in (
      c.in_default.ensures,
      length-lists senders sends ∙ many-from senders sends from,
      for-nobody c.args.actors senders sends from
          ∙ none-found (λ s. has_nobody c.args.actors s.order) 0 sends (sym c.in_default-first_to_nobody.ensures.place),
    )
