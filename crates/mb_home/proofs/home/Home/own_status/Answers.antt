use Rattle.std.proofs.Common.{false, sym, ap, ◌∙◌, arith}
use Rattle.mb_actor.specs.declared.phase.Phase.TheVariants.{Ended}
use Rattle.mb_journal.specs.Phase.{phase_is}
use Rattle.mb_home.specs.AtHome.{mailbox_at}
use Rattle.mb_home.specs.Contents.{Contents}
use Rattle.mb_home.proofs.StatusLemmas.{count_within, none_closed}
use Rattle.mb_home.proofs.home.Home.own_status.Goals as goal

pub status_of-requires-clause-within_limit : goal.status_of-requires-clause-within_limit
status_of-requires-clause-within_limit g c =
    let within = count_within _ _ _ c.journal.ensures.lawful c.self.invariant.1 in omega (arith, within, c.count.ensures)

pub status_of-requires-clause-none : goal.status_of-requires-clause-none
status_of-requires-clause-none g c =
    λ ended. c.count.ensures
    ∙ none_closed _ _ (sym (ap (λ p. phase_is p Ended) c.phase.ensures) ∙ sym c.has_ended.ensures ∙ ended)

pub returns : goal.returns
returns g c =
    c.status_of.ensures
    ∙ (λ i. record {
      closed = (c.has_ended.ensures ∙ ap (λ p. phase_is p Ended) c.phase.ensures) i;
      scheduled = false;
      count = c.count.ensures i;
    })
    ∙ ap (λ (x : Contents). mailbox_at x.cell.who x.cell.journal) c.self.view_is
