use Rattle.std.proofs.Common.{◌≡◌, MatchOption, subst, sym, ◌∙◌, []}
use Rattle.crossbeam_deque.specs.Handles.{view}
use Rattle.mb_pool.specs.Rule.{QueueMoment, TakesFirst}
use Rattle.mb_gate.specs.Untouched.{IsUntouched}
use Rattle.mb_pool.specs.Deques.{thief_view}
use Rattle.mb_pool.proofs.PortViews.{of_option, same_thief}
use Rattle.mb_pool.proofs.thief.Thief.take.Goals as goal

pub returns-clause-taken : goal.returns-clause-taken
returns-clause-taken g c =
    let old = c.self.inside.pass in
    let new = c.steal_first.new.pass in
    subst (λ pool_port. MatchOption c.steal_first.result ((thief_view c.self.inside.number new ≡ pool_port)
    × QueueMoment (IsUntouched g.H.MailboxState.is_of g.H.MailboxState.facts) pool_port.ledger []) (λ x. TakesFirst
    (IsUntouched g.H.MailboxState.is_of g.H.MailboxState.facts) pool_port.ledger x (view new)))
    c.self.view_is
    (of_option _ _ _ _ c.steal_first.result (λ h. (
      same_thief c.self.inside.number old new
          (c.steal_first.ensures.deque.0 ∙ sym c.self.invariant.0.0) h.0,
      h.1,
    )) (λ _ h. h) c.steal_first.ensures.taken)
