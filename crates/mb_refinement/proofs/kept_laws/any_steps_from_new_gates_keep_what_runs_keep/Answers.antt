use Rattle.mb_refinement.proofs.Reached.{steps_from_new_gates}
use Rattle.mb_refinement.proofs.kept_laws.any_steps_from_new_gates_keep_what_runs_keep.Goals as goal

pub returns : goal.returns
returns g c = λ first. steps_from_new_gates g.H.MailboxState.is_of first g.H.MailboxState.facts c.every_run_keeps_holders.ensures
    c.every_run_keeps_mailboxes.ensures c.every_run_keeps_obligations.ensures c.step_keeps_holders.ensures.of_all c.step_keeps_mailboxes.ensures.of_all
    c.step_keeps_obligations.ensures.of_all c.split_keeps_obligations.ensures.held c.split_keeps_obligations.ensures.possible c.split_keeps_obligations.ensures.settled
    c.join_keeps_obligations.ensures.held c.join_keeps_obligations.ensures.possible c.join_keeps_obligations.ensures.settled
