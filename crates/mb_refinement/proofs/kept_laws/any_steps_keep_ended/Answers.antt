use Rattle.mb_refinement.proofs.Reached.{steps_keep_ended}
use Rattle.mb_refinement.proofs.kept_laws.any_steps_keep_ended.Goals as goal

pub returns : goal.returns
returns g c = λ first. steps_keep_ended g.H.MailboxState.is_of first g.H.MailboxState.facts c.step_keeps_ended.ensures
