use Rattle.mb_refinement.proofs.KeptFacts.{events_are_the_holders}
use Rattle.mb_refinement.proofs.kept_laws.steps_leave_actors_to_their_holders.Goals as goal

pub returns : goal.returns
returns g c = λ first. events_are_the_holders (g.H.MailboxState.is_of first) g.H.MailboxState.facts (c.words_show_the_machine.ensures first)
    c.step_leaves_actors_to_their_holders.ensures.stays c.step_leaves_actors_to_their_holders.ensures.begins c.step_counts_by_the_holder.ensures
