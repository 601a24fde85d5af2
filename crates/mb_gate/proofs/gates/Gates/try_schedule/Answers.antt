use Rattle.mb_gate.specs.Accessors.{first_home}
use Rattle.mb_gate.proofs.FreeHome.{free_is_fold}
use Rattle.mb_gate.proofs.gates.Gates.try_schedule.Goals as goal

pub returns-in-Some-clause-free_is_fold : goal.returns-in-Some-clause-free_is_fold
returns-in-Some-clause-free_is_fold g c =
    free_is_fold (g.H.MailboxState.is_of (first_home c.args.self.now)) g.H.MailboxState.facts _ _ _ _ _ c.exchange_status.ensures.answer
