use Rattle.mb_dispatch.proofs.RestingActors.{shows-rest}
use Rattle.mb_dispatch.proofs.laws.what_is_at_rest_has_nothing_to_run.Goals as goal

pub returns : goal.returns
returns g c = λ first. shows-rest (g.H.MailboxState.is_of first) g.H.MailboxState.facts
