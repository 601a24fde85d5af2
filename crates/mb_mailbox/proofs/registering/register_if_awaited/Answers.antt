use Rattle.mb_gate.specs.Accessors.{pass_view}
use Rattle.mb_register.specs.ActorSet.{has_actor}
use Rattle.mb_register.proofs.CallerLemmas.{further-none}
use Rattle.mb_register.proofs.Retries.{among-none}
use Rattle.mb_mailbox.proofs.registering.register_if_awaited.Goals as goal

pub returns-else-is_any-clause-caller_advances : goal.returns-else-is_any-clause-caller_advances
returns-else-is_any-clause-caller_advances g c = further-none _

pub returns-else-is_any-clause-looks : goal.returns-else-is_any-clause-looks
returns-else-is_any-clause-looks g c = among-none (has_actor c.args.registrar.now.told.set) (pass_view c.args.registrar.now.pass)
