use Rattle.mb_trace.proofs.Joined.{journals-all}
use Rattle.mb_trace.proofs.laws.actor_by_actor_has_each_entry_once.Goals as goal

pub returns : goal.returns
returns c = λ trace actor. journals-all trace actor
