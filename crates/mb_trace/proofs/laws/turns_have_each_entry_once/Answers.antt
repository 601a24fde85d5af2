use Rattle.mb_trace.proofs.Joined.{turns-all}
use Rattle.mb_trace.proofs.laws.turns_have_each_entry_once.Goals as goal

pub returns : goal.returns
returns c = λ trace turns cover actor. turns-all trace turns cover actor
