use Rattle.mb_trace.proofs.Joined.{places-all}
use Rattle.mb_trace.proofs.laws.merged_order_has_each_entry_once.Goals as goal

pub returns : goal.returns
returns c = λ trace places merged actor. places-all trace places merged actor
