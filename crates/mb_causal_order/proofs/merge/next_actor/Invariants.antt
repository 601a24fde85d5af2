use Rattle.std.proofs.Common.{◌<◌, ℕ, List}
use Rattle.mb_msg.specs.declared.order.SenderOrder.{SenderOrder}
use Rattle.mb_journal.specs.Identity.{Identity}
use Rattle.mb_causal_order.specs.Coming.{MayComeBehind}
use Rattle.mb_causal_order.specs.ReplayOf.{IsReplayOf}
use Rattle.mb_causal_order.specs.declared.place.Place.{Place}
use Rattle.mb_causal_order.proofs.merge.next_actor.Given as goal

-- the next entry of none of the actors so far may come
abbrev pub invariant-loop-number : goal.invariant-loop-number
invariant-loop-number l = (who : List Identity) (sends : List SenderOrder) (before order : List Place) (b : ℕ) → IsReplayOf who sends l.actors order l.replay
    → b < l.number → MayComeBehind who sends l.actors before order b → ⊥
