use Rattle.std.proofs.Common.{reverse}
use Rattle.mb_build.specs.Planned.{actors_in}
use Rattle.mb_causal_order.specs.Coming.{IsByLowest}
use Rattle.mb_causal_order.specs.ReplayOf.{IsReplayOf}
use Rattle.mb_causal_order.proofs.merge.merged_order.Given as goal

-- the order so far is right, and goes by the lowest actor; and its entries were replayed
abbrev pub invariant-loop-taken : goal.invariant-loop-taken
invariant-loop-taken l = record {
  replayed : IsReplayOf (actors_in l.plan) l.sends l.actors (reverse l.order.items) l.replay;
  lowest : IsByLowest (actors_in l.plan) l.sends l.actors (reverse l.order.items);
}
