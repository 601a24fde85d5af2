use Rattle.std.proofs.Common.{take}
use Rattle.mb_world.specs.World.{IsStart, WorldView}
use Rattle.mb_explore.specs.Orders.{LeadsTo}
use Rattle.mb_explore.proofs.replayed.replay_as.Given as goal

abbrev pub invariant-loop-place : goal.invariant-loop-place
invariant-loop-place g l =
    (first : WorldView) × IsStart (g.S.Setup.count l.setup) (g.S.Setup.orders l.setup) first × LeadsTo first (take l.place l.schedule) l.world
