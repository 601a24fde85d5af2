use Rattle.std.proofs.Common.{take}
use Rattle.mb_world.specs.World.{IsStart, WorldView}
use Rattle.mb_explore.specs.Orders.{LeadsTo}
use Rattle.mb_explore.proofs.replay.replay.Given as goal

abbrev pub invariant-loop-choice : goal.invariant-loop-choice
invariant-loop-choice g l =
    (first : WorldView) × IsStart (g.S.Setup.count l.setup) (g.S.Setup.orders l.setup) first × LeadsTo first (take l.choice-index l.schedule) l.world
