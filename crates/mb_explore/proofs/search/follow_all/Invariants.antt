use Rattle.std.proofs.Common.{map}
use Rattle.std.specs.Prelude.{string_bytes}
use Rattle.mb_world.specs.World.{IsStart}
use Rattle.mb_explore.specs.Added.{found_of}
use Rattle.mb_explore.specs.Outcomes.{AreFound}
use Rattle.mb_explore.specs.Search.{Follows}
use Rattle.mb_explore.proofs.search.follow_all.Given as goal

abbrev pub invariant-loop-taken : goal.invariant-loop-taken
invariant-loop-taken g l = record {
  found : AreFound (IsStart (g.S.Setup.count l.setup) (g.S.Setup.orders l.setup)) g.K.Behaviours.after g.K.Behaviours.gives (map string_bytes l.names)
      (map found_of l.outcomes.items);
  follows : Follows g.K.Behaviours.after g.K.Behaviours.gives (map string_bytes l.names) (map found_of l.fn.outcomes.items) l.fn.frontier
      (map found_of l.outcomes.items) l.frontier (λ final. Unit {0});
}
