use Rattle.std.proofs.Common.{length, map, take}
use Rattle.std.specs.Prelude.{string_bytes}
use Rattle.std.specs.List.{All}
use Rattle.mb_world.specs.World.{IsStart}
use Rattle.mb_explore.specs.Added.{found_of}
use Rattle.mb_explore.specs.Outcomes.{AreFound}
use Rattle.mb_explore.specs.Search.{Follows, IsSettled}
use Rattle.mb_explore.proofs.follow.make_all.Given as goal

abbrev pub invariant-loop-choice : goal.invariant-loop-choice
invariant-loop-choice g l = record {
  found : AreFound (IsStart (g.S.Setup.count l.setup) (g.S.Setup.orders l.setup)) g.K.Behaviours.after g.K.Behaviours.gives (map string_bytes l.names)
      (map found_of l.outcomes.items);
  follows : Follows g.K.Behaviours.after g.K.Behaviours.gives (map string_bytes l.names) (map found_of l.fn.outcomes.items) l.fn.frontier
      (map found_of l.outcomes.items) l.frontier
      (λ final. All (IsSettled g.K.Behaviours.after g.K.Behaviours.gives (map string_bytes l.names) final (length l.from.schedule.items) l.from.world)
      (take l.choice-index l.choices));
}
