use Rattle.std.proofs.Common.{List}
use Rattle.mb_msg.specs.declared.order.Order.{Order}
use Rattle.mb_msg.specs.declared.plan.Plan.{Plan}
use Rattle.mb_shutdown.specs.Refused.{IsComplete}
use Rattle.mb_system.specs.Belonging.{BelongsTogether}
use Rattle.heddleorange.specs.HasRun.{HasRun, HasRunWithin}
use Rattle.heddleorange.specs.RanQuietly.{HasRunTurns}
use Rattle.heddleorange.proofs.at_rest.finish_with_turns.Given as goal

abbrev pub invariant-loop : goal.invariant-loop
invariant-loop g l =
    BelongsTogether l.built × IsComplete l.built × HasRunWithin g.K.Behaviours.gives l.fn.limit l.built
    × ((plan : Plan) (orders : List (List Order)) → HasRun g.K.Behaviours.gives plan orders l.fn.built → HasRun g.K.Behaviours.gives plan orders l.built)
    × ((plan : Plan) (orders : List (List Order)) → HasRunTurns g.K.Behaviours.gives plan orders l.fn.built l.fn.turns
    → HasRunTurns g.K.Behaviours.gives plan orders l.built l.turns)
