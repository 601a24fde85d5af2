use Rattle.heddleorange.specs.WholeRun.{after_at, gives_at}
use Rattle.heddleorange.proofs.in_order.run_in_order.Given as goal

-- what is known of each number is what the actor does that was handed in for it
abbrev pub ghosts-run_planned_in_order : goal.ghosts-run_planned_in_order
ghosts-run_planned_in_order g a = record { after = after_at a.actors.items g.A.Actor.after; gives = gives_at a.actors.items g.A.Actor.gives }
