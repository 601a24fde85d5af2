use Rattle.heddleorange.specs.WholeRun.{after_at, gives_at}
use Rattle.heddleorange.proofs.run_from.run_on_threads_from.Given as goal

-- what is known of each number is what the actor does that was handed in for it
abbrev pub ghosts-run_planned_on_threads_from : goal.ghosts-run_planned_on_threads_from
ghosts-run_planned_on_threads_from g a = record { after = after_at a.actors.items g.A.Actor.after; gives = gives_at a.actors.items g.A.Actor.gives }
