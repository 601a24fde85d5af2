use Rattle.heddleorange.proofs.Conserved.{conserved-of}
use Rattle.heddleorange.proofs.conservation.a_run_conserves_what_its_actors_conserve.Goals as goal

pub returns : goal.returns
returns g c = conserved-of g.A.Actor.after g.A.Actor.gives
