use Rattle.heddleorange.proofs.Lives.{all-handled}
use Rattle.heddleorange.proofs.laws.an_actor_without_a_restart_has_handled_all.Goals as goal

pub returns : goal.returns
returns g c = λ who journal an_actor lawful none. all-handled who (g.K.Behaviours.gives who.this.0) an_actor journal lawful none
