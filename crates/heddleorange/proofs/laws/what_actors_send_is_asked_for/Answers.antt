use Rattle.heddleorange.proofs.Weighed.{guardian-weighed, told-weighed}
use Rattle.heddleorange.proofs.laws.what_actors_send_is_asked_for.Goals as goal

pub returns-clause-actors : goal.returns-clause-actors
returns-clause-actors g c = λ one other who journal. told-weighed one other who (g.K.Behaviours.gives who.this.0) journal

pub returns-clause-guardian : goal.returns-clause-guardian
returns-clause-guardian g c = λ one other who journal. guardian-weighed one other who (g.K.Behaviours.gives who.this.0) journal
