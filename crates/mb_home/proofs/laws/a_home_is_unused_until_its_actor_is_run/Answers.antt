use Rattle.mb_home.proofs.UnusedHomeLaw.{unused-until-run}
use Rattle.mb_home.proofs.laws.a_home_is_unused_until_its_actor_is_run.Goals as goal

pub returns : goal.returns
returns g c = unused-until-run g.K.Behaviours.gives
