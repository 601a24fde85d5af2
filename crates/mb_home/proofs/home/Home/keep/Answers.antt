use Rattle.mb_home.proofs.DrainLemmas.{drained-on}
use Rattle.mb_home.proofs.home.Home.keep.Goals as goal

pub set_backlog-requires-clause-continues : goal.set_backlog-requires-clause-continues
set_backlog-requires-clause-continues g c = drained-on c.args.self.now c.args.drained c.requires.none_left c.requires.continues
