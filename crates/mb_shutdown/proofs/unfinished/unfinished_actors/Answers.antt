use Rattle.mb_gate.specs.Accessors.{pass_view}
use Rattle.mb_shutdown.proofs.unfinished.unfinished_actors.Goals as goal

pub returns : goal.returns
returns g c = record {
  view = pass_view c.give_all_back-pass.result;
  seen = c.give_all_back-pass.ensures.seen;
  back = c.give_all_back-pass.ensures.back;
  homes = record { all = c.finish-all.result.items; left = c.finish-all.ensures.left; shows = c.show_all.ensures };
}
