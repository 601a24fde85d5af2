use Rattle.std.proofs.Common.{rules}
use Rattle.std.specs.Prelude.{not}
use Rattle.std.proofs.lemmas.Fn.{filter_same}
use Rattle.mb_actor.specs.ActorList.{is_same}
use Rattle.mb_trace.proofs.actor_list.leave.Goals as goal

pub returns-clause-items : goal.returns-clause-items
returns-clause-items c =
    filter_same _ (λ other. not (is_same c.args.id other)) _ (λ x b f r. search rules) _ _ c.retain.ensures.filtered
