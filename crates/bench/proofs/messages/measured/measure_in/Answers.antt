use Rattle.std.proofs.Common.{◌≡◌, ◌++◌, IfOk, List, subst}
use Rattle.mb_actor.specs.declared.message.Message.{Message}
use Rattle.bench.specs.Sum.{sends}
use Rattle.bench.proofs.messages.measured.measure_in.Goals as goal

pub returns-clause-state : goal.returns-clause-state
returns-clause-state g c =
    subst (λ (l : List Message). IfOk c.measure_handling.result (λ measured. measured.state ≡ g.K.Behaviours.after 1 (l ++ sends c.args.count)))
    c.in_ok-start.ensures.no_message c.measure_handling.ensures.state
