use Rattle.std.proofs.Common.{sym, ◌∙◌, ap, not, ◌&&◌}
use Rattle.mb_actor.specs.ActorSet.{contains}
use Rattle.mb_actor.specs.OutboxView.{may_spawn}
use Rattle.mb_actor.proofs.OutboxLemmas.{may-spawn}
use Rattle.mb_actor.proofs.outbox.Outbox.may_ask.Goals as goal

pub returns-then-contains : goal.returns-then-contains
returns-then-contains c =
    ap not c.contains-then-contains.ensures ∙ ap (λ b. b && not (contains c.self.inside.asked c.in-Spawn.child)) c.if-contains.ensures
    ∙ may-spawn c.self.inside c.self.invariant c.args.self.now c.self.view_is c.in-Spawn.child
    ∙ ap (may_spawn c.args.self.now) (sym c.in-Spawn.is)

pub returns-else-contains : goal.returns-else-contains
returns-else-contains c =
    c.if-contains.false ∙ ap (λ b. b && not (contains c.self.inside.asked c.in-Spawn.child)) c.if-contains.ensures
    ∙ may-spawn c.self.inside c.self.invariant c.args.self.now c.self.view_is c.in-Spawn.child
    ∙ ap (may_spawn c.args.self.now) (sym c.in-Spawn.is)
