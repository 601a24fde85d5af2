use Rattle.std.proofs.Common.{sym, ◌∙◌, ap, subst, ◌&&◌, ◌||◌, [], ◌∷◌, ◌++◌, arith}
use Rattle.mb_actor.specs.ActorSet.{contains}
use Rattle.mb_actor.specs.Held.{CanHold}
use Rattle.mb_actor.specs.OutboxView.{OutboxView}
use Rattle.mb_actor.proofs.HeldLemmas.{can_hold-more}
use Rattle.mb_actor.proofs.OutboxLemmas.{passes, small, spawnable, with_effect, asks_spawn, asks_none}
use Rattle.mb_actor.proofs.outbox.Outbox.ask.Goals as goal
use Rattle.mb_actor.proofs.outbox.Outbox.ask.Goals.{in-Spawn, in_default-effect}

pub insert-requires : goal.insert-requires
insert-requires c =
    small c.self.inside.unspawned (omega arith) c.in-Spawn.child
    (spawnable c.self.inside c.self.invariant c.args.self.now c.self.view_is c.args.effect c.in_default.ensures c.in-Spawn.child c.in-Spawn.is)

pub invariant_of-self : goal.invariant_of-self
invariant_of-self c =
    let kept = with_effect c.self.inside c.self.invariant c.args.self.now c.self.view_is c.args.effect c.in_default.ensures
    (can_hold-more c.args.self.now c.args.effect (subst (λ (t : OutboxView). CanHold t) c.self.view_is c.self.invariant.held)
    (passes c.args.self.now c.args.effect c.in_default.ensures)) in
    elim c.match-effect.branch [
      | in-Spawn w ↦
          kept _
          (c.push.ensures.items ∙ (λ i. (w.self-inside-is i).effects.items ++ (w.effect-is ∙ sym w.in-Spawn.is) i ∷ []))
          (ap (λ o. o.actors) w.self-inside-is) (ap (λ o. o.unspawned) w.self-inside-is) (ap (λ o. o.prepared) w.self-inside-is)
          (λ x. ap (λ o. contains o.asked x) w.self-inside-is ∙ w.insert.ensures x
          ∙ ap (λ b. b || contains c.self.inside.asked x) (asks_spawn c.args.effect w.in-Spawn.child x w.in-Spawn.is))
          (ap (λ o. o.only_tells) w.self-inside-is ∙ ap (λ b. c.self.inside.only_tells && b) c.is_tell.ensures)
      | in_default-effect w ↦
          kept _ (c.push.ensures.items ∙ (λ i. (w.self-inside-is i).effects.items ++ w.effect-is i ∷ []))
          (ap (λ o. o.actors) w.self-inside-is) (ap (λ o. o.unspawned) w.self-inside-is) (ap (λ o. o.prepared) w.self-inside-is)
          (λ x. ap (λ o. contains o.asked x) w.self-inside-is
          ∙ ap (λ b. b || contains c.self.inside.asked x) (asks_none c.args.effect w.in_default-effect.not-Spawn x))
          (ap (λ o. o.only_tells) w.self-inside-is ∙ ap (λ b. c.self.inside.only_tells && b) c.is_tell.ensures)
    ]
