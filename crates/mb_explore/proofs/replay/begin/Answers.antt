use Rattle.std.proofs.Common.{List, map, ap, subst, ◌∙◌}
use Rattle.mb_msg.specs.declared.order.Order.{Order}
use Rattle.mb_world.specs.World.{IsStart}
use Rattle.mb_explore.proofs.StartLemmas.{behave-as, start-stays}
use Rattle.mb_explore.proofs.replay.begin.Goals as goal

pub new-requires-clause-behave : goal.new-requires-clause-behave
new-requires-clause-behave g c =
    let s = c.args.setup.now in
    behave-as g.A.Actor.content g.A.Actor.after g.A.Actor.gives (g.S.Setup.after s) g.K.Behaviours.after (g.S.Setup.gives s) g.K.Behaviours.gives
    c.requires.after c.requires.gives 1 c.in_ok-plan.field-0.actors.items c.in_ok-plan.ensures.behave

pub returns : goal.returns
returns g c =
    let s = c.args.setup.now in
    start-stays (g.S.Setup.count s) (g.S.Setup.orders s) c.in_ok-world.world c.register_all.new.self
    (subst (λ (orders : List (List Order)). IsStart (g.S.Setup.count s) orders c.in_ok-world.world)
    (ap (map (λ list. list.items)) c.deref.ensures.value ∙ c.in_ok-plan.ensures.orders)
    (subst (λ n. IsStart n (map (λ list. list.items) c.deref.result.now) c.in_ok-world.world) c.in_ok-plan.ensures.same_count.1
    c.in_ok-world.ensures))
    c.in_ok-register_all.ensures.cells c.in_ok-register_all.ensures.senders
