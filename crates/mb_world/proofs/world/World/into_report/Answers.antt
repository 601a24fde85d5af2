use Rattle.std.proofs.Common.{◌≡◌, length, arith}
use Rattle.mb_world.proofs.EndLemmas.{same-count, shown-count}
use Rattle.mb_world.proofs.world.World.into_report.Goals as goal

pub actor_reports-requires : goal.actor_reports-requires
actor_reports-requires g c = same-count c.self.inside.cells.items c.self.inside.dispatcher.mailboxes.items c.self.invariant.0

pub invariant_of-result-clause-few_actors : goal.invariant_of-result-clause-few_actors
invariant_of-result-clause-few_actors g c =
    let all = c.self.inside.cells.items in
    let lines = shown-count g.K.Behaviours.after g.K.Behaviours.gives all c.self.inside.dispatcher.mailboxes.items c.in_ok-actors.actors.items
    c.in_ok-actors.ensures in
    let few = c.self.invariant.0.few in omega (arith, lines, few)

pub invariant_of-result-clause-few_senders : goal.invariant_of-result-clause-few_senders
invariant_of-result-clause-few_senders g c =
    let lines : length c.in_ok-senders.senders.items ≡ length c.self.inside.dispatcher.logs.items = c.in_ok-senders.ensures in
    let few = c.self.invariant.0.few in let outside = c.self.invariant.1 in let logs = c.self.invariant.2 in
    omega (arith, lines, few, outside, logs)
