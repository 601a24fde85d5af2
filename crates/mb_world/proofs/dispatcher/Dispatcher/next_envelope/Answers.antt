use Rattle.std.proofs.Common.{rules, ◌<◌, length, ap}
use Rattle.mb_world.specs.Dispatched.{mark_of}
use Rattle.mb_world.proofs.DispatchLemmas.{gives-to}
use Rattle.mb_world.proofs.dispatcher.Dispatcher.next_envelope.Goals as goal
use Rattle.mb_world.proofs.RegistryLemmas.{registry-stays}
use Rattle.std.proofs.Common.{ap}

pub returns-in_ok-envelope-in-Some-clause-given : goal.returns-in_ok-envelope-in-Some-clause-given
returns-in_ok-envelope-in-Some-clause-given c =
    let some = c.in_ok-envelope-in-Some in let all = c.args.self.now.mailboxes in
    let within : c.args.actor.0 < length all.items = search rules in
    gives-to c.args.self.now.mailboxes.items c.args.actor.0 c.in-Some.mailbox.now c.next_envelope.new.self some.envelope within
    c.in-Some.ensures.value (ap mark_of some.ensures.given) some.ensures.addressed

pub invariant_of-self : goal.invariant_of-self
invariant_of-self c = record {
  registry = registry-stays c.args.self.now.mailboxes.items c.args.actor.0 c.in-Some.mailbox.now _ c.args.self.now.claims.items c.args.self.now.running
      c.in-Some.ensures.value c.next_envelope.ensures.scheduled c.args.self.now.registry;
}
