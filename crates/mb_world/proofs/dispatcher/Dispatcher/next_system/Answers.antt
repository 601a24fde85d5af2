use Rattle.mb_world.proofs.DispatchLemmas.{marks-stay}
use Rattle.mb_world.proofs.dispatcher.Dispatcher.next_system.Goals as goal
use Rattle.mb_world.proofs.RegistryLemmas.{registry-stays}

pub returns-in-Some-clause-marks : goal.returns-in-Some-clause-marks
returns-in-Some-clause-marks c = marks-stay c.args.self.now.mailboxes.items c.args.actor.0 c.in-Some.mailbox.now _ c.in-Some.ensures.value c.next_system.ensures.mark

pub invariant_of-self : goal.invariant_of-self
invariant_of-self c = record {
  registry = registry-stays c.args.self.now.mailboxes.items c.args.actor.0 c.in-Some.mailbox.now _ c.args.self.now.claims.items c.args.self.now.running
      c.in-Some.ensures.value c.next_system.ensures.scheduled c.args.self.now.registry;
}
