use Rattle.mb_world.proofs.DispatchLemmas.{marks-stay}
use Rattle.mb_world.proofs.dispatcher.Dispatcher.post.Goals as goal
use Rattle.mb_world.proofs.RegistryLemmas.{registry-stays}

pub returns-in-Ok-clause-marks : goal.returns-in-Ok-clause-marks
returns-in-Ok-clause-marks c = marks-stay c.args.self.now.mailboxes.items c.args.to.0 c.in-Some-get_mut.mailbox.now _ c.in-Some-get_mut.ensures.value c.enqueue.ensures.mark

pub invariant_of-self-in-Ok : goal.invariant_of-self-in-Ok
invariant_of-self-in-Ok c = record {
  registry = registry-stays c.args.self.now.mailboxes.items c.args.to.0 c.in-Some-get_mut.mailbox.now _ c.args.self.now.claims.items c.args.self.now.running
      c.in-Some-get_mut.ensures.value c.enqueue.ensures.scheduled c.args.self.now.registry;
}
