use Rattle.std.proofs.Common.{ap}
use Rattle.mb_world.specs.Dispatched.{mark_of}
use Rattle.mb_world.proofs.DispatchLemmas.{marks-stay}
use Rattle.mb_world.proofs.dispatcher.Dispatcher.set_suspended.Goals as goal
use Rattle.mb_world.proofs.RegistryLemmas.{registry-stays}
use Rattle.mb_world.specs.Registered.{is_scheduled}

pub returns-in-Some-clause-marks : goal.returns-in-Some-clause-marks
returns-in-Some-clause-marks c = marks-stay c.args.self.now.mailboxes.items c.args.actor.0 c.in-Some.mailbox.now _ c.in-Some.ensures.value (ap mark_of c.set_suspended.ensures)

pub invariant_of-self : goal.invariant_of-self
invariant_of-self c = record {
  registry = registry-stays c.args.self.now.mailboxes.items c.args.actor.0 c.in-Some.mailbox.now _ c.args.self.now.claims.items c.args.self.now.running
      c.in-Some.ensures.value (ap is_scheduled c.set_suspended.ensures) c.args.self.now.registry;
}
