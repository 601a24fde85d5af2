use Rattle.std.proofs.Common.{ap}
use Rattle.mb_world.specs.Dispatched.{mark_of}
use Rattle.mb_world.specs.Registered.{is_scheduled}
use Rattle.mb_world.proofs.DispatchLemmas.{marks-stay}
use Rattle.mb_world.proofs.RegistryLemmas.{registry-idle}
use Rattle.mb_world.proofs.dispatcher.Dispatcher.set_idle.Goals as goal

pub invariant_of-self : goal.invariant_of-self
invariant_of-self c = record {
  registry = registry-idle c.args.self.now.mailboxes.items c.set_scheduled.new.self c.args.self.now.claims.items c.args.self.now.running
      c.in_ok-actor.actor c.args.self.now.registry c.in_ok-actor.was (ap is_scheduled c.set_scheduled.ensures);
}

pub returns-in-Some-clause-marks : goal.returns-in-Some-clause-marks
returns-in-Some-clause-marks c =
    marks-stay c.args.self.now.mailboxes.items c.in_ok-actor.actor.0 c.in-Some.mailbox.now _ c.in-Some.ensures.value (ap mark_of c.set_scheduled.ensures)
