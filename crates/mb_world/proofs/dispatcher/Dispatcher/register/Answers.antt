use Rattle.std.proofs.Common.{◌≡◌, ◌<◌, false, length, ap, rules}
use Rattle.mb_world.specs.Dispatched.{mark_of}
use Rattle.mb_world.specs.Registered.{is_scheduled}
use Rattle.mb_world.proofs.DispatchLemmas.{marks-stay}
use Rattle.mb_world.proofs.RegistryLemmas.{registry-registers}
use Rattle.mb_world.proofs.dispatcher.Dispatcher.register.Goals as goal

pub returns-clause-marks : goal.returns-clause-marks
returns-clause-marks c = marks-stay c.args.self.now.mailboxes.items c.args.actor.0 c.in-Some.mailbox.now _ c.in-Some.ensures.value (ap mark_of c.set_scheduled.ensures)

pub invariant_of-self-2 : goal.invariant_of-self-2
invariant_of-self-2 c =
    let boxes = c.args.self.now.mailboxes.items in let within : c.args.actor.0 < length boxes = search rules in
    let idle : c.in-Some.mailbox.now.is_scheduled ≡ false = search rules in record {
      registry = registry-registers boxes c.in-Some.mailbox.now c.set_scheduled.new.self c.args.self.now.claims.items c.push_back.new.self.items
          c.args.self.now.running c.args.actor c.args.self.now.registry within c.in-Some.ensures.value idle (ap is_scheduled c.set_scheduled.ensures)
          c.in_ok-push_back.ensures.items;
    }
