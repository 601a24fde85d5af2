use Rattle.std.proofs.Common.{◌≡◌, ◌∙◌, [], true, refl, sym, ap, subst}
use Rattle.mb_gate.specs.NamedActors.{NamesBelow}
use Rattle.mb_gate.specs.Accessors.{actors_of, pass_view}
use Rattle.mb_gate.specs.View.{View, Pushed, enlisting}
use Rattle.mb_msg.specs.declared.system.SysMsg.TheVariants as system
use Rattle.mb_register.proofs.Views.{does-enlisting, does-then}
use Rattle.mb_journal.specs.Accepted.{dead_letters}
use Rattle.mb_send.specs.SeenClosed.{were_seen_closed}
use Rattle.mb_send.proofs.Handing.{hands-later, loses-looked}
use Rattle.mb_send.proofs.Obligations.{registers-nobody, still-registered}
use Rattle.mb_send.proofs.SeenClosed.{was_seen_closed-seen, was_seen_closed-does}
use Rattle.mb_send.proofs.sender.GatesSender.stop.Goals as goal

pub sys_enqueue-requires-clause-named : goal.sys_enqueue-requires-clause-named
sys_enqueue-requires-clause-named g c = subst (NamesBelow (actors_of c.args.gates.now)) (sym c.in-Ok.ensures) tt

pub invariant_of-self : goal.invariant_of-self
invariant_of-self g c =
    let old = c.args.self.now in
    let dead = dead_letters old.send_log.posted in
    let sent_system = subst (λ (v : View). were_seen_closed v.log dead ≡ true) (sym c.in_default-sys_enqueue.ensures.ended.1) old.was_seen_closed in
    record {
      routes = old.routes;
      was_seen_closed = was_seen_closed-does c.args.id.0 [] [] (pass_view c.sys_enqueue.new.pass) (pass_view c.register.new.self.pass) dead
          c.register.ensures.registers.looks sent_system;
      bounded = old.bounded;
    }

pub invariant_of-self-2 : goal.invariant_of-self-2
invariant_of-self-2 g c =
    let old = c.args.self.now in
    let dead = dead_letters old.send_log.posted in
    let pushed = Pushed c.args.id.0 c.in-Ok-sys_enqueue.field-0 c.in-Ok.node in
    let listed = subst (λ (v : View). were_seen_closed v.log dead ≡ true) (sym c.in-Ok-sys_enqueue.ensures.listed)
    (was_seen_closed-seen pushed (pass_view old.registrar.pass).log dead old.was_seen_closed) in
    record {
      routes = old.routes;
      was_seen_closed = was_seen_closed-does c.args.id.0 [] [] (pass_view c.sys_enqueue.new.pass) (pass_view c.register-2.new.self.pass) dead
          c.register-2.ensures.registers.looks listed;
      bounded = old.bounded;
    }

pub returns-in_default-sys_enqueue-clause-leaves : goal.returns-in_default-sys_enqueue-clause-leaves
returns-in_default-sys_enqueue-clause-leaves g c = record {
  same_gates =
      (c.register.ensures.registers.same_gates.0 ∙ c.sys_enqueue.ensures.same_gates, c.register.ensures.registers.same_gates.1);
  still = still-registered _ _ _ _ c.register.ensures.registered;
  registered = (c.register.result, c.register.ensures.registered);
  handed =
      let ended = c.in_default-sys_enqueue.ensures.ended.1 in
      hands-later c.args.id.0 _ _ _ (pass_view c.sys_enqueue.new.pass) _ c.register.result (ap (λ (v : View). v.got) ended)
      (ap (λ (v : View). v.returned) ended) c.register.ensures.handed;
  same = (refl, refl);
  keeps = refl;
  queues = refl;
}

pub returns-clause-leaves : goal.returns-clause-leaves
returns-clause-leaves g c = record {
  same_gates =
      (c.register-2.ensures.registers.same_gates.0 ∙ c.sys_enqueue.ensures.same_gates, c.register-2.ensures.registers.same_gates.1);
  still = still-registered _ _ _ _ c.register-2.ensures.registered;
  registered = (c.register-2.result, c.register-2.ensures.registered);
  handed =
      let listed = c.in-Ok-sys_enqueue.ensures.listed in
      hands-later c.args.id.0 _ _ _ (pass_view c.sys_enqueue.new.pass) _ c.register-2.result (ap (λ (v : View). v.got) listed)
      (ap (λ (v : View). v.returned) listed) c.register-2.ensures.handed;
  same = (refl, refl);
  keeps = refl;
  queues = refl;
}

pub returns-then-id-len-clause-leaves : goal.returns-then-id-len-clause-leaves
returns-then-id-len-clause-leaves g c = record {
  same_gates = (refl, refl);
  still = λ other owed. owed;
  registered =
      let registrar = c.args.self.now.registrar in
      registers-nobody g.W.RunQueue.pushed g.W.RunQueue.refused c.args.id.0 registrar registrar refl refl;
  handed =
      let registrar = c.args.self.now.registrar in
      loses-looked g.W.RunQueue.pushed g.W.RunQueue.refused registrar registrar refl refl refl refl;
  same = (refl, refl);
  keeps = refl;
  queues = refl;
}

pub returns-in_default-clause-leaves : goal.returns-in_default-clause-leaves
returns-in_default-clause-leaves g c = record {
  same_gates = (refl, refl);
  still = λ other owed. owed;
  registered =
      let registrar = c.args.self.now.registrar in
      registers-nobody g.W.RunQueue.pushed g.W.RunQueue.refused c.args.id.0 registrar registrar refl refl;
  handed =
      let registrar = c.args.self.now.registrar in
      loses-looked g.W.RunQueue.pushed g.W.RunQueue.refused registrar registrar refl refl refl refl;
  same = (refl, refl);
  keeps = refl;
  queues = refl;
}

pub returns-clause-stopped : goal.returns-clause-stopped
returns-clause-stopped g c =
    let id = c.args.id.0 in let number = c.in-Ok-sys_enqueue.field-0 in
    let a = pass_view c.args.self.now.registrar.pass in let b = pass_view c.sys_enqueue.new.pass in let d = pass_view c.register-2.new.self.pass in
    let listed = c.in-Ok-sys_enqueue.ensures.listed ∙ ap (λ m. enlisting id number m a) c.in-Ok.ensures in
    (number, does-then id _ _ a b d (does-enlisting id number system.Terminate a b listed) c.register-2.ensures.registers.looks)
