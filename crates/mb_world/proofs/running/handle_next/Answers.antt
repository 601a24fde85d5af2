use Rattle.std.proofs.Common.{refl}
use Rattle.mb_world.proofs.RunLemmas.{leaves-envelope, leaves-ready}
use Rattle.mb_world.proofs.running.handle_next.Goals as goal

pub returns-then-not-should_process-clause-run : goal.returns-then-not-should_process-clause-run
returns-then-not-should_process-clause-run g c =
    let all = c.args.dispatcher.now.mailboxes.items in
    leaves-ready c.args.actor c.args.cell.now c.args.cell.now all all c.requires.run refl refl

pub returns-in_err-ready-clause-run : goal.returns-in_err-ready-clause-run
returns-in_err-ready-clause-run g c =
    let all = c.args.dispatcher.now.mailboxes.items in
    leaves-ready c.args.actor c.args.cell.now c.ready.new.self all all c.requires.run c.ready.ensures.same refl

pub returns-then-is_guardian-clause-run : goal.returns-then-is_guardian-clause-run
returns-then-is_guardian-clause-run g c =
    let all = c.args.dispatcher.now.mailboxes.items in
    leaves-ready c.args.actor c.args.cell.now c.ready.new.self all all c.requires.run c.ready.ensures.same refl

pub returns-in_default-clause-run : goal.returns-in_default-clause-run
returns-in_default-clause-run g c =
    leaves-ready c.args.actor c.args.cell.now c.ready.new.self c.args.dispatcher.now.mailboxes.items c.next_envelope.new.self.mailboxes.items
    c.requires.run c.ready.ensures.same (rw c.in_default.is at c.next_envelope.ensures.none)

pub returns-in_err-carry_out-clause-run : goal.returns-in_err-carry_out-clause-run
returns-in_err-carry_out-clause-run g c =
    leaves-envelope c.args.actor c.args.cell.now c.ready.new.self c.handle.new.self c.carry_out.new.cell c.in-Some.envelope
    c.args.dispatcher.now.mailboxes.items c.next_envelope.new.self.mailboxes.items c.carry_out.new.dispatcher.mailboxes.items c.requires.run
    c.ready.ensures.same c.in-Some.ensures.given c.handle.ensures c.carry_out.ensures.carried c.carry_out.ensures.marks

pub returns-clause-run : goal.returns-clause-run
returns-clause-run g c =
    leaves-envelope c.args.actor c.args.cell.now c.ready.new.self c.handle.new.self c.carry_out.new.cell c.in-Some.envelope
    c.args.dispatcher.now.mailboxes.items c.next_envelope.new.self.mailboxes.items c.carry_out.new.dispatcher.mailboxes.items c.requires.run
    c.ready.ensures.same c.in-Some.ensures.given c.handle.ensures c.carry_out.ensures.carried c.carry_out.ensures.marks
