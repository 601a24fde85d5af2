use Rattle.std.proofs.Common.{refl, ◌∙◌}
use Rattle.mb_world.proofs.RunLemmas.{leaves-ready, leaves-system}
use Rattle.mb_world.proofs.running.apply_next.Goals as goal

pub returns-then-is_closed-clause-run : goal.returns-then-is_closed-clause-run
returns-then-is_closed-clause-run g c =
    let all = c.args.dispatcher.now.mailboxes.items in
    leaves-ready c.args.actor c.args.cell.now c.args.cell.now all all c.requires.run refl refl

pub returns-in_err-ready-clause-run : goal.returns-in_err-ready-clause-run
returns-in_err-ready-clause-run g c =
    let all = c.args.dispatcher.now.mailboxes.items in
    leaves-ready c.args.actor c.args.cell.now c.ready.new.self all all c.requires.run c.ready.ensures.same refl

pub returns-in_default-clause-run : goal.returns-in_default-clause-run
returns-in_default-clause-run g c =
    leaves-ready c.args.actor c.args.cell.now c.ready.new.self c.args.dispatcher.now.mailboxes.items c.next_message.new.dispatcher.mailboxes.items
    c.requires.run c.ready.ensures.same c.next_message.ensures.marks

pub returns-in_err-carry_out-clause-run : goal.returns-in_err-carry_out-clause-run
returns-in_err-carry_out-clause-run g c =
    leaves-system c.args.actor c.args.cell.now c.ready.new.self c.apply.new.self c.carry_out.new.cell c.in-Some.number c.in-Some.message
    c.args.dispatcher.now.mailboxes.items c.carry_out.new.dispatcher.mailboxes.items c.requires.run c.ready.ensures.same c.apply.ensures
    c.carry_out.ensures.carried (c.carry_out.ensures.marks ∙ c.next_message.ensures.marks)

pub returns-clause-run : goal.returns-clause-run
returns-clause-run g c =
    leaves-system c.args.actor c.args.cell.now c.ready.new.self c.apply.new.self c.carry_out.new.cell c.in-Some.number c.in-Some.message
    c.args.dispatcher.now.mailboxes.items c.carry_out.new.dispatcher.mailboxes.items c.requires.run c.ready.ensures.same c.apply.ensures
    c.carry_out.ensures.carried (c.carry_out.ensures.marks ∙ c.next_message.ensures.marks)
