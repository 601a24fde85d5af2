use Rattle.std.proofs.Common.{refl, ◌∙◌}
use Rattle.mb_world.proofs.RunLemmas.{leaves-after, leaves-ready}
use Rattle.mb_world.proofs.running.apply_systems.Goals as goal

pub messages-init : goal.messages-init
messages-init g c =
    let all = c.args.dispatcher.now.mailboxes.items in record {
      run = leaves-ready c.args.actor c.args.cell.now c.args.cell.now all all c.requires.run refl refl;
      logs = refl;
    }

pub returns-in_err-apply_next-clause-run : goal.returns-in_err-apply_next-clause-run
returns-in_err-apply_next-clause-run g c = leaves-after c.args.actor c.args.cell.now c.messages.cell c.apply_next.new.cell
    c.args.dispatcher.now.mailboxes.items c.messages.dispatcher.mailboxes.items c.apply_next.new.dispatcher.mailboxes.items
    c.messages.invariant.run c.apply_next.ensures.run

pub messages-preserved : goal.messages-preserved
messages-preserved g c = record {
  run = leaves-after c.args.actor c.args.cell.now c.messages.cell c.apply_next.new.cell
      c.args.dispatcher.now.mailboxes.items c.messages.dispatcher.mailboxes.items c.apply_next.new.dispatcher.mailboxes.items
      c.messages.invariant.run c.apply_next.ensures.run;
  logs = c.apply_next.ensures.logs ∙ c.messages.invariant.logs;
}

pub returns-clause-run : goal.returns-clause-run
returns-clause-run g c = leaves-after c.args.actor c.args.cell.now c.messages.cell c.apply_next.new.cell
    c.args.dispatcher.now.mailboxes.items c.messages.dispatcher.mailboxes.items c.apply_next.new.dispatcher.mailboxes.items
    c.messages.invariant.run c.apply_next.ensures.run
