use Rattle.std.proofs.Common.{◌∙◌}
use Rattle.mb_world.proofs.RunLemmas.{leaves-after}
use Rattle.mb_world.proofs.running.run_mailbox.Goals as goal

pub returns-in_err-handle_next-clause-run : goal.returns-in_err-handle_next-clause-run
returns-in_err-handle_next-clause-run g c =
    leaves-after c.args.actor c.args.cell.now c.loop-handled.cell c.handle_next.new.cell
    c.args.dispatcher.now.mailboxes.items c.loop-handled.dispatcher.mailboxes.items c.handle_next.new.dispatcher.mailboxes.items
    c.loop-handled.invariant.run c.handle_next.ensures.run

pub returns-then-not-branch-clause-run : goal.returns-then-not-branch-clause-run
returns-then-not-branch-clause-run g c =
    leaves-after c.args.actor c.args.cell.now c.loop-handled.cell c.handle_next.new.cell
    c.args.dispatcher.now.mailboxes.items c.loop-handled.dispatcher.mailboxes.items c.handle_next.new.dispatcher.mailboxes.items
    c.loop-handled.invariant.run c.handle_next.ensures.run

pub returns-in_err-apply_systems-2-clause-run : goal.returns-in_err-apply_systems-2-clause-run
returns-in_err-apply_systems-2-clause-run g c =
    leaves-after c.args.actor c.args.cell.now c.handle_next.new.cell c.apply_systems-in-loop-handled.new.cell
    c.args.dispatcher.now.mailboxes.items c.handle_next.new.dispatcher.mailboxes.items c.apply_systems-in-loop-handled.new.dispatcher.mailboxes.items
    (leaves-after c.args.actor c.args.cell.now c.loop-handled.cell c.handle_next.new.cell
    c.args.dispatcher.now.mailboxes.items c.loop-handled.dispatcher.mailboxes.items c.handle_next.new.dispatcher.mailboxes.items
    c.loop-handled.invariant.run c.handle_next.ensures.run)
    c.apply_systems-in-loop-handled.ensures.run

pub loop-handled-preserved : goal.loop-handled-preserved
loop-handled-preserved g c = record {
  run = leaves-after c.args.actor c.args.cell.now c.handle_next.new.cell c.apply_systems-in-loop-handled.new.cell
      c.args.dispatcher.now.mailboxes.items c.handle_next.new.dispatcher.mailboxes.items c.apply_systems-in-loop-handled.new.dispatcher.mailboxes.items
      (leaves-after c.args.actor c.args.cell.now c.loop-handled.cell c.handle_next.new.cell
      c.args.dispatcher.now.mailboxes.items c.loop-handled.dispatcher.mailboxes.items c.handle_next.new.dispatcher.mailboxes.items
      c.loop-handled.invariant.run c.handle_next.ensures.run)
      c.apply_systems-in-loop-handled.ensures.run;
  logs = c.apply_systems-in-loop-handled.ensures.logs ∙ c.handle_next.ensures.logs ∙ c.loop-handled.invariant.logs;
}
