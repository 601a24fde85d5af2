use Rattle.std.proofs.Common.{rules, ◌<◌, length, refl}
use Rattle.std.proofs.lemmas.Option.{slice_get_read}
use Rattle.mb_world.proofs.WorldLemmas.{rest-still, run-begins, run-ends}
use Rattle.mb_world.proofs.steps.run_once.Goals as goal

pub run_mailbox-requires : goal.run_mailbox-requires
run_mailbox-requires g c =
    let cells = c.args.cells.now.items in let within : c.args.actor.0 < length cells = search rules in
    let is = slice_get_read cells (length cells) c.args.actor.0 c.in-Some.cell.now refl within c.in-Some.ensures.value in
    record {
      run = run-begins cells c.take_claim.new.self.mailboxes.items c.args.actor c.in-Some.cell.now
          (rest-still cells c.args.dispatcher.now.mailboxes.items c.take_claim.new.self.mailboxes.items c.requires.rest c.take_claim.ensures.marks) is;
    }

pub returns-in_err-run_mailbox-clause-rest : goal.returns-in_err-run_mailbox-clause-rest
returns-in_err-run_mailbox-clause-rest g c =
    let cells = c.args.cells.now.items in let within : c.args.actor.0 < length cells = search rules in
    let is = slice_get_read cells (length cells) c.args.actor.0 c.in-Some.cell.now refl within c.in-Some.ensures.value in
    run-ends cells c.take_claim.new.self.mailboxes.items c.run_mailbox.new.dispatcher.mailboxes.items c.args.actor c.in-Some.cell.now
    c.run_mailbox.new.cell
    (rest-still cells c.args.dispatcher.now.mailboxes.items c.take_claim.new.self.mailboxes.items c.requires.rest c.take_claim.ensures.marks)
    is c.run_mailbox.ensures.run

pub returns-in_err-release-clause-rest : goal.returns-in_err-release-clause-rest
returns-in_err-release-clause-rest g c =
    let cells = c.args.cells.now.items in let within : c.args.actor.0 < length cells = search rules in
    let is = slice_get_read cells (length cells) c.args.actor.0 c.in-Some.cell.now refl within c.in-Some.ensures.value in
    rest-still _ c.run_mailbox.new.dispatcher.mailboxes.items c.release.new.self.mailboxes.items
    (run-ends cells c.take_claim.new.self.mailboxes.items c.run_mailbox.new.dispatcher.mailboxes.items c.args.actor c.in-Some.cell.now
    c.run_mailbox.new.cell
    (rest-still cells c.args.dispatcher.now.mailboxes.items c.take_claim.new.self.mailboxes.items c.requires.rest c.take_claim.ensures.marks)
    is c.run_mailbox.ensures.run)
    c.release.ensures.marks

pub returns-clause-rest : goal.returns-clause-rest
returns-clause-rest g c =
    let cells = c.args.cells.now.items in let within : c.args.actor.0 < length cells = search rules in
    let is = slice_get_read cells (length cells) c.args.actor.0 c.in-Some.cell.now refl within c.in-Some.ensures.value in
    rest-still _ c.run_mailbox.new.dispatcher.mailboxes.items c.release.new.self.mailboxes.items
    (run-ends cells c.take_claim.new.self.mailboxes.items c.run_mailbox.new.dispatcher.mailboxes.items c.args.actor c.in-Some.cell.now
    c.run_mailbox.new.cell
    (rest-still cells c.args.dispatcher.now.mailboxes.items c.take_claim.new.self.mailboxes.items c.requires.rest c.take_claim.ensures.marks)
    is c.run_mailbox.ensures.run)
    c.release.ensures.marks

pub returns-clause-ran : goal.returns-clause-ran
returns-clause-ran g c =
    let cells = c.args.cells.now.items in let within : c.args.actor.0 < length cells = search rules in
    let is = slice_get_read cells (length cells) c.args.actor.0 c.in-Some.cell.now refl within c.in-Some.ensures.value in record {
      before = c.in-Some.cell.now;
      after = c.run_mailbox.new.cell;
      was = is;
      continues = c.run_mailbox.ensures.run.continues;
      others = refl;
    }
