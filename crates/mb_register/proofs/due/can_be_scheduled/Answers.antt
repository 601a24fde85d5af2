use Rattle.std.proofs.Common.{◌≡◌, ◌++◌, [], subst, sym, ap, ◌∙◌}
use Rattle.mb_status.specs.Mailbox.{word_of, mailbox_of}
use Rattle.mb_gate.specs.Accessors.{pass_view}
use Rattle.mb_gate.specs.View.{View, obligation_to, seeing, Read}
use Rattle.mb_core.specs.Run.{after_reading}
use Rattle.mb_register.specs.Views.{LooksAfter}
use Rattle.mb_register.proofs.Views.{looks-reading, looks-then, owes-same}
use Rattle.mb_register.proofs.Obligations.{discharged}
use Rattle.mb_register.proofs.ClaimCounts.{claims-read, claims-then}
use Rattle.mb_register.proofs.Dues.{due-by, due-hinted}
use Rattle.mb_register.proofs.due.can_be_scheduled.Goals as goal

pub returns-clause-only_reads : goal.returns-clause-only_reads
returns-clause-only_reads g c =
    let id = c.args.id.0 in
    let a = pass_view c.args.pass.now in
    let b = pass_view c.status-status.new.pass in
    let d = pass_view c.has_system-system.new.pass in
    let e = pass_view c.has_messages-messages.new.pass in
    let look = c.has_system-system.ensures.only_reads in let count = c.has_messages-messages.ensures.only_reads in
    record {
      same_gates = count.same_gates ∙ look.same_gates ∙ c.status-status.ensures.same_gates;
      looks = looks-then id a b e (subst (LooksAfter id a) (sym c.status-status.ensures.known) (looks-reading id (word_of c.status-status.result) a))
          (looks-then id b d e look.looks count.looks);
      claims = claims-then [] [] [] [] a b e (claims-read id (word_of c.status-status.result) a b c.status-status.ensures.known)
          (claims-then [] [] [] [] b d e look.claims count.claims);
    }

pub returns-clause-discharged : goal.returns-clause-discharged
returns-clause-discharged g c idle =
    let id = c.args.id.0 in
    let a = pass_view c.args.pass.now in
    let b = pass_view c.status-status.new.pass in
    let d = pass_view c.has_system-system.new.pass in
    let e = pass_view c.has_messages-messages.new.pass in
    let status = c.status-status.result in
    let read : obligation_to id b ≡ after_reading (mailbox_of (word_of status)) (obligation_to id a) =
    ap (obligation_to id) c.status-status.ensures.known ∙ owes-same id (after_reading (mailbox_of (word_of status)) (obligation_to id a)) (seeing (Read id
    (word_of status)) a) in
    discharged status c.has_messages-messages.result c.has_system-system.result (obligation_to id a) (obligation_to id b) (obligation_to id d) (obligation_to id e) read
    c.has_system-system.ensures.same_obligation c.has_system-system.ensures.none c.has_messages-messages.ensures.same_obligation c.has_messages-messages.ensures.none
    (sym c.can_schedule.ensures ∙ idle)

pub returns-then-closed-clause-only_reads : goal.returns-then-closed-clause-only_reads
returns-then-closed-clause-only_reads g c = record {
  same_gates = c.status-status.ensures.same_gates;
  looks = subst (LooksAfter c.args.id.0 (pass_view c.args.pass.now)) (sym c.status-status.ensures.known)
      (looks-reading c.args.id.0 (word_of c.status-status.result) (pass_view c.args.pass.now));
  claims = claims-read c.args.id.0 (word_of c.status-status.result) (pass_view c.args.pass.now) _ c.status-status.ensures.known;
}

pub returns-then-should_process-clause-only_reads : goal.returns-then-should_process-clause-only_reads
returns-then-should_process-clause-only_reads g c = record {
  same_gates = c.status-status.ensures.same_gates;
  looks = subst (LooksAfter c.args.id.0 (pass_view c.args.pass.now)) (sym c.status-status.ensures.known)
      (looks-reading c.args.id.0 (word_of c.status-status.result) (pass_view c.args.pass.now));
  claims = claims-read c.args.id.0 (word_of c.status-status.result) (pass_view c.args.pass.now) _ c.status-status.ensures.known;
}

pub returns-clause-due : goal.returns-clause-due
returns-clause-due g c is =
    let id = c.args.id.0 in
    let a = pass_view c.args.pass.now in
    let b = pass_view c.status-status.new.pass in
    let d = pass_view c.has_system-system.new.pass in
    let e = pass_view c.has_messages-messages.new.pass in
    let look = c.has_system-system.ensures.only_reads.looks in let count = c.has_messages-messages.ensures.only_reads.looks in
    due-by id c.args.hint c.status-status.result c.has_messages-messages.result c.has_system-system.result a b d e
    (look.looks ++ []) (count.looks ++ []) (sym c.can_schedule.ensures ∙ is) (ap (λ (v : View). v.log) c.status-status.ensures.known)
    look.log count.log c.has_system-system.ensures.seen c.has_messages-messages.ensures.seen

pub returns-then-should_process-clause-due : goal.returns-then-should_process-clause-due
returns-then-should_process-clause-due g c is =
    due-hinted c.args.id.0 c.args.hint c.status-status.result (pass_view c.args.pass.now) (pass_view c.status-status.new.pass)
    (sym c.should_process.ensures ∙ c.if-should_process.true) (sym c.is_message.ensures ∙ c.if-is_message.true) (ap (λ (v : View). v.log) c.status-status.ensures.known)
