use Rattle.std.proofs.Common.{[], refl, ap, ◌∙◌, subst}
use Rattle.std.specs.Prelude.{OnOk}
use Rattle.std.specs.Global.{Box}
use Rattle.mb_status.specs.Mailbox.{Mailbox, word_of}
use Rattle.mb_journal.specs.Life.{closed}
use Rattle.mb_gate.specs.Accessors.{pass_view, status_of}
use Rattle.mb_gate.specs.Untouched.{origin_of}
use Rattle.mb_gate.specs.View.{View}
use Rattle.mb_cell.specs.CellView.{CellView}
use Rattle.mb_queue.specs.Passes.{TakePassView}
use Rattle.mb_home.specs.Contents.{Contents}
use Rattle.mb_mailbox.specs.Emptied.{FindsNoMore}
use Rattle.mb_mailbox.specs.RunState.{run_state}
use Rattle.mb_mailbox.proofs.BacklogLemmas.{keeps-then}
use Rattle.mb_mailbox.proofs.CleanLemmas.{ended-closed}
use Rattle.mb_mailbox.proofs.StatusLemmas.{keeps-written, count-written, running-closed}
use Rattle.mb_mailbox.proofs.RecordedLemmas.{alike-still, alike-then}
use Rattle.mb_mailbox.proofs.RunSendsLemmas.{due-none, due-then}
use Rattle.mb_mailbox.proofs.acts.close.Goals as goal

pub close_mailbox-requires-clause-same_gates : goal.close_mailbox-requires-clause-same_gates
close_mailbox-requires-clause-same_gates g c = c.requires.in_acts.running.same_gates

pub close_mailbox-requires-clause-present : goal.close_mailbox-requires-clause-present
close_mailbox-requires-clause-present g c = c.requires.in_acts.running.present

pub clean_up-requires-clause-in_clean_up : goal.clean_up-requires-clause-in_clean_up
clean_up-requires-clause-in_clean_up g c = record {
  same_gates = c.requires.in_acts.same_gates;
  closed = ap (λ (m : Mailbox). m.closed) c.close_mailbox.ensures.written.status;
  running =
      let old = c.args.claim.now in let new = c.close_mailbox.new.claim in let did = c.close_mailbox.ensures.written in
      running-closed old new (status_of new) (word_of (status_of new)) did.same_gates did.home did.known did.taken refl g.K.Behaviours.gives
      (origin_of c.args.gates.now) (pass_view c.args.registrar.now.pass).log did.status c.requires.in_acts.running;
}

pub clean_up-requires-clause-count : goal.clean_up-requires-clause-count
clean_up-requires-clause-count g c =
    let old = c.args.claim.now in let new = c.close_mailbox.new.claim in let did = c.close_mailbox.ensures.written in
    count-written old new (status_of new) (word_of (status_of new)) did.same_gates did.home did.known did.taken refl c.requires.in_acts.backlog.count

pub returns-clause-left : goal.returns-clause-left
returns-clause-left g c =
    ap (λ (x : CellView). x.acts) c.clean_up.ensures.left ∙ ap (λ (b : Box Contents). b.value.cell.acts) c.close_mailbox.ensures.written.home

pub returns-clause-advances : goal.returns-clause-advances
returns-clause-advances g c = record {
  same =
      let old = c.args.claim.now in let new = c.close_mailbox.new.claim in let did = c.close_mailbox.ensures.written in
      keeps-then _ _ _ (keeps-written old new (status_of new) (word_of (status_of new)) did.same_gates did.home did.known did.taken refl)
      c.clean_up.ensures.advances.same;
  caller_advances = c.clean_up.ensures.advances.caller_advances;
  sends =
      alike-then _ _ _ _ _ _ (alike-still _ _ _ _ c.close_mailbox.ensures.written.taken.recorded refl) c.clean_up.ensures.advances.sends;
}

pub returns-clause-ended : goal.returns-clause-ended
returns-clause-ended g c =
    let old = c.args.claim.now in let new = c.close_mailbox.new.claim in let did = c.close_mailbox.ensures.written in
    let gives = g.K.Behaviours.gives in
    let origin = origin_of c.args.gates.now in
    let seen = (pass_view c.args.registrar.now.pass).log in
    ap (λ (x : CellView). closed x.who x.journal) c.clean_up.ensures.left
    ∙ ended-closed gives origin seen (run_state new) new.home.value.cell.acts (ap (λ (m : Mailbox). m.closed) did.status)
    (running-closed old new (status_of new) (word_of (status_of new)) did.same_gates did.home did.known did.taken refl gives origin seen did.status
    c.requires.in_acts.running)

pub returns-clause-emptied : goal.returns-clause-emptied
returns-clause-emptied g c =
    subst (λ (k : TakePassView). OnOk c.clean_up.result (FindsNoMore k c.clean_up.new.claim.home.value.take))
    (ap (λ (b : Box Contents). b.value.take) c.close_mailbox.ensures.written.home) c.clean_up.ensures.emptied

pub returns-clause-due : goal.returns-clause-due
returns-clause-due g c =
    let old = c.args.claim.now in let new = c.close_mailbox.new.claim in let did = c.close_mailbox.ensures.written in
    let same = (keeps-written old new (status_of new) (word_of (status_of new)) did.same_gates did.home did.known did.taken refl).same in
    due-then (run_state old) (run_state new) (run_state c.clean_up.new.claim) same.actor same.who [] [] [] []
    (due-none (run_state old) (run_state new) did.taken.recorded (ap (λ (v : View). v.log) did.known)
    (ap (λ (b : Box Contents). b.value.rest) did.home) (λ _. ap (λ (m : Mailbox). m.closed) did.status)) c.clean_up.ensures.due

pub returns-clause-in_acts : goal.returns-clause-in_acts
returns-clause-in_acts g c = record {
  same_gates = c.clean_up.ensures.in_acts.same_gates;
  running = c.clean_up.ensures.in_acts.running;
  backlog = c.clean_up.ensures.in_acts.backlog;
}
