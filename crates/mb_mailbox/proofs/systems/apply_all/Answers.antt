use Rattle.std.proofs.Common.{◌≢◌, [], inl, inr, refl, sym, ap, ◌∙◌, subst}
use Rattle.std.specs.Prelude.{MatchBool}
use Rattle.mb_status.specs.Mailbox.{Mailbox}
use Rattle.mb_cell.specs.CellView.{CellView}
use Rattle.mb_gate.specs.Accessors.{pass_view}
use Rattle.mb_home.specs.Contents.{Contents}
use Rattle.mb_home.specs.Steps.{HasNext, HasNoBacklog}
use Rattle.mb_mailbox.specs.RunState.{run_state}
use Rattle.mb_mailbox.proofs.AppliedLemmas.{same-keeps}
use Rattle.mb_mailbox.proofs.BacklogLemmas.{keeps-same, same-run-then}
use Rattle.mb_register.proofs.CallerLemmas.{further-none, further-then}
use Rattle.mb_mailbox.proofs.EmptiedLemmas.{cleared-same, cleared-then}
use Rattle.mb_mailbox.proofs.InRunLemmas.{advances-passed, stops-none, stops-passed}
use Rattle.mb_mailbox.proofs.RunCountLemmas.{run_counts-keeps}
use Rattle.mb_mailbox.proofs.RecordedLemmas.{alike-still, alike-then}
use Rattle.mb_mailbox.proofs.RunSendsLemmas.{entries-none, entries-same, entries-then}
use Rattle.mb_mailbox.specs.Ran.{IsDrained}
use Rattle.mb_mailbox.proofs.systems.apply_all.Goals as goal

pub loop-init : goal.loop-init
loop-init g c = (
  tt,
  tt,
  c.requires.in_run,
  (keeps-same _).same,
  refl,
  further-none _,
  cleared-same (run_state c.args.claim.now) (run_state c.args.claim.now) refl refl,
  alike-still _ _ _ _ refl refl,
  entries-same (run_state c.args.claim.now),
)

-- ---- the mailbox is closed

pub returns-then-closed-clause-in_run : goal.returns-then-closed-clause-in_run
returns-then-closed-clause-in_run g c = c.loop.invariant.2

pub returns-then-closed-clause-advances : goal.returns-then-closed-clause-advances
returns-then-closed-clause-advances g c =
    record { same = c.loop.invariant.3; cleared = c.loop.invariant.6; caller_advances = c.loop.invariant.5; sends = c.loop.invariant.7; entries = c.loop.invariant.8 }

pub returns-then-closed-clause-stops : goal.returns-then-closed-clause-stops
returns-then-closed-clause-stops g c = stops-none tt c.loop.claim

pub returns-then-closed-clause-envelopes : goal.returns-then-closed-clause-envelopes
returns-then-closed-clause-envelopes g c = c.loop.invariant.4

pub returns-then-closed-clause-whole : goal.returns-then-closed-clause-whole
returns-then-closed-clause-whole g c = inl (sym (c.closed.ensures ∙ ap (λ (m : Mailbox). m.closed) c.status.ensures) ∙ c.if-closed.true)

-- ---- a system message is due

pub apply_one-requires-clause-in_run : goal.apply_one-requires-clause-in_run
apply_one-requires-clause-in_run g c = c.loop.invariant.2

pub apply_one-requires-clause-due : goal.apply_one-requires-clause-due
apply_one-requires-clause-due g c =
    let at_home = subst (λ (x : Contents). MatchBool c.has_next.result (HasNext x) (HasNoBacklog x)) c.deref.ensures c.has_next.ensures in
    subst (λ b. MatchBool b (HasNext c.loop.claim.home.value) (HasNoBacklog c.loop.claim.home.value)) c.if-has_next.true at_home

pub apply_one-requires-clause-not_closed : goal.apply_one-requires-clause-not_closed
apply_one-requires-clause-not_closed g c = sym (c.closed.ensures ∙ ap (λ (m : Mailbox). m.closed) c.status.ensures) ∙ c.if-closed.false

pub returns-in_err-apply_one-clause-in_run : goal.returns-in_err-apply_one-clause-in_run
returns-in_err-apply_one-clause-in_run g c = c.apply_one.ensures.in_run

pub returns-in_err-apply_one-clause-advances : goal.returns-in_err-apply_one-clause-advances
returns-in_err-apply_one-clause-advances g c =
    advances-passed c.apply_one.result c.from_residual.result c.in_err-apply_one.field-0.0 c.args.registrar.now c.loop.registrar
    c.apply_one.new.registrar c.args.claim.now c.loop.claim c.apply_one.new.claim c.from_residual.ensures.1 c.loop.invariant.3 c.loop.invariant.5
    c.loop.invariant.7 c.loop.invariant.8 c.apply_one.ensures.advances

pub returns-in_err-apply_one-clause-stops : goal.returns-in_err-apply_one-clause-stops
returns-in_err-apply_one-clause-stops g c =
    stops-passed c.apply_one.result c.from_residual.result c.in_err-apply_one.field-0.0 c.apply_one.new.claim c.in_err-apply_one.was
    c.from_residual.ensures.1 c.apply_one.ensures.stops

pub returns-in_err-apply_one-clause-envelopes : goal.returns-in_err-apply_one-clause-envelopes
returns-in_err-apply_one-clause-envelopes g c = c.apply_one.ensures.envelopes ∙ c.loop.invariant.4

pub loop-preserved-then-has_next : goal.loop-preserved-then-has_next
loop-preserved-then-has_next g c =
    let next = c.in_ok-apply_one.ensures.advances in (
      tt,
      tt,
      c.apply_one.ensures.in_run,
      same-run-then _ _ _ c.loop.invariant.3 next.same,
      c.apply_one.ensures.envelopes ∙ c.loop.invariant.4,
      further-then _ _ _ c.loop.invariant.5 next.caller_advances,
      cleared-then (run_state c.args.claim.now) (run_state c.loop.claim) (run_state c.apply_one.new.claim) c.loop.invariant.3.takes
          c.loop.invariant.6 next.cleared,
      alike-then _ _ _ _ _ _ c.loop.invariant.7 next.sends,
      entries-then (run_state c.args.claim.now) (run_state c.loop.claim) (run_state c.apply_one.new.claim) c.loop.invariant.3.actor
          c.loop.invariant.3.who c.loop.invariant.8 next.entries,
    )

-- ---- none is: the list is drained

pub drain-requires-clause-no_backlog : goal.drain-requires-clause-no_backlog
drain-requires-clause-no_backlog g c =
    let at_home = subst (λ (x : Contents). MatchBool c.has_next.result (HasNext x) (HasNoBacklog x)) c.deref.ensures c.has_next.ensures in
    subst (λ b. MatchBool b (HasNext c.loop.claim.home.value) (HasNoBacklog c.loop.claim.home.value)) c.if-has_next.false at_home

pub drain-requires-clause-not_closed : goal.drain-requires-clause-not_closed
drain-requires-clause-not_closed g c = sym (c.closed.ensures ∙ ap (λ (m : Mailbox). m.closed) c.status.ensures) ∙ c.if-closed.false

pub drain-requires-clause-between : goal.drain-requires-clause-between
drain-requires-clause-between g c = record {
  running = ((pass_view c.loop.registrar.pass).log, c.loop.invariant.2.running);
  backlog = c.loop.invariant.2.backlog;
  carried_out = c.loop.invariant.2.carried_out;
}

pub returns-then-not-drain-clause-in_run : goal.returns-then-not-drain-clause-in_run
returns-then-not-drain-clause-in_run g c =
    let before = c.loop.invariant.2 in record {
      same_gates = before.same_gates;
      running = c.drain.ensures.keeps.running (pass_view c.loop.registrar.pass).log before.running;
      backlog = c.drain.ensures.backlog;
      carried_out = ap (λ (x : CellView). x.acts) c.drain.ensures.keeps.left ∙ before.carried_out;
      run_counts = run_counts-keeps _ _ _ c.drain.ensures.keeps.same before.run_counts;
    }

pub returns-then-not-drain-clause-advances : goal.returns-then-not-drain-clause-advances
returns-then-not-drain-clause-advances g c = record {
  same = same-keeps _ _ _ c.loop.invariant.3 c.drain.ensures.keeps.same;
  cleared =
      cleared-then (run_state c.args.claim.now) (run_state c.loop.claim) (run_state c.drain.new.claim) c.loop.invariant.3.takes c.loop.invariant.6
      c.drain.ensures.cleared;
  caller_advances = c.loop.invariant.5;
  sends = alike-then _ _ _ _ _ _ c.loop.invariant.7 (alike-still _ _ _ _ c.drain.ensures.keeps.recorded refl);
  entries =
      entries-then (run_state c.args.claim.now) (run_state c.loop.claim) (run_state c.drain.new.claim) c.loop.invariant.3.actor
      c.loop.invariant.3.who c.loop.invariant.8
      (entries-none (run_state c.loop.claim) (run_state c.drain.new.claim) c.drain.ensures.keeps.same.journal c.drain.ensures.due);
}

pub returns-then-not-drain-clause-stops : goal.returns-then-not-drain-clause-stops
returns-then-not-drain-clause-stops g c = stops-none tt c.drain.new.claim

pub returns-then-not-drain-clause-envelopes : goal.returns-then-not-drain-clause-envelopes
returns-then-not-drain-clause-envelopes g c = c.loop.invariant.4

pub returns-then-not-drain-clause-whole : goal.returns-then-not-drain-clause-whole
returns-then-not-drain-clause-whole g c =
    let l = c.drain.new.claim in
    inr (subst (λ b. MatchBool b (l.home.value.rest ≢ []) (IsDrained (run_state l))) c.if-not-drain.true c.drain.ensures.gave)

pub loop-preserved : goal.loop-preserved
loop-preserved g c =
    let before = c.loop.invariant.2 in (
      tt,
      tt,
      record {
        same_gates = before.same_gates;
        running = c.drain.ensures.keeps.running (pass_view c.loop.registrar.pass).log before.running;
        backlog = c.drain.ensures.backlog;
        carried_out = ap (λ (x : CellView). x.acts) c.drain.ensures.keeps.left ∙ before.carried_out;
        run_counts = run_counts-keeps _ _ _ c.drain.ensures.keeps.same before.run_counts;
      },
      same-keeps _ _ _ c.loop.invariant.3 c.drain.ensures.keeps.same,
      c.loop.invariant.4,
      c.loop.invariant.5,
      cleared-then (run_state c.args.claim.now) (run_state c.loop.claim) (run_state c.drain.new.claim) c.loop.invariant.3.takes c.loop.invariant.6
          c.drain.ensures.cleared,
      alike-then _ _ _ _ _ _ c.loop.invariant.7 (alike-still _ _ _ _ c.drain.ensures.keeps.recorded refl),
      entries-then (run_state c.args.claim.now) (run_state c.loop.claim) (run_state c.drain.new.claim) c.loop.invariant.3.actor
          c.loop.invariant.3.who c.loop.invariant.8
          (entries-none (run_state c.loop.claim) (run_state c.drain.new.claim) c.drain.ensures.keeps.same.journal c.drain.ensures.due),
    )
