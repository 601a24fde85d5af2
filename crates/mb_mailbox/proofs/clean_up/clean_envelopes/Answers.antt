use Rattle.std.proofs.Common.{◌≡◌, [], ◌∷◌, inr, true, refl, sym, ap, ◌∙◌, subst}
use Rattle.std.specs.Global.{Box}
use Rattle.std.specs.Prelude.{MatchBool}
use Rattle.mb_journal.specs.Life.{closed}
use Rattle.mb_status.specs.Mailbox.{Mailbox}
use Rattle.mb_gate.specs.Accessors.{claim_id, held_actor}
use Rattle.mb_gate.specs.Untouched.{origin_of}
use Rattle.mb_gate.specs.View.{View, Took}
use Rattle.mb_home.specs.AtHome.{given_of}
use Rattle.mb_home.specs.Contents.{Contents}
use Rattle.mb_home.specs.AgreesWithJournal.{AgreesWithJournal}
use Rattle.mb_home.specs.Steps.{Cleans, FindsNone}
use Rattle.mb_mailbox.specs.RunState.{run_state}
use Rattle.mb_mailbox.specs.Running.{IsRunning}
use Rattle.mb_mailbox.proofs.BacklogLemmas.{keeps-same, keeps-then}
use Rattle.mb_cell.specs.CellView.{CellView}
use Rattle.mb_mailbox.proofs.CountLemmas.{one-more}
use Rattle.mb_mailbox.proofs.CleanLemmas.{running-within, ended-closed, running-counted, ended-taken, keeps-taken}
use Rattle.mb_mailbox.proofs.EmptiedLemmas.{finds-one, finds-then, take-cleaned, take-none, takes-one}
use Rattle.mb_mailbox.proofs.TellingLemmas.{running-own, keeps-home, keeps-asked}
use Rattle.mb_mailbox.proofs.RunSendsLemmas.{takes-in-closed, takes-in-none, takes-in-then}
use Rattle.mb_mailbox.proofs.clean_up.clean_envelopes.Goals as goal

pub loop-init : goal.loop-init
loop-init g c = (
  tt,
  tt,
  c.requires.dropped.closed,
  c.requires.ended,
  λ seen r. r,
  c.requires.dropped.none,
  refl,
  refl,
  refl,
  keeps-same _,
  refl,
  takes-in-none (run_state c.args.claim.now) (run_state c.args.claim.now) refl refl (λ shut. shut),
)

pub clean_next-requires-clause-ended : goal.clean_next-requires-clause-ended
clean_next-requires-clause-ended g c =
    let r = c.loop.invariant.4 c.requires.running.0 c.requires.running.1 in
    subst (λ (x : Contents). closed x.cell.who x.cell.journal ≡ true) (sym c.deref_mut.ensures.value)
    (ended-closed _ _ _ (run_state c.loop.claim) _ c.loop.invariant.2 r)

pub clean_next-requires-clause-settled : goal.clean_next-requires-clause-settled
clean_next-requires-clause-settled g c =
    subst (λ (x : Contents). AgreesWithJournal (g.K.Behaviours.gives x.cell.who.this.0) x.cell.acts x) (sym c.deref_mut.ensures.value)
    (running-own _ _ _ _ (run_state c.loop.claim) (c.loop.invariant.4 c.requires.running.0 c.requires.running.1))

pub note_taken-requires-clause-same_gates : goal.note_taken-requires-clause-same_gates
note_taken-requires-clause-same_gates g c = (c.loop.invariant.4 c.requires.running.0 c.requires.running.1).same_gates

pub note_taken-requires-clause-present : goal.note_taken-requires-clause-present
note_taken-requires-clause-present g c = (c.loop.invariant.4 c.requires.running.0 c.requires.running.1).present

-- ---- a place was refused

pub returns-in_err-clean_next-clause-keeps : goal.returns-in_err-clean_next-clause-keeps
returns-in_err-clean_next-clause-keeps g c = record {
  running =
      λ seen r. subst (λ (x : CellView). IsRunning g.K.Behaviours.gives (origin_of c.args.gates.now) x.acts seen
      (record (run_state c.loop.claim) { home = c.clean_next.new.self }))
      (ap (λ (x : Contents). x.cell) (c.in_err-clean_next.ensures.refused ∙ c.deref_mut.ensures.value) ∙ c.loop.invariant.8)
      (subst (λ (x : Contents). IsRunning g.K.Behaviours.gives (origin_of c.args.gates.now) x.cell.acts seen
      (record (run_state c.loop.claim) { home = x })) (sym (c.in_err-clean_next.ensures.refused ∙ c.deref_mut.ensures.value)) (c.loop.invariant.4 seen r));
  left = ap (λ (x : Contents). x.cell) (c.in_err-clean_next.ensures.refused ∙ c.deref_mut.ensures.value) ∙ c.loop.invariant.8;
  same =
      keeps-then _ _ _ c.loop.invariant.9
      (keeps-home (run_state c.loop.claim) c.clean_next.new.self
      (ap (λ (x : Contents). x.cell) (c.in_err-clean_next.ensures.refused ∙ c.deref_mut.ensures.value))
      (ap (λ (x : Contents). x.take) (c.in_err-clean_next.ensures.refused ∙ c.deref_mut.ensures.value)));
  recorded = c.loop.invariant.10;
}

pub returns-in_err-clean_next-clause-given : goal.returns-in_err-clean_next-clause-given
returns-in_err-clean_next-clause-given g c =
    (ap given_of (c.in_err-clean_next.ensures.refused ∙ c.deref_mut.ensures.value) ∙ c.loop.invariant.6, c.loop.invariant.7)

pub returns-in_err-clean_next-clause-dropped : goal.returns-in_err-clean_next-clause-dropped
returns-in_err-clean_next-clause-dropped g c = record {
  closed = c.loop.invariant.2;
  none = ap (λ (x : Contents). x.rest) (c.in_err-clean_next.ensures.refused ∙ c.deref_mut.ensures.value) ∙ c.loop.invariant.5;
}

-- ---- none was there

pub returns-then-not-branch-clause-dropped : goal.returns-then-not-branch-clause-dropped
returns-then-not-branch-clause-dropped g c = record {
  closed = c.loop.invariant.2;
  none =
      let at_home = subst (λ (x : Contents). MatchBool c.in_ok-clean_next.field-0 (Cleans x c.clean_next.new.self) (FindsNone x
      c.clean_next.new.self)) c.deref_mut.ensures.value c.in_ok-clean_next.ensures.cleaned in
      let found = subst (λ b. MatchBool b (Cleans c.loop.claim.home.value c.clean_next.new.self) (FindsNone c.loop.claim.home.value
      c.clean_next.new.self)) c.if-not-branch.true at_home in
      ap (λ (x : Contents). x.rest) found.same ∙ c.loop.invariant.5;
}

pub returns-then-not-branch-clause-given : goal.returns-then-not-branch-clause-given
returns-then-not-branch-clause-given g c =
    let at_home = subst (λ (x : Contents). MatchBool c.in_ok-clean_next.field-0 (Cleans x c.clean_next.new.self) (FindsNone x
    c.clean_next.new.self)) c.deref_mut.ensures.value c.in_ok-clean_next.ensures.cleaned in
    let found = subst (λ b. MatchBool b (Cleans c.loop.claim.home.value c.clean_next.new.self) (FindsNone c.loop.claim.home.value
    c.clean_next.new.self)) c.if-not-branch.true at_home in
    (ap given_of found.same ∙ c.loop.invariant.6, c.loop.invariant.7)

pub returns-then-not-branch-clause-keeps : goal.returns-then-not-branch-clause-keeps
returns-then-not-branch-clause-keeps g c = record {
  running =
      let at_home = subst (λ (x : Contents). MatchBool c.in_ok-clean_next.field-0 (Cleans x c.clean_next.new.self) (FindsNone x
      c.clean_next.new.self)) c.deref_mut.ensures.value c.in_ok-clean_next.ensures.cleaned in
      let found = subst (λ b. MatchBool b (Cleans c.loop.claim.home.value c.clean_next.new.self) (FindsNone c.loop.claim.home.value
      c.clean_next.new.self)) c.if-not-branch.true at_home in
      λ seen r. subst (λ (x : CellView). IsRunning g.K.Behaviours.gives (origin_of c.args.gates.now) x.acts seen
      (record (run_state c.loop.claim) { home = c.clean_next.new.self })) (ap (λ (x : Contents). x.cell) found.same ∙ c.loop.invariant.8)
      (running-within g.K.Behaviours.gives (origin_of c.args.gates.now) seen (run_state c.loop.claim) (c.loop.invariant.4 seen r)
      c.clean_next.new.self (ap (λ (x : Contents). x.cell) found.same) (ap (λ (x : Contents). x.directory) found.same)
      (ap (λ (x : Contents). x.dead) found.same) c.clean_next.ensures.settled (ap (λ (x : Contents). x.rest) found.same));
  left =
      let at_home = subst (λ (x : Contents). MatchBool c.in_ok-clean_next.field-0 (Cleans x c.clean_next.new.self) (FindsNone x
      c.clean_next.new.self)) c.deref_mut.ensures.value c.in_ok-clean_next.ensures.cleaned in
      let found = subst (λ b. MatchBool b (Cleans c.loop.claim.home.value c.clean_next.new.self) (FindsNone c.loop.claim.home.value
      c.clean_next.new.self)) c.if-not-branch.true at_home in
      ap (λ (x : Contents). x.cell) found.same ∙ c.loop.invariant.8;
  same =
      let at_home = subst (λ (x : Contents). MatchBool c.in_ok-clean_next.field-0 (Cleans x c.clean_next.new.self) (FindsNone x
      c.clean_next.new.self)) c.deref_mut.ensures.value c.in_ok-clean_next.ensures.cleaned in
      let found = subst (λ b. MatchBool b (Cleans c.loop.claim.home.value c.clean_next.new.self) (FindsNone c.loop.claim.home.value
      c.clean_next.new.self)) c.if-not-branch.true at_home in
      keeps-then _ _ _ c.loop.invariant.9
      (keeps-asked (run_state c.loop.claim) c.clean_next.new.self (ap (λ (x : Contents). x.cell) found.same) found.took
      (takes-one _ _ _ (take-none _ _ found)));
  recorded = c.loop.invariant.10;
}

pub returns-then-not-branch-clause-emptied : goal.returns-then-not-branch-clause-emptied
returns-then-not-branch-clause-emptied g c =
    let at_home = subst (λ (x : Contents). MatchBool c.in_ok-clean_next.field-0 (Cleans x c.clean_next.new.self) (FindsNone x
    c.clean_next.new.self)) c.deref_mut.ensures.value c.in_ok-clean_next.ensures.cleaned in
    let found = subst (λ b. MatchBool b (Cleans c.loop.claim.home.value c.clean_next.new.self) (FindsNone c.loop.claim.home.value
    c.clean_next.new.self)) c.if-not-branch.true at_home in
    finds-then _ _ _ c.loop.invariant.9.same.takes (finds-one _ _ (take-none _ _ found))

-- ---- one was cleaned up

pub loop-preserved : goal.loop-preserved
loop-preserved g c =
    let l = c.loop.claim in
    let inv = c.loop.invariant in
    let mid : Contents = c.clean_next.new.self in
    let new = c.note_taken.new.claim in
    let did = c.note_taken.ensures in
    let at_home = subst (λ (x : Contents). MatchBool c.in_ok-clean_next.field-0 (Cleans x mid) (FindsNone x mid)) c.deref_mut.ensures.value
    c.in_ok-clean_next.ensures.cleaned in
    let found = subst (λ b. MatchBool b (Cleans l.home.value mid) (FindsNone l.home.value mid)) c.if-not-branch.false at_home in
    let cell = ap (λ (x : Contents). x.cell) found.same in
    let ours : (claim_id new ≡ claim_id l) × (held_actor new ≡ held_actor l) = (did.same_gates, did.actor) in (
      tt,
      tt,
      ap (λ (m : Mailbox). m.closed) did.same.0 ∙ inv.2,
      ended-taken _ new ours did.same.1 did.same.0 did.known did.taken inv.3,
      λ seen r. running-counted _ new ours did.same.1 did.same.0 did.known did.taken g.K.Behaviours.gives (origin_of c.args.gates.now) seen
          (inr inv.3)
          (running-within g.K.Behaviours.gives (origin_of c.args.gates.now) seen (run_state l) (inv.4 seen r) mid cell
          (ap (λ (x : Contents). x.directory) found.same) (ap (λ (x : Contents). x.dead) found.same) c.clean_next.ensures.settled
          (ap (λ (x : Contents). x.rest) found.same)),
      ap (λ (b : Box Contents). b.value.rest) did.same.1 ∙ ap (λ (x : Contents). x.rest) found.same ∙ inv.5,
      ap (λ (b : Box Contents). given_of b.value) did.same.1 ∙ ap given_of found.same ∙ inv.6,
      did.taken.given ∙ inv.7,
      ap (λ (b : Box Contents). b.value.cell) did.same.1 ∙ cell ∙ inv.8,
      keeps-then _ _ _ inv.9
          (keeps-taken _ new ours did.same.1 did.same.0 did.known did.taken l.home.value (ap (λ (x : CellView). x.who) cell)
          (one-more mid.take.taken l.home.value.take.taken found.envelope found.took)
          (takes-one _ _ _ (take-cleaned _ _ found)) inv.3 (ap (λ (x : CellView). x.journal) cell)),
      did.taken.recorded ∙ inv.10,
      takes-in-then (run_state c.args.claim.now) (run_state l) (run_state new) inv.9.same.actor inv.9.same.who [] [] [] [] inv.11
          (takes-in-closed (run_state l) (run_state new) (Took (held_actor l) 1 ∷ []) refl (ap (λ (v : View). v.log) did.known)
          (ap (λ (b : Box Contents). b.value.rest) did.same.1 ∙ ap (λ (x : Contents). x.rest) found.same)
          (ap (λ (m : Mailbox). m.closed) did.same.0 ∙ inv.2)),
    )

-- ---- nothing came out of the list

pub returns-in_err-clean_next-clause-takes : goal.returns-in_err-clean_next-clause-takes
returns-in_err-clean_next-clause-takes g c =
    let h = run_state c.loop.claim in
    takes-in-then (run_state c.args.claim.now) h (record h { home = c.clean_next.new.self }) c.loop.invariant.9.same.actor
    c.loop.invariant.9.same.who [] [] [] [] c.loop.invariant.11
    (takes-in-none h (record h { home = c.clean_next.new.self }) refl
    (ap (λ (x : Contents). x.rest) (c.in_err-clean_next.ensures.refused ∙ c.deref_mut.ensures.value)) (λ shut. shut))

pub returns-then-not-branch-clause-takes : goal.returns-then-not-branch-clause-takes
returns-then-not-branch-clause-takes g c =
    let at_home = subst (λ (x : Contents). MatchBool c.in_ok-clean_next.field-0 (Cleans x c.clean_next.new.self) (FindsNone x
    c.clean_next.new.self)) c.deref_mut.ensures.value c.in_ok-clean_next.ensures.cleaned in
    let found = subst (λ b. MatchBool b (Cleans c.loop.claim.home.value c.clean_next.new.self) (FindsNone c.loop.claim.home.value
    c.clean_next.new.self)) c.if-not-branch.true at_home in
    let h = run_state c.loop.claim in
    takes-in-then (run_state c.args.claim.now) h (record h { home = c.clean_next.new.self }) c.loop.invariant.9.same.actor
    c.loop.invariant.9.same.who [] [] [] [] c.loop.invariant.11
    (takes-in-none h (record h { home = c.clean_next.new.self }) refl (ap (λ (x : Contents). x.rest) found.same) (λ shut. shut))
