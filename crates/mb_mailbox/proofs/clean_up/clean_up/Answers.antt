use Rattle.std.proofs.Common.{◌≡◌, ℕ, List, [], refl, sym, ap, ◌∙◌, subst}
use Rattle.std.specs.Global.{Box}
use Rattle.mb_status.specs.Mailbox.{Mailbox}
use Rattle.mb_gate.specs.Lists.{IsNumberedFrom}
use Rattle.mb_gate.specs.Accessors.{claim_view, drained_by, held_actor, pass_view, given_to}
use Rattle.mb_gate.specs.Untouched.{origin_of}
use Rattle.mb_gate.specs.View.{Observation, View, given_after}
use Rattle.mb_cell.specs.CellView.{CellView}
use Rattle.mb_home.specs.AtHome.{given_of}
use Rattle.mb_home.specs.Contents.{Contents}
use Rattle.mb_home.specs.AgreesWithJournal.{AgreesWithJournal}
use Rattle.mb_home.proofs.GivenLemmas.{given-kept}
use Rattle.mb_mailbox.specs.OnlyDrained.{WasEnded}
use Rattle.mb_mailbox.specs.RunState.{run_state}
use Rattle.mb_mailbox.specs.Running.{IsRunning}
use Rattle.mb_mailbox.proofs.BacklogLemmas.{backlog-closed, keeps-then}
use Rattle.mb_register.proofs.CallerLemmas.{further-then}
use Rattle.mb_mailbox.proofs.CleanLemmas.{keeps-ended, running-end, was-ended}
use Rattle.mb_mailbox.proofs.EmptiedLemmas.{finds-then, ok-so, takes-same, takes-then}
use Rattle.mb_mailbox.proofs.RunningSteps.{ended-among, running-kept}
use Rattle.mb_mailbox.proofs.TellingLemmas.{running-own, keeps-home, settled-here}
use Rattle.mb_mailbox.proofs.RecordedLemmas.{alike-still, alike-then}
use Rattle.mb_mailbox.proofs.RunSendsLemmas.{sends-like}
use Rattle.mb_mailbox.proofs.StepSendsLemmas.{due-cleaned}
use Rattle.mb_mailbox.specs.RunSends.{SendsAndAnswers}
use Rattle.mb_mailbox.proofs.clean_up.clean_up.Goals as goal

pub sys_close-listed-requires-clause-same_gates : goal.sys_close-listed-requires-clause-same_gates
sys_close-listed-requires-clause-same_gates g c = c.requires.in_clean_up.running.same_gates

pub sys_close-listed-requires-clause-present : goal.sys_close-listed-requires-clause-present
sys_close-listed-requires-clause-present g c = c.requires.in_clean_up.running.present

pub drop_systems-requires : goal.drop_systems-requires
drop_systems-requires g c = record {
  in_clean_up = record {
    same_gates = c.requires.in_clean_up.same_gates;
    closed = ap (λ (m : Mailbox). m.closed) c.sys_close-listed.ensures.same_claim.same.0 ∙ c.requires.in_clean_up.closed;
    running =
        let did = c.sys_close-listed.ensures in
        running-end c.args.claim.now c.sys_close-listed.new.claim did.same_claim.same_gates did.same_claim.same did.same_claim.taken did.same_claim.recorded c.sys_close-listed.result did.noted.given did.known
        did.noted.gave did.noted.drained g.K.Behaviours.gives (origin_of c.args.gates.now) (pass_view c.args.registrar.now.pass).log c.requires.in_clean_up.running;
  };
}

-- what the home knows that the list gave before it was ended
pub keep-requires-clause-continues : goal.keep-requires-clause-continues
keep-requires-clause-continues g c =
    let did = c.sys_close-listed.ensures in
    let given : given_of c.drop_systems.new.claim.home.value ≡ given_to c.args.claim.now =
    c.drop_systems.ensures.given.0 ∙ ap (λ (b : Box Contents). given_of b.value) did.same_claim.same.1 ∙ c.requires.count in
    let here : given_of c.deref_mut.result.now ≡ given_to c.args.claim.now = ap given_of c.deref_mut.ensures.value ∙ given in
    subst (λ n. IsNumberedFrom n c.sys_close-listed.result) (sym here) did.numbers

pub keep-requires-clause-settled : goal.keep-requires-clause-settled
keep-requires-clause-settled g c =
    subst (λ (x : Contents). AgreesWithJournal (g.K.Behaviours.gives x.cell.who.this.0) x.cell.acts x) (sym c.deref_mut.ensures.value)
    (running-own _ _ _ _ (run_state c.drop_systems.new.claim) c.drop_systems.ensures.in_clean_up.running)

pub drop_systems-requires-2 : goal.drop_systems-requires-2
drop_systems-requires-2 g c = record {
  in_clean_up = record {
    same_gates = c.drop_systems.ensures.in_clean_up.same_gates;
    closed = c.drop_systems.ensures.in_clean_up.closed;
    running =
        let mid = c.drop_systems.new.claim in
        let r = c.drop_systems.ensures.in_clean_up.running in
        let new : Contents = c.keep.new.self in
        let kept = subst (λ (x : Contents). c.keep.new.self ≡ record x { rest = c.sys_close-listed.result }) c.deref_mut.ensures.value
        c.keep.ensures.kept in
        let cell = ap (λ (x : Contents). x.cell) kept in
        subst (λ (x : CellView). IsRunning g.K.Behaviours.gives (origin_of c.args.gates.now) x.acts (pass_view c.drop_systems.new.registrar.pass).log
        (record (run_state mid) { home = new })) (sym cell)
        (running-kept g.K.Behaviours.gives (origin_of c.args.gates.now) (pass_view c.drop_systems.new.registrar.pass).log (run_state mid)
        mid.home.value.cell.acts new c.sys_close-listed.result r kept
        (settled-here g.K.Behaviours.gives (held_actor mid) mid.home.value new r.number cell c.keep.ensures.settled)
        (ended-among (drained_by mid) (held_actor c.args.claim.now) c.sys_close-listed.result (claim_view mid).log (claim_view c.args.claim.now).log
        (c.drop_systems.ensures.log ∙ ap (λ (v : View). v.log) c.sys_close-listed.ensures.known) r.logged)
        c.sys_close-listed.ensures.named);
  };
}

pub clean_envelopes-requires-clause-ended : goal.clean_envelopes-requires-clause-ended
clean_envelopes-requires-clause-ended g c =
    let did = c.sys_close-listed.ensures in
    let first = c.sys_close-listed.new.claim in
    let w = was-ended c.args.claim.now first did.same_claim.same_gates did.same_claim.same did.same_claim.taken did.same_claim.recorded c.sys_close-listed.result did.noted.given did.known did.noted.gave did.noted.drained in
    let actor = c.drop_systems-2.ensures.advances.same.same.actor ∙ c.drop_systems.ensures.advances.same.same.actor in
    let log = c.drop_systems-2.ensures.log ∙ c.drop_systems.ensures.log in
    subst (λ (x : ℕ × List Observation). WasEnded x.0 x.1) (λ i. (sym actor i, sym log i)) w

pub clean_envelopes-requires-clause-dropped : goal.clean_envelopes-requires-clause-dropped
clean_envelopes-requires-clause-dropped g c = record { closed = c.drop_systems-2.ensures.in_clean_up.closed; none = c.drop_systems-2.ensures.none }

pub clean_envelopes-requires-clause-running : goal.clean_envelopes-requires-clause-running
clean_envelopes-requires-clause-running g c = ((pass_view c.drop_systems-2.new.registrar.pass).log, c.drop_systems-2.ensures.in_clean_up.running)

pub returns-clause-in_acts : goal.returns-clause-in_acts
returns-clause-in_acts g c = record {
  same_gates = c.drop_systems-2.ensures.in_clean_up.same_gates;
  running =
      let seen = (pass_view c.drop_systems-2.new.registrar.pass).log in
      subst (λ (x : CellView). IsRunning g.K.Behaviours.gives (origin_of c.args.gates.now) x.acts seen (run_state c.clean_envelopes.new.claim))
      (sym c.clean_envelopes.ensures.keeps.left) (c.clean_envelopes.ensures.keeps.running seen c.drop_systems-2.ensures.in_clean_up.running);
  backlog =
      let did = c.sys_close-listed.ensures in
      let mid = c.drop_systems.new.claim in
      let before : given_of mid.home.value ≡ given_to c.args.claim.now =
      c.drop_systems.ensures.given.0 ∙ ap (λ (b : Box Contents). given_of b.value) did.same_claim.same.1 ∙ c.requires.count in
      let backlog = subst (λ (x : Contents). c.keep.new.self ≡ record x { rest = c.sys_close-listed.result }) c.deref_mut.ensures.value
      c.keep.ensures.kept in
      let kept : given_of c.keep.new.self ≡ given_after (given_to c.args.claim.now) c.sys_close-listed.result =
      ap given_of backlog ∙ given-kept mid.home.value c.sys_close-listed.result c.drop_systems.ensures.none
      ∙ ap (λ n. given_after n c.sys_close-listed.result) before in
      let last : given_to c.clean_envelopes.new.claim ≡ given_after (given_to c.args.claim.now) c.sys_close-listed.result =
      c.clean_envelopes.ensures.given.1 ∙ c.drop_systems-2.ensures.given.1 ∙ c.drop_systems.ensures.given.1 ∙ did.noted.given in
      backlog-closed (run_state c.clean_envelopes.new.claim) c.clean_envelopes.ensures.dropped.closed
      (c.clean_envelopes.ensures.given.0 ∙ c.drop_systems-2.ensures.given.0 ∙ kept ∙ sym last) c.clean_envelopes.ensures.dropped.none;
}

pub returns-clause-left : goal.returns-clause-left
returns-clause-left g c =
    c.clean_envelopes.ensures.keeps.left ∙ c.drop_systems-2.ensures.left ∙ ap (λ (x : Contents). x.cell) c.keep.ensures.kept
    ∙ ap (λ (x : Contents). x.cell) c.deref_mut.ensures.value ∙ c.drop_systems.ensures.left
    ∙ ap (λ (b : Box Contents). b.value.cell) c.sys_close-listed.ensures.same_claim.same.1

pub returns-clause-advances : goal.returns-clause-advances
returns-clause-advances g c = record {
  same =
      let did = c.sys_close-listed.ensures in
      let first = c.sys_close-listed.new.claim in
      let mid = c.drop_systems.new.claim in
      let cell = ap (λ (x : Contents). x.cell) c.keep.ensures.kept ∙ ap (λ (x : Contents). x.cell) c.deref_mut.ensures.value in
      let take = ap (λ (x : Contents). x.take) c.keep.ensures.kept ∙ ap (λ (x : Contents). x.take) c.deref_mut.ensures.value in
      keeps-then _ _ _
      (keeps-ended c.args.claim.now first did.same_claim.same_gates did.same_claim.same did.same_claim.taken did.same_claim.recorded c.sys_close-listed.result did.noted.given did.known did.noted.gave did.noted.drained)
      (keeps-then _ _ _ c.drop_systems.ensures.advances.same
      (keeps-then _ _ _ (keeps-home (run_state mid) c.keep.new.self cell take)
      (keeps-then _ _ _ c.drop_systems-2.ensures.advances.same c.clean_envelopes.ensures.keeps.same)));
  caller_advances = further-then _ _ _ c.drop_systems.ensures.advances.caller_advances c.drop_systems-2.ensures.advances.caller_advances;
  sends =
      alike-then _ _ _ _ _ _ (alike-still _ _ _ _ c.sys_close-listed.ensures.same_claim.recorded refl)
      (alike-then _ _ _ _ _ _ c.drop_systems.ensures.advances.sends
      (alike-then _ _ _ _ _ _ c.drop_systems-2.ensures.advances.sends (alike-still _ _ _ _ c.clean_envelopes.ensures.keeps.recorded refl)));
}

-- ---- the queue is empty

pub returns-clause-emptied : goal.returns-clause-emptied
returns-clause-emptied g c =
    let kept : c.keep.new.self.take ≡ c.drop_systems.new.claim.home.value.take =
    ap (λ (x : Contents). x.take) c.keep.ensures.kept ∙ ap (λ (x : Contents). x.take) c.deref_mut.ensures.value in
    let before = takes-then _ _ _ (takes-same _ _ (ap (λ (b : Box Contents). b.value.take) c.sys_close-listed.ensures.same_claim.same.1))
    (takes-then _ _ _ c.drop_systems.ensures.advances.same.same.takes
    (takes-then _ _ _ (takes-same _ _ kept) c.drop_systems-2.ensures.advances.same.same.takes)) in
    ok-so c.clean_envelopes.result (finds-then _ _ _ before) c.clean_envelopes.ensures.emptied

-- ---- all that was left of a drain and in the list was dropped, and who waits was told

pub returns-clause-due : goal.returns-clause-due
returns-clause-due g c =
    let did = c.sys_close-listed.ensures in
    let listed = c.sys_close-listed.result in
    let a = run_state c.args.claim.now in
    let first = run_state c.sys_close-listed.new.claim in
    let middle = run_state c.drop_systems.new.claim in
    let backlog = subst (λ (x : Contents). c.keep.new.self ≡ record x { rest = listed }) c.deref_mut.ensures.value c.keep.ensures.kept in
    let kept = record middle { home = c.keep.new.self } in
    let dropped = run_state c.drop_systems-2.new.claim in
    let last = run_state c.clean_envelopes.new.claim in
    let same = ap (λ (b : Box Contents). b.value) did.same_claim.same.1 in
    let before = subst (λ l. SendsAndAnswers [] l a middle) (ap (λ (x : Contents). x.rest) same)
    (sends-like first middle a middle [] first.home.rest (sym did.same_claim.recorded) (sym did.same_claim.same_gates.1)
    (sym (ap (λ (x : Contents). x.cell.who) same)) refl refl c.drop_systems.ensures.answers) in
    let next = subst (λ l. SendsAndAnswers [] l middle last) (ap (λ (x : Contents). x.rest) backlog)
    (sends-like kept dropped middle last [] kept.home.rest refl refl (sym (ap (λ (x : Contents). x.cell.who) backlog))
    c.clean_envelopes.ensures.keeps.recorded (c.clean_envelopes.ensures.dropped.closed ∙ sym c.drop_systems-2.ensures.in_clean_up.closed) c.drop_systems-2.ensures.answers) in
    due-cleaned a middle dropped last listed
    (c.drop_systems.ensures.advances.same.same.actor ∙ did.same_claim.same_gates.1)
    (c.drop_systems.ensures.advances.same.same.who ∙ ap (λ (x : Contents). x.cell.who) same)
    before next (λ _. c.clean_envelopes.ensures.dropped.closed) c.clean_envelopes.ensures.dropped.closed
    (c.drop_systems-2.ensures.log ∙ c.drop_systems.ensures.log ∙ ap (λ (v : View). v.log) did.known)
    c.drop_systems-2.ensures.none c.clean_envelopes.ensures.takes
