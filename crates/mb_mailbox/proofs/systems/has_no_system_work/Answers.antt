use Rattle.std.proofs.Common.{ℕ, List, [], refl, sym, ap, ◌∙◌, subst}
use Rattle.std.specs.Global.{Box}
use Rattle.std.specs.Prelude.{MatchBool}
use Rattle.std.proofs.lemmas.List.Elements.{All-nil}
use Rattle.mb_status.specs.Mailbox.{Mailbox}
use Rattle.mb_msg.specs.declared.system.SysMsg.{SysMsg}
use Rattle.mb_journal.specs.Acts.{Act}
use Rattle.mb_gate.specs.NamedActors.{NamesBelow}
use Rattle.mb_gate.specs.Accessors.{actors_of}
use Rattle.mb_gate.specs.Untouched.{origin_of}
use Rattle.mb_home.specs.Contents.{Contents}
use Rattle.mb_home.specs.AgreesWithJournal.{AgreesWithJournal}
use Rattle.mb_home.specs.Steps.{HasNext, HasNoBacklog}
use Rattle.mb_mailbox.specs.RunState.{run_state}
use Rattle.mb_mailbox.proofs.BacklogLemmas.{keeps-same}
use Rattle.mb_mailbox.proofs.DrainingLemmas.{none-kept, keeps-drained, due-drained, backlog-drained, is-drained, running-drain}
use Rattle.mb_mailbox.proofs.EmptiedLemmas.{cleared-open, cleared-same}
use Rattle.mb_mailbox.proofs.LookLemmas.{keeps-looked, running-on, backlog-looked, due-looked}
use Rattle.mb_mailbox.proofs.TellingLemmas.{running-own}
use Rattle.mb_mailbox.proofs.RunSendsLemmas.{due-none}
use Rattle.mb_mailbox.proofs.systems.has_no_system_work.Goals as goal

pub sys_is_drained-requires-clause-same_gates : goal.sys_is_drained-requires-clause-same_gates
sys_is_drained-requires-clause-same_gates g c = c.requires.between.running.1.same_gates

pub sys_is_drained-requires-clause-present : goal.sys_is_drained-requires-clause-present
sys_is_drained-requires-clause-present g c = c.requires.between.running.1.present

-- ---- it is closed, or a message is due: the claim is as it was

pub returns-then-closed-clause-keeps : goal.returns-then-closed-clause-keeps
returns-then-closed-clause-keeps g c = record {
  running = λ seen r. r;
  left = refl;
  same = keeps-same _;
  recorded = refl;
}

pub returns-then-closed-clause-backlog : goal.returns-then-closed-clause-backlog
returns-then-closed-clause-backlog g c = c.requires.between.backlog

pub returns-then-closed-clause-cleared : goal.returns-then-closed-clause-cleared
returns-then-closed-clause-cleared g c = cleared-same (run_state c.args.claim.now) (run_state c.args.claim.now) refl refl

-- ---- nothing was drained

pub returns-then-sys_is_drained-clause-keeps : goal.returns-then-sys_is_drained-clause-keeps
returns-then-sys_is_drained-clause-keeps g c = record {
  running =
      let did = c.sys_is_drained.ensures in let hit = c.if-sys_is_drained.true in
      let old = c.args.claim.now in let mid = c.sys_is_drained.new.claim in
      let at_home = subst (λ (x : Contents). MatchBool c.has_next.result (HasNext x) (HasNoBacklog x)) c.deref.ensures c.has_next.ensures in
      let no_backlog = subst (λ b. MatchBool b (HasNext old.home.value) (HasNoBacklog old.home.value)) c.if-has_next.false at_home in
      let here = ap (λ (b : Box Contents). b.value) did.same_claim.same.1 in
      let kept = none-kept mid.home.value [] (ap (λ (x : Contents). x.rest) here ∙ no_backlog.no_rest) refl in
      let own = running-own _ _ _ _ (run_state old) c.requires.between.running.1 in
      let before = subst (λ (l : List Act). AgreesWithJournal (g.K.Behaviours.gives old.home.value.cell.who.this.0) l old.home.value)
      (sym c.requires.between.carried_out) own in
      let settled = subst (λ (x : Contents). AgreesWithJournal (g.K.Behaviours.gives x.cell.who.this.0) x.cell.acts x) (sym here) before in
      λ seen r. running-drain old mid did.same_claim.same_gates did.same_claim.same did.same_claim.taken did.same_claim.recorded [] (did.noted hit).given (did.known hit) (did.noted hit).gave (did.noted hit).drained mid.home.value kept
      g.K.Behaviours.gives (origin_of c.args.gates.now) seen c.requires.between.carried_out settled
      (All-nil (λ (m : ℕ × SysMsg). NamesBelow (actors_of c.args.gates.now) m.1)) r;
  left = ap (λ (b : Box Contents). b.value.cell) c.sys_is_drained.ensures.same_claim.same.1;
  same =
      let did = c.sys_is_drained.ensures in let hit = c.if-sys_is_drained.true in
      let old = c.args.claim.now in let mid = c.sys_is_drained.new.claim in
      let at_home = subst (λ (x : Contents). MatchBool c.has_next.result (HasNext x) (HasNoBacklog x)) c.deref.ensures c.has_next.ensures in
      let no_backlog = subst (λ b. MatchBool b (HasNext old.home.value) (HasNoBacklog old.home.value)) c.if-has_next.false at_home in
      let here = ap (λ (b : Box Contents). b.value) did.same_claim.same.1 in
      let kept = none-kept mid.home.value [] (ap (λ (x : Contents). x.rest) here ∙ no_backlog.no_rest) refl in
      keeps-drained old mid did.same_claim.same_gates did.same_claim.same did.same_claim.taken did.same_claim.recorded [] (did.noted hit).given (did.known hit) (did.noted hit).gave (did.noted hit).drained mid.home.value kept;
  recorded = c.sys_is_drained.ensures.same_claim.recorded;
}

pub returns-then-sys_is_drained-clause-backlog : goal.returns-then-sys_is_drained-clause-backlog
returns-then-sys_is_drained-clause-backlog g c =
    let did = c.sys_is_drained.ensures in let hit = c.if-sys_is_drained.true in
    let old = c.args.claim.now in let mid = c.sys_is_drained.new.claim in
    let at_home = subst (λ (x : Contents). MatchBool c.has_next.result (HasNext x) (HasNoBacklog x)) c.deref.ensures c.has_next.ensures in
    let no_backlog = subst (λ b. MatchBool b (HasNext old.home.value) (HasNoBacklog old.home.value)) c.if-has_next.false at_home in
    let here = ap (λ (b : Box Contents). b.value) did.same_claim.same.1 in
    let kept = none-kept mid.home.value [] (ap (λ (x : Contents). x.rest) here ∙ no_backlog.no_rest) refl in
    backlog-drained old mid did.same_claim.same_gates did.same_claim.same did.same_claim.taken did.same_claim.recorded [] (did.noted hit).given (did.known hit) (did.noted hit).gave (did.noted hit).drained mid.home.value kept
    no_backlog (sym (c.closed.ensures ∙ ap (λ (m : Mailbox). m.closed) c.status.ensures) ∙ c.if-closed.false) c.requires.between.backlog.count

pub returns-then-sys_is_drained-clause-drained : goal.returns-then-sys_is_drained-clause-drained
returns-then-sys_is_drained-clause-drained g c =
    let did = c.sys_is_drained.ensures in let hit = c.if-sys_is_drained.true in
    let old = c.args.claim.now in let mid = c.sys_is_drained.new.claim in
    let at_home = subst (λ (x : Contents). MatchBool c.has_next.result (HasNext x) (HasNoBacklog x)) c.deref.ensures c.has_next.ensures in
    let no_backlog = subst (λ b. MatchBool b (HasNext old.home.value) (HasNoBacklog old.home.value)) c.if-has_next.false at_home in
    let here = ap (λ (b : Box Contents). b.value) did.same_claim.same.1 in
    let kept = none-kept mid.home.value [] (ap (λ (x : Contents). x.rest) here ∙ no_backlog.no_rest) refl in
    λ _. is-drained old mid did.same_claim.same_gates did.same_claim.same did.same_claim.taken did.same_claim.recorded [] (did.noted hit).given (did.known hit) (did.noted hit).gave (did.noted hit).drained mid.home.value kept no_backlog refl

pub returns-then-sys_is_drained-clause-cleared : goal.returns-then-sys_is_drained-clause-cleared
returns-then-sys_is_drained-clause-cleared g c =
    let did = c.sys_is_drained.ensures in
    cleared-open (run_state c.args.claim.now) (run_state c.sys_is_drained.new.claim)
    (ap (λ (m : Mailbox). m.closed) did.same_claim.same.0 ∙ (sym (c.closed.ensures ∙ ap (λ (m : Mailbox). m.closed) c.status.ensures) ∙ c.if-closed.false))

-- ---- something is listed, or the last drain gave something

pub returns-clause-keeps : goal.returns-clause-keeps
returns-clause-keeps g c = record {
  running =
      let did = c.sys_is_drained.ensures in let no = c.if-sys_is_drained.false in
      let old = c.args.claim.now in let mid = c.sys_is_drained.new.claim in
      λ seen r. running-on old mid did.same_claim.same_gates did.same_claim.same (did.looked no) (did.unchanged no) g.K.Behaviours.gives (origin_of c.args.gates.now) seen r;
  left = ap (λ (b : Box Contents). b.value.cell) c.sys_is_drained.ensures.same_claim.same.1;
  same =
      let did = c.sys_is_drained.ensures in let no = c.if-sys_is_drained.false in
      let old = c.args.claim.now in let mid = c.sys_is_drained.new.claim in
      keeps-looked old mid did.same_claim.same_gates did.same_claim.same (did.looked no) (did.unchanged no);
  recorded = c.sys_is_drained.ensures.same_claim.recorded;
}

pub returns-clause-backlog : goal.returns-clause-backlog
returns-clause-backlog g c =
    let did = c.sys_is_drained.ensures in let no = c.if-sys_is_drained.false in
    let old = c.args.claim.now in let mid = c.sys_is_drained.new.claim in
    backlog-looked old mid did.same_claim.same_gates did.same_claim.same (did.looked no) (did.unchanged no) c.requires.between.backlog

pub returns-clause-cleared : goal.returns-clause-cleared
returns-clause-cleared g c =
    let did = c.sys_is_drained.ensures in
    cleared-same (run_state c.args.claim.now) (run_state c.sys_is_drained.new.claim) (ap (λ (m : Mailbox). m.closed) did.same_claim.same.0)
    (ap (λ (b : Box Contents). b.value.take) did.same_claim.same.1)

-- ---- nothing was sent

pub returns-then-closed-clause-due : goal.returns-then-closed-clause-due
returns-then-closed-clause-due g c = due-none (run_state c.args.claim.now) (run_state c.args.claim.now) refl refl refl (λ shut. shut)

pub returns-then-sys_is_drained-clause-due : goal.returns-then-sys_is_drained-clause-due
returns-then-sys_is_drained-clause-due g c =
    let did = c.sys_is_drained.ensures in let hit = c.if-sys_is_drained.true in
    let old = c.args.claim.now in let mid = c.sys_is_drained.new.claim in
    let at_home = subst (λ (x : Contents). MatchBool c.has_next.result (HasNext x) (HasNoBacklog x)) c.deref.ensures c.has_next.ensures in
    let no_backlog = subst (λ b. MatchBool b (HasNext old.home.value) (HasNoBacklog old.home.value)) c.if-has_next.false at_home in
    let here = ap (λ (b : Box Contents). b.value) did.same_claim.same.1 in
    let kept = none-kept mid.home.value [] (ap (λ (x : Contents). x.rest) here ∙ no_backlog.no_rest) refl in
    due-drained old mid did.same_claim.same_gates did.same_claim.same did.same_claim.taken did.same_claim.recorded [] (did.noted hit).given (did.known hit) (did.noted hit).gave (did.noted hit).drained mid.home.value kept
    no_backlog.no_rest (sym (c.closed.ensures ∙ ap (λ (m : Mailbox). m.closed) c.status.ensures) ∙ c.if-closed.false)

pub returns-clause-due : goal.returns-clause-due
returns-clause-due g c =
    let did = c.sys_is_drained.ensures in let no = c.if-sys_is_drained.false in
    let old = c.args.claim.now in let mid = c.sys_is_drained.new.claim in
    due-looked old mid did.same_claim.same_gates did.same_claim.same (did.looked no) (did.unchanged no)
