use Rattle.std.proofs.Common.{◌≡◌, List, true≢false, refl, sym, ap, ◌∙◌, subst}
use Rattle.std.specs.Global.{Box}
use Rattle.mb_status.specs.Mailbox.{Mailbox}
use Rattle.mb_journal.specs.Acts.{Act}
use Rattle.mb_gate.specs.Lists.{IsNumberedFrom}
use Rattle.mb_gate.specs.Untouched.{origin_of}
use Rattle.mb_home.specs.AtHome.{given_of}
use Rattle.mb_home.specs.Contents.{Contents}
use Rattle.mb_home.specs.AgreesWithJournal.{AgreesWithJournal}
use Rattle.mb_mailbox.specs.RunState.{run_state}
use Rattle.mb_mailbox.proofs.DrainingLemmas.{none-kept, keeps-drained, due-drained, drained-from, backlog-drained, is-drained, running-drain}
use Rattle.mb_mailbox.proofs.EmptiedLemmas.{cleared-open}
use Rattle.mb_mailbox.proofs.TellingLemmas.{running-own}
use Rattle.mb_mailbox.proofs.systems.drain.Goals as goal

pub sys_drain-drained-requires-clause-same_gates : goal.sys_drain-drained-requires-clause-same_gates
sys_drain-drained-requires-clause-same_gates g c = c.requires.between.running.1.same_gates

pub sys_drain-drained-requires-clause-present : goal.sys_drain-drained-requires-clause-present
sys_drain-drained-requires-clause-present g c = c.requires.between.running.1.present

pub keep-requires-clause-none_left : goal.keep-requires-clause-none_left
keep-requires-clause-none_left g c =
    ap (λ (x : Contents). x.rest) c.deref_mut.ensures.value ∙ ap (λ (b : Box Contents). b.value.rest) c.sys_drain-drained.ensures.same_claim.same.1
    ∙ c.requires.no_backlog.no_rest

pub keep-requires-clause-continues : goal.keep-requires-clause-continues
keep-requires-clause-continues g c =
    let did = c.sys_drain-drained.ensures in
    subst (λ (x : Contents). IsNumberedFrom (given_of x) c.sys_drain-drained.result) (sym c.deref_mut.ensures.value)
    (drained-from c.args.claim.now c.sys_drain-drained.new.claim did.same_claim.same_gates did.same_claim.same did.same_claim.taken did.same_claim.recorded c.sys_drain-drained.result did.noted.given
    did.known did.noted.gave did.noted.drained (record c.sys_drain-drained.new.claim.home.value { rest = c.sys_drain-drained.result }) refl c.requires.between.backlog.count
    did.numbers)

pub keep-requires-clause-settled : goal.keep-requires-clause-settled
keep-requires-clause-settled g c =
    let old = c.args.claim.now in
    let own = running-own _ _ _ _ (run_state old) c.requires.between.running.1 in
    let here = subst (λ (l : List Act). AgreesWithJournal (g.K.Behaviours.gives old.home.value.cell.who.this.0) l old.home.value)
    (sym c.requires.between.carried_out) own in
    let home = c.deref_mut.ensures.value ∙ ap (λ (b : Box Contents). b.value) c.sys_drain-drained.ensures.same_claim.same.1 in
    subst (λ (x : Contents). AgreesWithJournal (g.K.Behaviours.gives x.cell.who.this.0) x.cell.acts x) (sym home) here

pub returns-clause-keeps : goal.returns-clause-keeps
returns-clause-keeps g c = record {
  running =
      let did = c.sys_drain-drained.ensures in
      let kept = subst (λ (x : Contents). c.keep.new.self ≡ record x { rest = c.sys_drain-drained.result }) c.deref_mut.ensures.value
      c.keep.ensures.kept in
      λ seen r. running-drain c.args.claim.now c.sys_drain-drained.new.claim did.same_claim.same_gates did.same_claim.same did.same_claim.taken did.same_claim.recorded c.sys_drain-drained.result
      did.noted.given did.known did.noted.gave did.noted.drained c.keep.new.self kept g.K.Behaviours.gives (origin_of c.args.gates.now) seen c.requires.between.carried_out
      c.keep.ensures.settled did.named r;
  left =
      ap (λ (x : Contents). x.cell) c.keep.ensures.kept ∙ ap (λ (x : Contents). x.cell) c.deref_mut.ensures.value
      ∙ ap (λ (b : Box Contents). b.value.cell) c.sys_drain-drained.ensures.same_claim.same.1;
  same =
      let did = c.sys_drain-drained.ensures in
      let kept = subst (λ (x : Contents). c.keep.new.self ≡ record x { rest = c.sys_drain-drained.result }) c.deref_mut.ensures.value
      c.keep.ensures.kept in
      keeps-drained c.args.claim.now c.sys_drain-drained.new.claim did.same_claim.same_gates did.same_claim.same did.same_claim.taken did.same_claim.recorded c.sys_drain-drained.result did.noted.given
      did.known did.noted.gave did.noted.drained c.keep.new.self kept;
  recorded = c.sys_drain-drained.ensures.same_claim.recorded;
}

pub returns-clause-backlog : goal.returns-clause-backlog
returns-clause-backlog g c =
    let did = c.sys_drain-drained.ensures in
    let kept = subst (λ (x : Contents). c.keep.new.self ≡ record x { rest = c.sys_drain-drained.result }) c.deref_mut.ensures.value
    c.keep.ensures.kept in
    backlog-drained c.args.claim.now c.sys_drain-drained.new.claim did.same_claim.same_gates did.same_claim.same did.same_claim.taken did.same_claim.recorded c.sys_drain-drained.result did.noted.given
    did.known did.noted.gave did.noted.drained c.keep.new.self kept c.requires.no_backlog c.requires.not_closed c.requires.between.backlog.count

pub returns-clause-gave : goal.returns-clause-gave
returns-clause-gave g c =
    let kept = subst (λ (x : Contents). c.keep.new.self ≡ record x { rest = c.sys_drain-drained.result }) c.deref_mut.ensures.value
    c.keep.ensures.kept in
    λ none. true≢false (sym (c.is_empty.ensures.1 (sym (ap (λ (x : Contents). x.rest) kept) ∙ none)) ∙ c.if-is_empty.false)

-- ---- nothing was drained

pub returns-then-is_empty-clause-keeps : goal.returns-then-is_empty-clause-keeps
returns-then-is_empty-clause-keeps g c = record {
  running =
      let did = c.sys_drain-drained.ensures in
      let old = c.args.claim.now in
      let mid = c.sys_drain-drained.new.claim in
      let none = c.is_empty.ensures.0 c.if-is_empty.true in
      let here = ap (λ (b : Box Contents). b.value) did.same_claim.same.1 in
      let kept = none-kept mid.home.value c.sys_drain-drained.result (ap (λ (x : Contents). x.rest) here ∙ c.requires.no_backlog.no_rest) none in
      let own = running-own _ _ _ _ (run_state old) c.requires.between.running.1 in
      let before = subst (λ (l : List Act). AgreesWithJournal (g.K.Behaviours.gives old.home.value.cell.who.this.0) l old.home.value)
      (sym c.requires.between.carried_out) own in
      let settled = subst (λ (x : Contents). AgreesWithJournal (g.K.Behaviours.gives x.cell.who.this.0) x.cell.acts x) (sym here) before in
      λ seen r. running-drain old mid did.same_claim.same_gates did.same_claim.same did.same_claim.taken did.same_claim.recorded c.sys_drain-drained.result did.noted.given did.known did.noted.gave did.noted.drained mid.home.value kept
      g.K.Behaviours.gives (origin_of c.args.gates.now) seen c.requires.between.carried_out settled did.named r;
  left = ap (λ (b : Box Contents). b.value.cell) c.sys_drain-drained.ensures.same_claim.same.1;
  same =
      let did = c.sys_drain-drained.ensures in
      let old = c.args.claim.now in
      let mid = c.sys_drain-drained.new.claim in
      let none = c.is_empty.ensures.0 c.if-is_empty.true in
      let here = ap (λ (b : Box Contents). b.value) did.same_claim.same.1 in
      let kept = none-kept mid.home.value c.sys_drain-drained.result (ap (λ (x : Contents). x.rest) here ∙ c.requires.no_backlog.no_rest) none in
      keeps-drained old mid did.same_claim.same_gates did.same_claim.same did.same_claim.taken did.same_claim.recorded c.sys_drain-drained.result did.noted.given did.known did.noted.gave did.noted.drained mid.home.value kept;
  recorded = c.sys_drain-drained.ensures.same_claim.recorded;
}

pub returns-then-is_empty-clause-backlog : goal.returns-then-is_empty-clause-backlog
returns-then-is_empty-clause-backlog g c =
    let did = c.sys_drain-drained.ensures in
    let old = c.args.claim.now in
    let mid = c.sys_drain-drained.new.claim in
    let none = c.is_empty.ensures.0 c.if-is_empty.true in
    let here = ap (λ (b : Box Contents). b.value) did.same_claim.same.1 in
    let kept = none-kept mid.home.value c.sys_drain-drained.result (ap (λ (x : Contents). x.rest) here ∙ c.requires.no_backlog.no_rest) none in
    backlog-drained old mid did.same_claim.same_gates did.same_claim.same did.same_claim.taken did.same_claim.recorded c.sys_drain-drained.result did.noted.given did.known did.noted.gave did.noted.drained mid.home.value kept
    c.requires.no_backlog c.requires.not_closed c.requires.between.backlog.count

pub returns-then-is_empty-clause-gave : goal.returns-then-is_empty-clause-gave
returns-then-is_empty-clause-gave g c =
    let did = c.sys_drain-drained.ensures in
    let old = c.args.claim.now in
    let mid = c.sys_drain-drained.new.claim in
    let none = c.is_empty.ensures.0 c.if-is_empty.true in
    let here = ap (λ (b : Box Contents). b.value) did.same_claim.same.1 in
    let kept = none-kept mid.home.value c.sys_drain-drained.result (ap (λ (x : Contents). x.rest) here ∙ c.requires.no_backlog.no_rest) none in
    is-drained old mid did.same_claim.same_gates did.same_claim.same did.same_claim.taken did.same_claim.recorded c.sys_drain-drained.result did.noted.given did.known did.noted.gave did.noted.drained mid.home.value kept
    c.requires.no_backlog none

-- ---- the mailbox is as it was

pub returns-clause-cleared : goal.returns-clause-cleared
returns-clause-cleared g c =
    let did = c.sys_drain-drained.ensures in
    cleared-open (run_state c.args.claim.now) (record (run_state c.sys_drain-drained.new.claim) { home = c.keep.new.self })
    (ap (λ (m : Mailbox). m.closed) did.same_claim.same.0 ∙ c.requires.not_closed)

pub returns-then-is_empty-clause-cleared : goal.returns-then-is_empty-clause-cleared
returns-then-is_empty-clause-cleared g c =
    let did = c.sys_drain-drained.ensures in
    cleared-open (run_state c.args.claim.now) (run_state c.sys_drain-drained.new.claim)
    (ap (λ (m : Mailbox). m.closed) did.same_claim.same.0 ∙ c.requires.not_closed)

-- ---- nothing was sent

-- ---- what was drained is left beside the cell

pub returns-clause-due : goal.returns-clause-due
returns-clause-due g c =
    let did = c.sys_drain-drained.ensures in
    let kept = subst (λ (x : Contents). c.keep.new.self ≡ record x { rest = c.sys_drain-drained.result }) c.deref_mut.ensures.value
    c.keep.ensures.kept in
    due-drained c.args.claim.now c.sys_drain-drained.new.claim did.same_claim.same_gates did.same_claim.same did.same_claim.taken did.same_claim.recorded c.sys_drain-drained.result did.noted.given
    did.known did.noted.gave did.noted.drained c.keep.new.self kept c.requires.no_backlog.no_rest c.requires.not_closed

pub returns-then-is_empty-clause-due : goal.returns-then-is_empty-clause-due
returns-then-is_empty-clause-due g c =
    let did = c.sys_drain-drained.ensures in
    let old = c.args.claim.now in
    let mid = c.sys_drain-drained.new.claim in
    let none = c.is_empty.ensures.0 c.if-is_empty.true in
    let here = ap (λ (b : Box Contents). b.value) did.same_claim.same.1 in
    let kept = none-kept mid.home.value c.sys_drain-drained.result (ap (λ (x : Contents). x.rest) here ∙ c.requires.no_backlog.no_rest) none in
    due-drained old mid did.same_claim.same_gates did.same_claim.same did.same_claim.taken did.same_claim.recorded c.sys_drain-drained.result did.noted.given did.known did.noted.gave did.noted.drained mid.home.value kept
    c.requires.no_backlog.no_rest c.requires.not_closed
