use Rattle.std.proofs.Common.{◌≡◌, ◌<◌, ◌+◌, ◌%◌, ◌^◌, ℕ, List, [], ◌∷◌, ◌++◌, append_assoc, append-nil, true, length, refl, sym, ap, ◌∙◌, subst, arith}
use Rattle.std.specs.Global.{Box}
use Rattle.std.specs.Prelude.{IfSome, Option}
use Rattle.mb_msg.specs.declared.id.ActorId.{ActorId}
use Rattle.mb_msg.specs.declared.system.SysMsg.{SysMsg}
use Rattle.mb_journal.specs.Life.{closed}
use Rattle.mb_status.specs.Mailbox.{Mailbox}
use Rattle.mb_cell.specs.CellView.{CellView}
use Rattle.mb_gate.specs.Claims.{held_in}
use Rattle.mb_gate.specs.NamedActors.{NamesBelow, EachNamesBelow}
use Rattle.mb_gate.specs.Accessors.{actors_of, pass_view}
use Rattle.mb_gate.specs.Untouched.{origin_of}
use Rattle.mb_gate.specs.View.{View}
use Rattle.mb_home.specs.AtHome.{given_of}
use Rattle.mb_home.specs.Contents.{Contents}
use Rattle.mb_home.specs.AgreesWithJournal.{AgreesWithJournal}
use Rattle.mb_mailbox.specs.RunState.{run_state}
use Rattle.mb_mailbox.specs.Notice.{asker}
use Rattle.mb_mailbox.proofs.BacklogLemmas.{keeps-same, keeps-then}
use Rattle.mb_register.proofs.CallerLemmas.{further-none, further-then}
use Rattle.mb_mailbox.proofs.CleanLemmas.{given-dropped, running-less, running-within, ended-closed, running-departed}
use Rattle.mb_mailbox.proofs.CleanLemmas.{status-answered, known-answered}
use Rattle.mb_mailbox.proofs.NamedLemmas.{named-first}
use Rattle.mb_mailbox.proofs.SendSystemLemmas.{running-caller_advances, keeps-answered, home-answered}
use Rattle.mb_mailbox.proofs.TellingLemmas.{running-own, keeps-home}
use Rattle.mb_mailbox.proofs.RecordedLemmas.{alike-still, alike-then}
use Rattle.mb_mailbox.proofs.RunSendsLemmas.{sends-like, sends-none, sends-then}
use Rattle.mb_mailbox.proofs.StepSendsLemmas.{sends-departed}
use Rattle.mb_mailbox.specs.RunSends.{SendsAndAnswers}
use Rattle.mb_mailbox.proofs.clean_up.drop_systems.Goals as goal

pub loop-node-init : goal.loop-node-init
loop-node-init g c = (
  c.requires.in_clean_up.same_gates,
  c.requires.in_clean_up.closed,
  c.requires.in_clean_up.running,
  refl,
  refl,
  refl,
  refl,
  keeps-same _,
  further-none _,
  alike-still _ _ _ _ refl refl,
  record { dropped = []; left = refl; sends = sends-none (run_state c.args.claim.now) (run_state c.args.claim.now) refl },
)

pub drop_next-requires-clause-ended : goal.drop_next-requires-clause-ended
drop_next-requires-clause-ended g c =
    subst (λ (x : Contents). closed x.cell.who x.cell.journal ≡ true) (sym c.deref_mut.ensures.value)
    (ended-closed _ _ _ (run_state c.loop-node.claim) _ c.loop-node.invariant.1 c.loop-node.invariant.2)

pub drop_next-requires-clause-settled : goal.drop_next-requires-clause-settled
drop_next-requires-clause-settled g c =
    subst (λ (x : Contents). AgreesWithJournal (g.K.Behaviours.gives x.cell.who.this.0) x.cell.acts x) (sym c.deref_mut.ensures.value)
    (running-own _ _ _ _ (run_state c.loop-node.claim) c.loop-node.invariant.2)

pub answer-requires-clause-parent : goal.answer-requires-clause-parent
answer-requires-clause-parent g c =
    let n = actors_of c.args.gates.now in
    let first = c.requires.in_clean_up.running in
    let there = subst (λ k. IfSome c.args.claim.now.home.value.cell.who.parent (λ (p : ActorId). p.0 < k)) first.same_count first.named.parent in
    let of_home = c.parent-parent.ensures ∙ ap (λ (x : Contents). x.cell.who.parent) c.deref.ensures in
    subst (λ (o : Option ActorId). IfSome o (λ p. p.0 < n)) (sym of_home) there

pub answer-requires-clause-present : goal.answer-requires-clause-present
answer-requires-clause-present g c = subst (λ k. k < actors_of c.args.gates.now) (sym c.actor-actor.ensures) c.requires.in_clean_up.running.present

pub answer-requires-clause-named : goal.answer-requires-clause-named
answer-requires-clause-named g c =
    let r = c.loop-node.invariant.2 in
    let rest = ap (λ (x : Contents). x.rest) c.deref_mut.ensures.value in
    subst (λ k. NamesBelow k c.in-Some.node) r.same_count
    (named-first c.loop-node.claim.home.value.cell.who.actors _ c.in-Some.node c.drop_next.new.self.rest
    (subst (λ l. EachNamesBelow c.loop-node.claim.home.value.cell.who.actors l) (sym rest ∙ c.in-Some.ensures.dropped) r.named.rest))

pub loop-node-preserved : goal.loop-node-preserved
loop-node-preserved g c =
    let l = c.loop-node.claim in
    let inv = c.loop-node.invariant in
    let old : Contents = l.home.value in
    let mid : Contents = c.drop_next.new.self in
    let new = c.answer.new.claim in
    let same = subst (λ (x : Contents). mid ≡ record x { rest = mid.rest; dropped = (x.dropped + 1) % 2 ^ 64 }) c.deref_mut.ensures.value
    c.in-Some.ensures.same in
    let dropped = sym (ap (λ (x : Contents). x.rest) c.deref_mut.ensures.value) ∙ c.in-Some.ensures.dropped in
    let cell : mid.cell ≡ old.cell = ap (λ (x : Contents). x.cell) same in
    let told = c.answer.ensures.answered in
    let asked = asker c.parent-parent.result c.in-Some.node in
    let home = home-answered c.actor-actor.result.0 _ new asked told in
    let known = known-answered c.actor-actor.result.0 _ new asked told in
    let status = status-answered c.actor-actor.result.0 _ new asked told in
    let gives = g.K.Behaviours.gives in
    let origin = origin_of c.args.gates.now in
    let seen = (pass_view c.loop-node.registrar.pass).log in
    let less = running-less gives origin seen (run_state l) inv.2 mid cell (ap (λ (x : Contents). x.directory) same) (ap (λ (x : Contents). x.dead) same)
    c.drop_next.ensures.settled _ c.in-Some.node dropped in
    let of_home = c.parent-parent.ensures ∙ ap (λ (x : Contents). x.cell.who.parent) c.deref.ensures in
    let parent_asked : asker mid.cell.who.parent c.in-Some.node ≡ asked =
    ap (λ (o : Option ActorId). asker o c.in-Some.node)
    (ap (λ (x : CellView). x.who.parent) (cell ∙ inv.5) ∙ sym of_home) in
    let here : c.actor-actor.result.0 ≡ (run_state l).actor = c.actor-actor.ensures ∙ sym inv.7.same.actor in (
      c.answer.ensures.same_gates,
      ap (λ (m : Mailbox). m.closed) status ∙ inv.1,
      running-caller_advances gives origin new.home.value.cell.acts _ _ (run_state new) c.answer.ensures.caller_advances
          (running-departed c.actor-actor.result.0 _ new gives origin seen asked told here inv.1 less),
      ap (λ (b : Box Contents). given_of b.value) home ∙ given-dropped old mid _ c.in-Some.node dropped same ∙ inv.3,
      ap (λ (v : View). (held_in v).given) known ∙ inv.4,
      ap (λ (b : Box Contents). b.value.cell) home ∙ cell ∙ inv.5,
      ap (λ (v : View). v.log) known ∙ inv.6,
      keeps-then _ _ _ inv.7
          (keeps-then _ _ _ (keeps-home (run_state l) mid cell (ap (λ (x : Contents). x.take) same))
          (keeps-answered c.actor-actor.result.0 _ new asked told)),
      further-then _ _ _ inv.8 c.answer.ensures.caller_advances,
      alike-then _ _ _ _ _ _ inv.9 c.answer.ensures.sends,
      record {
        dropped = inv.10.dropped ++ (c.in-Some.field-0-0, c.in-Some.node) ∷ [];
        left =
            inv.10.left
            ∙ ap (λ r. inv.10.dropped ++ r) (dropped ∙ ap (λ (b : Box Contents). (c.in-Some.field-0-0, c.in-Some.node) ∷ b.value.rest) (sym home))
            ∙ sym (append_assoc inv.10.dropped ((c.in-Some.field-0-0, c.in-Some.node) ∷ []) new.home.value.rest);
        sends =
            sends-then (run_state c.args.claim.now) (run_state l) (run_state new) inv.7.same.actor inv.7.same.who [] inv.10.dropped []
            ((c.in-Some.field-0-0, c.in-Some.node) ∷ []) (λ shut. ap (λ (m : Mailbox). m.closed) status ∙ shut) inv.10.sends
            (sends-like (record (run_state l) { home = mid }) (run_state new) (run_state l) (run_state new) []
            ((c.in-Some.field-0-0, c.in-Some.node) ∷ []) refl refl (sym (ap (λ (x : CellView). x.who) cell)) refl refl
            (sends-departed _ new c.actor-actor.result.0 c.in-Some.field-0-0 c.in-Some.node here inv.1 asked parent_asked told));
      },
    )

pub loop-node-smaller : goal.loop-node-smaller
loop-node-smaller g c =
    let told = c.answer.ensures.answered in
    let asked = asker c.parent-parent.result c.in-Some.node in
    let home = home-answered c.actor-actor.result.0 _ c.answer.new.claim asked told in
    let rest = ap (λ (b : Box Contents). length b.value.rest) home in
    let dropped = sym (ap (λ (x : Contents). x.rest) c.deref_mut.ensures.value) ∙ c.in-Some.ensures.dropped in
    let before = ap (λ (l : List (ℕ × SysMsg)). length l) dropped in
    omega (arith, rest, before)

-- ---- none is left

pub returns-clause-in_clean_up : goal.returns-clause-in_clean_up
returns-clause-in_clean_up g c = record {
  same_gates = c.loop-node.invariant.0;
  closed = c.loop-node.invariant.1;
  running =
      let l = c.loop-node.claim in
      let mid : Contents = c.drop_next.new.self in
      let same = subst (λ (x : Contents). mid ≡ record x { rest = mid.rest }) c.deref_mut.ensures.value c.in_default.ensures.same in
      let rest = sym (ap (λ (x : Contents). x.rest) c.deref_mut.ensures.value) ∙ c.in_default.ensures.dropped in
      running-within g.K.Behaviours.gives (origin_of c.args.gates.now) (pass_view c.loop-node.registrar.pass).log (run_state l) c.loop-node.invariant.2 mid
      (ap (λ (x : Contents). x.cell) same) (ap (λ (x : Contents). x.directory) same) (ap (λ (x : Contents). x.dead) same) c.drop_next.ensures.settled
      (sym rest);
}

pub returns-clause-none : goal.returns-clause-none
returns-clause-none g c = sym c.in_default.ensures.dropped ∙ c.in_default.ensures.none

pub returns-clause-given : goal.returns-clause-given
returns-clause-given g c =
    let l = c.loop-node.claim in
    let mid : Contents = c.drop_next.new.self in
    let same = subst (λ (x : Contents). mid ≡ record x { rest = mid.rest }) c.deref_mut.ensures.value c.in_default.ensures.same in
    let rest = sym (ap (λ (x : Contents). x.rest) c.deref_mut.ensures.value) ∙ c.in_default.ensures.dropped in (
      ap given_of same ∙ ap (λ (r : List (ℕ × SysMsg)). given_of (record l.home.value { rest = r })) (sym rest) ∙ c.loop-node.invariant.3,
      c.loop-node.invariant.4,
    )

pub returns-clause-left : goal.returns-clause-left
returns-clause-left g c =
    ap (λ (x : Contents). x.cell) c.in_default.ensures.same ∙ ap (λ (x : Contents). x.cell) c.deref_mut.ensures.value ∙ c.loop-node.invariant.5

pub returns-clause-advances : goal.returns-clause-advances
returns-clause-advances g c = record {
  same =
      let cell = ap (λ (x : Contents). x.cell) c.in_default.ensures.same ∙ ap (λ (x : Contents). x.cell) c.deref_mut.ensures.value in
      let take = ap (λ (x : Contents). x.take) c.in_default.ensures.same ∙ ap (λ (x : Contents). x.take) c.deref_mut.ensures.value in
      keeps-then _ _ _ c.loop-node.invariant.7 (keeps-home (run_state c.loop-node.claim) c.drop_next.new.self cell take);
  caller_advances = c.loop-node.invariant.8;
  sends = c.loop-node.invariant.9;
}

pub returns-clause-answers : goal.returns-clause-answers
returns-clause-answers g c =
    let l = c.loop-node.claim in
    let inv = c.loop-node.invariant in
    let none = ap (λ (x : Contents). x.rest) (sym c.deref_mut.ensures.value) ∙ c.in_default.ensures.none in
    let mid : Contents = c.drop_next.new.self in
    subst (λ x. SendsAndAnswers [] x (run_state c.args.claim.now) (record (run_state l) { home = mid }))
    (sym (inv.10.left ∙ ap (λ r. inv.10.dropped ++ r) none ∙ append-nil inv.10.dropped))
    (sends-like (run_state c.args.claim.now) (run_state l) (run_state c.args.claim.now) (record (run_state l) { home = mid }) [] inv.10.dropped
    refl refl refl refl refl inv.10.sends)
