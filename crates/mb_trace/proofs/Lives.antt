-- What is kept of an actor, after one entry more.
use Rattle.std.proofs.Common.{◌≡◌, ℕ, ◌+◌, ◌-◌, List, [], ◌∷◌, ◌++◌, Bool, true, false, refl, ap, sym, ◌∙◌, arith}
use Rattle.std.specs.Prelude.{not, ◌&&◌, ◌||◌, if◌then◌else◌, ℤ, Option}
use Rattle.std.specs.Borrow.{Bor}
use Rattle.mb_msg.specs.declared.id.ActorId.{ActorId}
use Rattle.mb_msg.specs.declared.strategy.Strategy.{Strategy}
use Rattle.mb_msg.specs.declared.supervision.Cause.{Cause}
use Rattle.mb_msg.specs.declared.system.SysMsg.TheVariants as system
use Rattle.mb_actor.specs.ActorList.{has}
use Rattle.mb_actor.specs.OutboxView.{spawns_of}
use Rattle.mb_actor.specs.declared.phase.Phase.{Phase}
use Rattle.mb_actor.specs.declared.phase.Phase.TheVariants.{Fresh, Live, Broken, Ending, Ended}
use Rattle.mb_journal.specs.Effects.{applies, lasting_effects}
use Rattle.mb_journal.specs.Entry.{Entry, answered_failed}
use Rattle.mb_journal.specs.Entry.Entry.{Handled, System, Dropped}
use Rattle.mb_journal.specs.Entry.Outcome.{Applied, SetAside}
use Rattle.mb_journal.specs.Failure.{failed, fails_by_envelope, failure_source, is_escalate, is_nobody, is_resume_of_failure}
use Rattle.mb_journal.specs.Identity.{Identity, is_guardian}
use Rattle.mb_journal.specs.Incarnation.{messages, entry_messages}
use Rattle.mb_journal.specs.Life.{after_death, children, ends_last_child, has_ending, has_start, is_create, is_empty, is_recreate, is_resume, is_terminate, phase}
use Rattle.mb_journal.specs.Phase.{phase_is}
use Rattle.mb_journal.specs.Supervision.{directive_of}
use Rattle.mb_journal.specs.Suspension.{Mark, count_after, is_suspend, mark_if, marks}
use Rattle.mb_journal.specs.Suspension.Mark.{Plus, Minus}
use Rattle.mb_journal.specs.declared.failed_by.FailedBy.{FailedBy}
use Rattle.mb_journal.specs.declared.failed_by.FailedBy.TheVariants.{Nobody, Itself}
use Rattle.mb_journal.proofs.CountLemmas.{running}
use Rattle.mb_journal.proofs.Fold.{Queries, queries, queries-fold, running-append, starts, restarts, lasts, escalates, fails, off_fresh, marks_on, phase_on, failed_on, children_on, messages_on}
use Rattle.mb_script.specs.Script.{Scripted}
use Rattle.mb_trace.specs.Lives.{AreRulesOf, Follows, passes_up, passes_up_by}
use Rattle.mb_trace.specs.Steps.{state_after}
use Rattle.mb_trace.specs.declared.life.Life.{Life}
use Rattle.mb_trace.specs.declared.life.Kind.{Kind}
use Rattle.mb_trace.specs.declared.rules.Rules.{Rules}

-- what an entry is to an actor of which this is kept
pub record IsKind (rules : Rules) (life : Life) (e : Entry) (k : Kind) : Type 0 where
  pub starts : k.starts ≡ (applies is_create e && not life.has_started)
  pub restarts : k.restarts ≡ ((applies is_recreate e || (applies is_resume e && phase_is life.phase Broken))
      && not (phase_is life.phase Fresh) && not rules.is_guardian)
  pub ends : k.ends ≡ (applies is_terminate e && not life.has_ending)
  pub is_last : k.is_last ≡ ((k.ends && is_empty life.children.items) || (phase_is life.phase Ending && ends_last_child e life.children.items))
  pub has_failed : k.has_failed ≡ answered_failed e
  pub fails : k.fails ≡ (((k.starts || k.restarts) && k.has_failed)
      || (is_nobody life.failed && (fails_by_envelope e || passes_up_by rules.strategy life.children.items e)))

-- what the entry does to the suspensions
minus_mark : (n : ℕ) (b : Bool) → running n (mark_if b Minus) ≡ n - (if b then 1 else 0)
minus_mark n true = refl
minus_mark n false = omega arith

plus_mark : (n : ℕ) (b : Bool) → running n (mark_if b Plus) ≡ n + (if b then 1 else 0)
plus_mark n true = refl
plus_mark n false = omega arith

five_marks : (n : ℕ) (a b c d e : Bool) →
    n - (if a then 1 else 0) + (if b then 1 else 0) - (if c then 1 else 0) + (if d then 1 else 0) + (if e then 1 else 0)
    ≡ running n (mark_if a Minus ++ mark_if b Plus ++ mark_if c Minus ++ mark_if d Plus ++ mark_if e Plus)
five_marks n a b c d e =
    let one : List Mark = mark_if a Minus in
    let two : List Mark = one ++ mark_if b Plus in
    let three : List Mark = two ++ mark_if c Minus in
    let four : List Mark = three ++ mark_if d Plus in
    sym (running-append n four (mark_if e Plus)
    ∙ (plus_mark (running n four) e
    ∙ ap (λ m. m + (if e then 1 else 0)) (running-append n three (mark_if d Plus)
    ∙ (plus_mark (running n three) d
    ∙ ap (λ m. m + (if d then 1 else 0)) (running-append n two (mark_if c Minus)
    ∙ (minus_mark (running n two) c
    ∙ ap (λ m. m - (if c then 1 else 0)) (running-append n one (mark_if b Plus)
    ∙ (plus_mark (running n one) b ∙ ap (λ m. m + (if b then 1 else 0)) (minus_mark n a)))))))))

-- whether a failure is passed up by these rules is what the actor's strategy says
passed_up : (who : Identity) (strategy : Option (Bor Strategy)) (q : Queries) (e : Entry) →
    ((c : Cause) → passes_up strategy c ≡ is_escalate (directive_of who c)) → passes_up_by strategy q.children e ≡ escalates who q e
passed_up who strategy q (Handled envelope reading outcome) same = refl
passed_up who strategy q (Dropped envelope) same = refl
passed_up who strategy q (System number system.Create outcome) same = refl
passed_up who strategy q (System number (system.Recreate c) outcome) same = refl
passed_up who strategy q (System number system.Suspend outcome) same = refl
passed_up who strategy q (System number (system.Resume f) outcome) same = refl
passed_up who strategy q (System number system.Terminate outcome) same = refl
passed_up who strategy q (System number (system.Watch w) outcome) same = refl
passed_up who strategy q (System number (system.Unwatch w) outcome) same = refl
passed_up who strategy q (System number (system.Failed x c) SetAside) same = refl
passed_up who strategy q (System number (system.Failed x c) (Applied a es)) same = ap (λ b. has q.children x && b) (same c)
passed_up who strategy q (System number (system.Died x) outcome) same = refl

-- the queries of a journal, with what is kept in their places
abbrev kept : Identity → List Entry → Life → Queries
kept who before life = record (queries who before) {
  phase = life.phase;
  started = life.has_started;
  ended = life.has_ending;
  marked = life.suspended;
  failed = life.failed;
  children = life.children.items;
}

module _ (who : Identity) (script : Option Scripted) (before : List Entry) (e : Entry) (rules : Rules) (life : Life) (k : Kind)
    (are : AreRulesOf who rules) (f : Follows who script before life) (kinds : IsKind rules life e k) where
  abbrev q : Queries
  q = kept who before life

  same : q ≡ queries who before
  same = λ i. record (queries who before) {
    phase = f.phase i;
    started = f.started i;
    ended = f.ending i;
    marked = f.suspended i;
    failed = f.failed i;
    children = f.children i;
  }

  restarts-is : k.restarts ≡ restarts who q e
  restarts-is =
      kinds.restarts
      ∙ (λ i. (applies is_recreate e || (applies is_resume e && phase_is life.phase Broken)) && not (phase_is life.phase Fresh) && not (are.guardian i))

  lasts-is : k.is_last ≡ lasts q e
  lasts-is =
      kinds.is_last
      ∙ (λ i. (kinds.ends i && is_empty life.children.items) || (phase_is life.phase Ending && ends_last_child e life.children.items))

  fails-is : k.fails ≡ fails who q e
  fails-is =
      kinds.fails
      ∙ (λ i. ((kinds.starts i || restarts-is i) && kinds.has_failed i)
      || (is_nobody life.failed && (fails_by_envelope e || passed_up who rules.strategy q e are.passes i)))

  pub phase-next : (p : Phase) → p ≡ (if phase_is life.phase Ended || k.is_last then Ended
      else (if phase_is life.phase Ending || k.ends then Ending
      else (if k.starts || k.restarts then (if k.has_failed then Broken else Live)
      else life.phase))) → p ≡ phase who (e ∷ before)
  phase-next p is =
      is
      ∙ ((λ i. if phase_is life.phase Ended || lasts-is i then Ended
      else (if phase_is life.phase Ending || kinds.ends i then Ending
      else (if kinds.starts i || restarts-is i then (if kinds.has_failed i then Broken else Live)
      else life.phase)))
      ∙ (ap (λ (x : Queries). phase_on who x e) same ∙ sym (ap (λ (x : Queries). x.phase) (queries-fold who before e))))

  pub failed-next : (by : FailedBy) → by ≡ (if k.fails then failure_source e
      else (if k.restarts then Nobody
      else (if applies is_resume_of_failure e && phase_is life.phase Live then Nobody
      else (if k.ends && not k.is_last then Itself
      else life.failed)))) → by ≡ failed who (e ∷ before)
  failed-next by is =
      is
      ∙ ((λ i. if fails-is i then failure_source e
      else (if restarts-is i then Nobody
      else (if applies is_resume_of_failure e && phase_is life.phase Live then Nobody
      else (if kinds.ends i && not (lasts-is i) then Itself
      else life.failed))))
      ∙ (ap (λ (x : Queries). failed_on who x e) same ∙ sym (ap (λ (x : Queries). x.failed) (queries-fold who before e))))

  started_by : (g : Bool) → is_guardian who ≡ g → (spawned : List ActorId) →
      (if g then (if k.starts then rules.prepared.now else []) else spawned) ≡ (if g then (if starts q e then who.prepared else []) else spawned)
  started_by true is spawned = λ i. if kinds.starts i then are.prepared is i else []
  started_by false is spawned = refl

  pub children-next : (lost new : List ActorId) → lost ≡ after_death e life.children.items →
      new ≡ lost ++ (if rules.is_guardian then (if k.starts then rules.prepared.now else []) else spawns_of (lasting_effects e)) →
      new ≡ children who (e ∷ before)
  children-next lost new is_lost is_new =
      let spawned = spawns_of (lasting_effects e) in
      is_new
      ∙ ((λ i. is_lost i ++ (if are.guardian i then (if k.starts then rules.prepared.now else []) else spawned))
      ∙ (ap (λ (l : List ActorId). after_death e life.children.items ++ l) (started_by (is_guardian who) refl spawned)
      ∙ (ap (λ (x : Queries). children_on who x e) same ∙ sym (ap (λ (x : Queries). x.children) (queries-fold who before e)))))

  pub suspended-next : (suspends resumes fails_by waits : Bool) (n : ℕ) → suspends ≡ (applies is_suspend e && not (phase_is life.phase Fresh)) →
      resumes ≡ ((applies is_resume e && not (phase_is life.phase Fresh)) || k.restarts) → fails_by ≡ k.fails →
      waits ≡ (k.ends && not k.is_last) →
      n ≡ life.suspended - (if k.starts then 1 else 0) + (if suspends then 1 else 0) - (if resumes then 1 else 0) + (if fails_by then 1 else 0)
      + (if waits then 1 else 0) → n ≡ count_after (marks who (e ∷ before))
  suspended-next suspends resumes fails_by waits n is_suspends is_resumes is_fails is_waits is_n =
      is_n
      ∙ (five_marks life.suspended k.starts suspends resumes fails_by waits
      ∙ ((λ i. running life.suspended (mark_if (kinds.starts i) Minus ++ mark_if (is_suspends i) Plus ++ mark_if (is_resumes i) Minus
      ++ mark_if (is_fails i) Plus ++ mark_if (is_waits i) Plus))
      ∙ ((λ i. running life.suspended (mark_if (starts q e) Minus ++ mark_if (off_fresh is_suspend q e) Plus
      ++ mark_if (off_fresh is_resume q e || restarts-is i) Minus ++ mark_if (fails-is i) Plus
      ++ mark_if (kinds.ends i && not (lasts-is i)) Plus))
      ∙ (ap (λ (x : Queries). running x.marked (marks_on who x e)) same
      ∙ sym (ap (λ (x : Queries). x.marked) (queries-fold who before e))))))

  pub started-next : (b new : Bool) → b ≡ applies is_create e → new ≡ (b || life.has_started) → new ≡ has_start (e ∷ before)
  started-next b new is_b is_new =
      is_new
      ∙ ((λ i. is_b i || f.started i) ∙ sym (ap (λ (x : Queries). x.started) (queries-fold who before e)))

  pub ending-next : (b new : Bool) → b ≡ applies is_terminate e → new ≡ (b || life.has_ending) → new ≡ has_ending (e ∷ before)
  ending-next b new is_b is_new =
      is_new ∙ ((λ i. is_b i || f.ending i) ∙ sym (ap (λ (x : Queries). x.ended) (queries-fold who before e)))

  pub state-next : (new : Option ℤ) → new ≡ state_after script (if k.starts || k.restarts then [] else messages who before ++ entry_messages e) →
      new ≡ state_after script (messages who (e ∷ before))
  state-next new is =
      is
      ∙ ((λ i. state_after script (if kinds.starts i || restarts-is i then [] else messages who before ++ entry_messages e))
      ∙ (ap (λ (x : Queries). state_after script (messages_on who x e)) same
      ∙ sym (ap (λ (x : Queries). state_after script x.messages) (queries-fold who before e))))
