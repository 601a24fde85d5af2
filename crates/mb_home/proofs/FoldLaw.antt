-- Carrying out the acts of a lawful entry leads from the mailbox that the journal said before to the one that it says with that entry.
use Rattle.std.proofs.Common.{◌≡◌, ℕ, ◌<◌, ◌≤◌, Bool, true, false, List, [], ◌∷◌, ◌++◌, map, refl, sym, ap, ◌∙◌, subst, arith}
use Rattle.std.specs.Prelude.{not, nat_lt, ◌&&◌, ◌||◌, if◌then◌else◌, is_some, Option, None}
use Rattle.mb_msg.specs.Limits.{most_entries}
use Rattle.mb_status.specs.Mailbox.{Mailbox, most_suspensions, idle}
use Rattle.mb_msg.specs.declared.id.ActorId.{ActorId}
use Rattle.mb_msg.specs.declared.supervision.Cause.{Cause}
use Rattle.mb_msg.specs.declared.supervision.Cause.TheVariants as cause
use Rattle.mb_msg.specs.declared.system.SysMsg.{SysMsg}
use Rattle.mb_msg.specs.declared.system.SysMsg.TheVariants as system
use Rattle.mb_actor.specs.ActorList.{has}
use Rattle.mb_actor.specs.Behaviour.{Moment, Reply}
use Rattle.mb_actor.specs.declared.answer.Answer.{Answer}
use Rattle.mb_actor.specs.declared.effect.Effect.{Effect}
use Rattle.mb_actor.specs.declared.phase.Phase.{Phase}
use Rattle.mb_actor.specs.declared.phase.Phase.TheVariants.{Fresh, Live, Broken, Ending, Ended}
use Rattle.mb_journal.specs.Acts.{Act, acts, system_acts, fresh_acts, resume_acts, restart_acts, terminate_acts}
use Rattle.mb_journal.specs.Acts.Act.{SuspendSelf, ResumeSelf, CloseSelf}
use Rattle.mb_journal.specs.Aside.{waits_for_the_end, is_child_failure}
use Rattle.mb_journal.specs.Entry.{Entry, Outcome, is_applied, is_failed, answered_failed}
use Rattle.mb_journal.specs.Entry.Entry.{Handled, System, Dropped}
use Rattle.mb_journal.specs.Entry.Outcome.{Applied, SetAside}
use Rattle.mb_journal.specs.Failure.{is_nobody, is_child, is_escalate, is_resume_of_failure, failed, failure_of}
use Rattle.mb_journal.specs.Identity.{Identity, is_guardian}
use Rattle.mb_journal.specs.Lawful.{AreLawful, IsLawful, IsLawfulEntry, IsSystem, IsGiven, call_of}
use Rattle.mb_journal.specs.Life.{children, phase, closed, is_empty, is_alone, has_start, has_ending}
use Rattle.mb_journal.specs.Phase.{phase_is}
use Rattle.mb_journal.specs.Supervision.{directive_of}
use Rattle.mb_journal.specs.Suspension.{Mark, mark_if, marks, count, count_after, pluses}
use Rattle.mb_journal.specs.Suspension.Mark.{Plus, Minus}
use Rattle.mb_journal.proofs.CountLemmas.{running}
use Rattle.mb_journal.proofs.CreateSteps.{fails-as_answered}
use Rattle.mb_journal.proofs.DiedSteps.{died-tests}
use Rattle.mb_journal.proofs.EnvelopeSteps.{handled-tests, dropped-tests}
use Rattle.mb_journal.proofs.Fold.{Queries, queries, queries-fold, marked-fold, starts, restarts, ends, lasts}
use Rattle.mb_journal.proofs.PhaseLemmas.{not_started, not_ending-fresh, not_ending-live, not_ending-broken, agrees}
use Rattle.mb_journal.proofs.SetAsideSteps.{set_aside-tests}
use Rattle.mb_journal.proofs.Steps.{Tests, tests_of, tests-are, none_passed, fails-not}
use Rattle.mb_journal.proofs.TerminateSteps.{ending-tests, ended-tests, ending_again-tests}
use Rattle.mb_journal.proofs.TestLemmas.{and-false, if_true, if_false}
use Rattle.mb_cell.proofs.DispatchLemmas.{is_fresh}
use Rattle.mb_cell.proofs.GuardianLemmas.{broken-actor}
use Rattle.mb_cell.proofs.OpenLaws.{count-few}
use Rattle.mb_cell.proofs.StartLemmas.{unstarted, started-once}
use Rattle.mb_home.specs.AtHome.{mailbox_at}
use Rattle.mb_home.specs.Carried.{mailbox_after, CountsEach, Leads}
use Rattle.mb_home.proofs.MoveLemmas.{moves, act_for, moves-to_each, moves-to_some, after-moves, counts-moves, after-marks, counts-marks}
use Rattle.mb_home.proofs.MoveRules.{suspend_if, moves-body, moves-create, moves-restart, moves-terminate, moves-died, moves-failed}
use Rattle.mb_home.proofs.NobodyLemmas.{nobody-fresh}

-- the marks of an entry that passes these tests
abbrev marks_by : Tests → List Mark
marks_by t =
    mark_if t.start Minus ++ mark_if t.suspend Plus ++ mark_if (t.resume || t.restart) Minus ++ mark_if t.failure Plus
    ++ mark_if (t.ending && not t.last) Plus

-- and what it does to the actor's own mailbox: it closes it, if it is the last, and else what the marks count
abbrev moves_by : Tests → List Act
moves_by t = if t.last then CloseSelf ∷ [] else map act_for (marks_by t)

-- the entry passes these tests, and its acts do so to the actor's own mailbox; they suspend it at most once
record IsMoved (who : Identity) (before : List Entry) (e : Entry) : Type 0 where
  t : Tests
  tests : tests_of who (queries who before) e ≡ t
  one : pluses (marks_by t) ≤ 1
  moved : moves (acts who before e) ≡ moves_by t

-- ---- what the tests say of the marks

marks-failure : (b : Bool) → suspend_if b ≡ moves_by (record none_passed { failure = b })
marks-failure true = refl
marks-failure false = refl

one-failure : (b : Bool) → pluses (marks_by (record none_passed { failure = b })) ≤ 1
unfolding pluses
one-failure true = omega arith
one-failure false = omega arith

marks-started : (b : Bool) → ResumeSelf ∷ suspend_if b ≡ moves_by (record none_passed { start = true; failure = b })
marks-started true = refl
marks-started false = refl

one-started : (b : Bool) → pluses (marks_by (record none_passed { start = true; failure = b })) ≤ 1
unfolding pluses
one-started true = omega arith
one-started false = omega arith

marks-restarted : (r b : Bool) → ResumeSelf ∷ suspend_if b ≡ moves_by (record none_passed { restart = true; failure = b; resume = r })
marks-restarted true true = refl
marks-restarted true false = refl
marks-restarted false true = refl
marks-restarted false false = refl

one-restarted : (r b : Bool) → pluses (marks_by (record none_passed { restart = true; failure = b; resume = r })) ≤ 1
unfolding pluses
one-restarted true true = omega arith
one-restarted true false = omega arith
one-restarted false true = omega arith
one-restarted false false = omega arith

marks-last : (b : Bool) → (if b then CloseSelf ∷ [] else []) ≡ moves_by (record none_passed { last = b })
marks-last true = refl
marks-last false = refl

one-last : (b : Bool) → pluses (marks_by (record none_passed { last = b })) ≤ 1
unfolding pluses
one-last true = omega arith
one-last false = omega arith

one-none : pluses (marks_by none_passed) ≤ 1
unfolding pluses
one-none = omega arith

one-suspend : pluses (marks_by (record none_passed { suspend = true })) ≤ 1
unfolding pluses
one-suspend = omega arith

one-resume : (f : Bool) → pluses (marks_by (record none_passed { resume = true; resume_of_failure = f })) ≤ 1
unfolding pluses
one-resume f = omega arith

one-ending : pluses (marks_by (record none_passed { ending = true })) ≤ 1
unfolding pluses
one-ending = omega arith

one-ended : pluses (marks_by (record none_passed { ending = true; last = true })) ≤ 1
unfolding pluses
one-ended = omega arith

-- ---- each entry

module _ (who : Identity) (gives : Moment → Reply → Type 0) (before : List Entry) (lawful : AreLawful who gives before) where
  abbrev now : Queries
  now = queries who before

  abbrev applied : ℕ → SysMsg → Option Answer → List Effect → Entry
  applied number m a effects = System number m (Applied a effects)

  when-fresh : (number : ℕ) (m : SysMsg) (a : Option Answer) (effects : List Effect) → phase_is (phase who before) Fresh ≡ true →
      moves (acts who before (applied number m a effects)) ≡ moves (fresh_acts who before m a effects)
  unfolding acts
  when-fresh number m a effects fresh =
      ap (λ b. moves (if b then fresh_acts who before m a effects else system_acts who before m a effects)) fresh

  when-not : (number : ℕ) (m : SysMsg) (a : Option Answer) (effects : List Effect) → phase_is (phase who before) Fresh ≡ false →
      moves (acts who before (applied number m a effects)) ≡ moves (system_acts who before m a effects)
  unfolding acts
  when-not number m a effects off_fresh =
      ap (λ b. moves (if b then fresh_acts who before m a effects else system_acts who before m a effects)) off_fresh

  -- of the guardian nothing is recorded that could fail
  no-answer : (number : ℕ) (m : SysMsg) (a : Option Answer) (effects : List Effect) → is_guardian who ≡ true →
      IsGiven who gives before (call_of who before (applied number m a effects)) a effects → a ≡ None
  no-answer number m a effects guardian given =
      let silent : call_of who before (applied number m a effects) ≡ None = if_true _ _ _ guardian in
      let none : IsGiven who gives before None a effects = subst (λ call. IsGiven who gives before call a effects) silent given in
      none.0

  passes : (number : ℕ) (m : SysMsg) (a : Option Answer) (effects : List Effect) → tests_of who now (applied number m a effects) ≡ none_passed →
      moves (acts who before (applied number m a effects)) ≡ [] → IsMoved who before (applied number m a effects)
  passes number m a effects tests none = record { t = none_passed; tests = tests; one = one-none; moved = none }

  no-end : (phase_is (phase who before) Ending && false) ≡ false
  no-end = and-false (phase_is (phase who before) Ending)

  -- what neither begins nor begins again does not fail by its answer
  answers-not : (a : Option Answer) (begins : Bool) → begins ≡ false → ((begins && is_failed a) || (is_nobody (failed who before) && false)) ≡ false
  answers-not a begins none = (λ i. (none i && is_failed a) || (is_nobody (failed who before) && false)) ∙ fails-not now

  -- a Terminate that is the first one
  of-ending : (number : ℕ) (a : Option Answer) (effects : List Effect) → has_ending before ≡ false →
      moves (acts who before (applied number system.Terminate a effects)) ≡ moves (terminate_acts who before effects) →
      IsMoved who before (applied number system.Terminate a effects)
  of-ending number a effects first is = by_children (is_empty (children who before)) refl
    where
      by_children : (b : Bool) → is_empty (children who before) ≡ b → IsMoved who before (applied number system.Terminate a effects)
      by_children true empty = record {
        t = record none_passed { ending = true; last = true };
        tests = ended-tests who now number a effects first empty;
        one = one-ended;
        moved = is ∙ moves-terminate who before effects ∙ if_true (is_empty (children who before)) (CloseSelf ∷ []) (SuspendSelf ∷ []) empty;
      }
      by_children false some = record {
        t = record none_passed { ending = true };
        tests = ending-tests who now number a effects first some;
        one = one-ending;
        moved = is ∙ moves-terminate who before effects ∙ if_false (is_empty (children who before)) (CloseSelf ∷ []) (SuspendSelf ∷ []) some;
      }

  -- a message to an actor that is Fresh
  of-fresh : (number : ℕ) (m : SysMsg) (a : Option Answer) (effects : List Effect) → phase who before ≡ Fresh →
      IsGiven who gives before (call_of who before (applied number m a effects)) a effects → IsMoved who before (applied number m a effects)
  of-fresh number system.Create a effects fresh given = record {
    t = record none_passed { start = true; failure = is_failed a };
    tests =
        tests-are who now (applied number system.Create a effects) (record none_passed { start = true; failure = is_failed a })
        (ap not (not_started who before fresh)) refl refl no-end
        (fails-as_answered now (not (has_start before) || false) (is_failed a) (ap (λ s. not s || false)
        (not_started who before fresh))) refl refl refl;
    one = one-started (is_failed a);
    moved =
        when-fresh number system.Create a effects (ap (λ p. phase_is p Fresh) fresh)
        ∙ moves-create who before a effects (λ guardian. ap is_failed (no-answer number system.Create a effects guardian given))
        (nobody-fresh who gives before lawful fresh)
        ∙ marks-started (is_failed a);
  }
  of-fresh number (system.Recreate c) a effects fresh given =
      passes number (system.Recreate c) a effects
      (tests-are who now (applied number (system.Recreate c) a effects) none_passed refl refl no_restart no-end
      (answers-not a (restarts who now (applied number (system.Recreate c) a effects)) no_restart) refl refl refl)
      (when-fresh number (system.Recreate c) a effects (ap (λ p. phase_is p Fresh) fresh))
    where
      no_restart : restarts who now (applied number (system.Recreate c) a effects) ≡ false
      no_restart = ap (λ p. not (phase_is p Fresh) && not (is_guardian who)) fresh
  of-fresh number system.Suspend a effects fresh given =
      passes number system.Suspend a effects
      (tests-are who now (applied number system.Suspend a effects) none_passed refl refl refl no-end (fails-not now)
      (ap (λ p. not (phase_is p Fresh)) fresh) refl refl)
      (when-fresh number system.Suspend a effects (ap (λ p. phase_is p Fresh) fresh))
  of-fresh number (system.Resume f) a effects fresh given =
      passes number (system.Resume f) a effects
      (tests-are who now (applied number (system.Resume f) a effects) none_passed refl refl no_restart no-end
      (answers-not a (restarts who now (applied number (system.Resume f) a effects)) no_restart) refl
      (ap (λ p. not (phase_is p Fresh)) fresh)
      (ap (λ p. (is_resume_of_failure (system.Resume f) && true) && phase_is p Live) fresh
      ∙ and-false (is_resume_of_failure (system.Resume f) && true)))
      (when-fresh number (system.Resume f) a effects (ap (λ p. phase_is p Fresh) fresh))
    where
      no_restart : restarts who now (applied number (system.Resume f) a effects) ≡ false
      no_restart = ap (λ p. phase_is p Broken && not (phase_is p Fresh) && not (is_guardian who)) fresh
  of-fresh number (system.Failed x c) a effects fresh given =
      passes number (system.Failed x c) a effects
      (tests-are who now (applied number (system.Failed x c) a effects) none_passed refl refl refl no-end
      ((λ i. is_nobody (failed who before) && (has (childless i) x && is_escalate (directive_of who c))) ∙ and-false (is_nobody (failed who before)))
      refl refl refl)
      (when-fresh number (system.Failed x c) a effects (ap (λ p. phase_is p Fresh) fresh))
    where
      childless : children who before ≡ []
      childless = (unstarted who gives before lawful (not_started who before fresh)).no_children
  of-fresh number system.Terminate a effects fresh given =
      of-ending number a effects (not_ending-fresh who before fresh) (when-fresh number system.Terminate a effects (ap
      (λ p. phase_is p Fresh) fresh))
  of-fresh number (system.Watch w) a effects fresh given =
      passes number (system.Watch w) a effects
      (tests-are who now (applied number (system.Watch w) a effects) none_passed refl refl refl no-end (fails-not now) refl refl refl)
      (when-fresh number (system.Watch w) a effects (ap (λ p. phase_is p Fresh) fresh))
  of-fresh number (system.Unwatch w) a effects fresh given =
      passes number (system.Unwatch w) a effects
      (tests-are who now (applied number (system.Unwatch w) a effects) none_passed refl refl refl no-end (fails-not now) refl refl refl)
      (when-fresh number (system.Unwatch w) a effects (ap (λ p. phase_is p Fresh) fresh))
  of-fresh number (system.Died x) a effects fresh given =
      passes number (system.Died x) a effects
      (died-tests who now number x a effects false (ap (λ p. phase_is p Ending && is_alone (children who before) x) fresh))
      (when-fresh number (system.Died x) a effects (ap (λ p. phase_is p Fresh) fresh))

  -- a message that waits for the end is applied to no actor that is Ending
  waits : (number : ℕ) (m : SysMsg) (outcome : Outcome) → IsSystem who before number m outcome → phase who before ≡ Ending → waits_for_the_end m
      ≡ true →
      is_applied outcome ≡ false
  waits number m outcome due ending waiting =
      due.by_rule
      ∙ (λ i. not ((phase_is (ending i) Ending && waiting i)
      || (is_child_failure m && not (phase_is (phase who before) Fresh) && nat_lt 0 (count who before))))

  -- a Resume, by where the actor stands
  of-resume : (number : ℕ) (f : Bool) (a : Option Answer) (effects : List Effect) →
      IsSystem who before number (system.Resume f) (Applied a effects) →
      phase_is (phase who before) Fresh ≡ false → (p : Phase) → phase who before ≡ p →
      IsMoved who before (applied number (system.Resume f) a effects)
  of-resume number f a effects due off_fresh Fresh is = absurd (let no : phase_is Fresh Fresh ≡ false = ap (λ p. phase_is p Fresh) (sym is)
      ∙ off_fresh in cc no)
  of-resume number f a effects due off_fresh Ended is =
      absurd (let no : phase_is Ended Ended ≡ false = ap (λ p. phase_is p Ended) (sym is) ∙ due.not_ended in cc no)
  of-resume number f a effects due off_fresh Ending is =
      absurd (let no : true ≡ false = waits number (system.Resume f) (Applied a effects) due is refl in cc no)
  of-resume number f a effects due off_fresh Live is = record {
    t = record none_passed { resume = true; resume_of_failure = f };
    tests =
        tests-are who now (applied number (system.Resume f) a effects)
        (record none_passed { resume = true; resume_of_failure = f }) refl refl no_restart
        no-end (answers-not a (restarts who now (applied number (system.Resume f) a effects)) no_restart) refl (ap (λ p. not (phase_is p Fresh)) is)
        (ap (λ p. (is_resume_of_failure (system.Resume f) && true) && phase_is p Live) is ∙ for_failure f);
    one = one-resume f;
    moved =
        when-not number (system.Resume f) a effects off_fresh
        ∙ ap (λ p. moves (if phase_is p Live then resume_acts who before f
        else (if phase_is p Broken && not (is_guardian who) then restart_acts who before cause.Init a effects else []))) is
        ∙ ap (λ l. ResumeSelf ∷ l) (moves-to_some (λ x. system.Resume (f && is_child (failed who before) x)) (children who before));
  }
    where
      no_restart : restarts who now (applied number (system.Resume f) a effects) ≡ false
      no_restart = ap (λ p. phase_is p Broken && not (phase_is p Fresh) && not (is_guardian who)) is

      for_failure : (f : Bool) → ((is_resume_of_failure (system.Resume f) && true) && true) ≡ f
      for_failure true = refl
      for_failure false = refl
  of-resume number f a effects due off_fresh Broken is = record {
    t = record none_passed { restart = true; failure = is_failed a; resume = true };
    tests =
        tests-are who now (applied number (system.Resume f) a effects) (record none_passed { restart = true; failure = is_failed a; resume = true })
        refl refl a_restart no-end
        (fails-as_answered now (restarts who now (applied number (system.Resume f) a effects)) (is_failed a) a_restart) refl
        (ap (λ p. not (phase_is p Fresh)) is)
        (ap (λ p. (is_resume_of_failure (system.Resume f) && true) && phase_is p Live) is
        ∙ and-false (is_resume_of_failure (system.Resume f) && true));
    one = one-restarted true (is_failed a);
    moved =
        when-not number (system.Resume f) a effects off_fresh
        ∙ (λ i. moves (if phase_is (is i) Live then resume_acts who before f
        else (if phase_is (is i) Broken && not (an_actor i) then restart_acts who before cause.Init a effects else [])))
        ∙ moves-restart who before cause.Init a effects
        ∙ marks-restarted true (is_failed a);
  }
    where
      an_actor : is_guardian who ≡ false
      an_actor = broken-actor who gives before lawful is

      a_restart : restarts who now (applied number (system.Resume f) a effects) ≡ true
      a_restart = λ i. phase_is (is i) Broken && not (phase_is (is i) Fresh) && not (an_actor i)

  -- a Recreate, of the guardian and of another
  of-recreate : (number : ℕ) (c : Cause) (a : Option Answer) (effects : List Effect) → phase_is (phase who before) Fresh ≡ false →
      (b : Bool) → is_guardian who ≡ b → IsMoved who before (applied number (system.Recreate c) a effects)
  of-recreate number c a effects off_fresh true guardian =
      passes number (system.Recreate c) a effects
      (tests-are who now (applied number (system.Recreate c) a effects) none_passed refl refl no_restart no-end
      (answers-not a (restarts who now (applied number (system.Recreate c) a effects)) no_restart) refl refl refl)
      (when-not number (system.Recreate c) a effects off_fresh ∙ ap (λ b. moves (if b then [] else restart_acts who before c a effects)) guardian)
    where
      no_restart : restarts who now (applied number (system.Recreate c) a effects) ≡ false
      no_restart = (λ i. not (phase_is (phase who before) Fresh) && not (guardian i)) ∙ and-false (not (phase_is (phase who before) Fresh))
  of-recreate number c a effects off_fresh false an_actor = record {
    t = record none_passed { restart = true; failure = is_failed a };
    tests =
        tests-are who now (applied number (system.Recreate c) a effects)
        (record none_passed { restart = true; failure = is_failed a }) refl refl a_restart
        no-end (fails-as_answered now (restarts who now (applied number (system.Recreate c) a effects)) (is_failed a) a_restart) refl refl refl;
    one = one-restarted false (is_failed a);
    moved =
        when-not number (system.Recreate c) a effects off_fresh
        ∙ ap (λ b. moves (if b then [] else restart_acts who before c a effects)) an_actor
        ∙ moves-restart who before c a effects
        ∙ marks-restarted false (is_failed a);
  }
    where
      a_restart : restarts who now (applied number (system.Recreate c) a effects) ≡ true
      a_restart = λ i. not (off_fresh i) && not (an_actor i)

  -- a Terminate, by where the actor stands
  of-terminate : (number : ℕ) (a : Option Answer) (effects : List Effect) → closed who before ≡ false → phase_is (phase who before) Fresh ≡ false →
      (p : Phase) → phase who before ≡ p → IsMoved who before (applied number system.Terminate a effects)
  of-terminate number a effects not_ended off_fresh Fresh is = absurd (let no : phase_is Fresh Fresh ≡ false = ap (λ p. phase_is p Fresh) (sym is)
      ∙ off_fresh in cc no)
  of-terminate number a effects not_ended off_fresh Ended is = absurd (let no : phase_is Ended Ended ≡ false = ap (λ p. phase_is p Ended) (sym is)
      ∙ not_ended in cc no)
  of-terminate number a effects not_ended off_fresh Ending is =
      passes number system.Terminate a effects (ending_again-tests who now number a effects ended)
      (when-not number system.Terminate a effects off_fresh ∙ ap (λ p. moves (if phase_is p Ending then []
      else terminate_acts who before effects)) is)
    where
      ended : has_ending before ≡ true
      ended = rw is at (agrees who before).1
  of-terminate number a effects not_ended off_fresh Live is =
      of-ending number a effects (not_ending-live who before is)
      (when-not number system.Terminate a effects off_fresh ∙ ap (λ p. moves (if phase_is p Ending then []
      else terminate_acts who before effects)) is)
  of-terminate number a effects not_ended off_fresh Broken is =
      of-ending number a effects (not_ending-broken who before is)
      (when-not number system.Terminate a effects off_fresh ∙ ap (λ p. moves (if phase_is p Ending then []
      else terminate_acts who before effects)) is)

  -- a Failed, which is passed up or not
  of-failed : (number : ℕ) (x : ActorId) (c : Cause) (a : Option Answer) (effects : List Effect) → phase_is (phase who before) Fresh ≡ false →
      (b : Bool) →
      (is_nobody (failed who before) && (has (children who before) x && is_escalate (directive_of who c))) ≡ b →
      IsMoved who before (applied number (system.Failed x c) a effects)
  of-failed number x c a effects off_fresh b up = record {
    t = record none_passed { failure = b };
    tests = tests-are who now (applied number (system.Failed x c) a effects)
        (record none_passed { failure = b }) refl refl refl no-end up refl refl refl;
    one = one-failure b;
    moved = when-not number (system.Failed x c) a effects off_fresh ∙ moves-failed who before x c ∙ ap suspend_if up ∙ marks-failure b;
  }

  -- a message to an actor that was started
  of-started : (number : ℕ) (m : SysMsg) (a : Option Answer) (effects : List Effect) → IsSystem who before number m (Applied a effects) →
      phase_is (phase who before) Fresh ≡ false → IsMoved who before (applied number m a effects)
  of-started number system.Create a effects due off_fresh =
      passes number system.Create a effects
      (tests-are who now (applied number system.Create a effects) none_passed (ap not started) refl refl no-end
      (answers-not a (not (has_start before) || false) (ap (λ s. not s || false) started)) refl refl refl)
      (when-not number system.Create a effects off_fresh)
    where
      started : has_start before ≡ true
      started = started-once who gives before lawful off_fresh due.not_ended
  of-started number (system.Recreate c) a effects due off_fresh = of-recreate number c a effects off_fresh (is_guardian who) refl
  of-started number system.Suspend a effects due off_fresh = record {
    t = record none_passed { suspend = true };
    tests =
        tests-are who now (applied number system.Suspend a effects) (record none_passed { suspend = true }) refl refl refl no-end (fails-not now)
        (ap not off_fresh) refl refl;
    one = one-suspend;
    moved = when-not number system.Suspend a effects off_fresh ∙ ap (λ l. SuspendSelf ∷ l) (moves-to_each system.Suspend (children who before));
  }
  of-started number (system.Resume f) a effects due off_fresh = of-resume number f a effects due off_fresh (phase who before) refl
  of-started number (system.Failed x c) a effects due off_fresh =
      of-failed number x c a effects off_fresh (is_nobody (failed who before) && (has (children who before) x && is_escalate
      (directive_of who c))) refl
  of-started number system.Terminate a effects due off_fresh = of-terminate number a effects due.not_ended off_fresh (phase who before) refl
  of-started number (system.Watch w) a effects due off_fresh =
      passes number (system.Watch w) a effects
      (tests-are who now (applied number (system.Watch w) a effects) none_passed refl refl refl no-end (fails-not now) refl refl refl)
      (when-not number (system.Watch w) a effects off_fresh)
  of-started number (system.Unwatch w) a effects due off_fresh =
      passes number (system.Unwatch w) a effects
      (tests-are who now (applied number (system.Unwatch w) a effects) none_passed refl refl refl no-end (fails-not now) refl refl refl)
      (when-not number (system.Unwatch w) a effects off_fresh)
  of-started number (system.Died x) a effects due off_fresh = record {
    t = record none_passed { last = phase_is (phase who before) Ending && is_alone (children who before) x };
    tests = died-tests who now number x a effects (phase_is (phase who before) Ending && is_alone (children who before) x) refl;
    one = one-last (phase_is (phase who before) Ending && is_alone (children who before) x);
    moved =
        when-not number (system.Died x) a effects off_fresh
        ∙ moves-died who before x effects
        ∙ marks-last (phase_is (phase who before) Ending && is_alone (children who before) x);
  }

  is-moved : (e : Entry) → IsLawfulEntry who gives before e → IsMoved who before e
  unfolding acts
  is-moved (Handled envelope reading (Applied a effects)) due = record {
    t = record none_passed { failure = is_nobody (failed who before) && is_some (failure_of envelope.body a) };
    tests = handled-tests who now envelope reading a effects (is_nobody (failed who before) && is_some (failure_of envelope.body a)) refl;
    one = one-failure (is_nobody (failed who before) && is_some (failure_of envelope.body a));
    moved =
        moves-body who before gives envelope.body a effects due.given
        ∙ marks-failure (is_nobody (failed who before) && is_some (failure_of envelope.body a));
  }
  is-moved (Handled envelope reading SetAside) due = absurd due
  is-moved (Dropped envelope) due = record { t = none_passed; tests = dropped-tests who now envelope; one = one-none; moved = refl }
  is-moved (System number m SetAside) due = record { t = none_passed; tests = set_aside-tests who now number m; one = one-none; moved = refl }
  is-moved (System number m (Applied a effects)) due = by_phase (phase_is (phase who before) Fresh) refl
    where
      by_phase : (b : Bool) → phase_is (phase who before) Fresh ≡ b → IsMoved who before (applied number m a effects)
      by_phase true fresh = of-fresh number m a effects (is_fresh (phase who before) fresh) due.1
      by_phase false off_fresh = of-started number m a effects due.0 off_fresh

-- ---- the mailbox

-- the actor has ended exactly with its last entry
pub closed-by : (p : Phase) (last ending begins failing : Bool) → phase_is p Ended ≡ false →
    phase_is (if phase_is p Ended || last then Ended
    else (if phase_is p Ending || ending then Ending else (if begins then (if failing then Broken else Live) else p))) Ended ≡ last
closed-by Ended last ending begins failing not_ended = absurd (cc not_ended)
closed-by Fresh true ending begins failing not_ended = refl
closed-by Live true ending begins failing not_ended = refl
closed-by Broken true ending begins failing not_ended = refl
closed-by Ending true ending begins failing not_ended = refl
closed-by Ending false ending begins failing not_ended = refl
closed-by Fresh false true begins failing not_ended = refl
closed-by Live false true begins failing not_ended = refl
closed-by Broken false true begins failing not_ended = refl
closed-by Fresh false false true true not_ended = refl
closed-by Fresh false false true false not_ended = refl
closed-by Live false false true true not_ended = refl
closed-by Live false false true false not_ended = refl
closed-by Broken false false true true not_ended = refl
closed-by Broken false false true false not_ended = refl
closed-by Fresh false false false failing not_ended = refl
closed-by Live false false false failing not_ended = refl
closed-by Broken false false false failing not_ended = refl

-- the count, of an actor that did not end, and of one that did
count-not_ended : (who : Identity) (journal : List Entry) → closed who journal ≡ false → count who journal ≡ count_after (marks who journal)
unfolding count
count-not_ended who journal not_ended = if_false (closed who journal) 0 (count_after (marks who journal)) not_ended

pub count-closed : (who : Identity) (journal : List Entry) → closed who journal ≡ true → count who journal ≡ 0
unfolding count
count-closed who journal ended = if_true (closed who journal) 0 (count_after (marks who journal)) ended

module _ (who : Identity) (before : List Entry) (e : Entry) (m : Mailbox) (not_ended : closed who before ≡ false) (same : idle m
    ≡ mailbox_at who before)
    (moved : IsMoved who before e) where
  was_open : m.closed ≡ false
  was_open = ap (λ (x : Mailbox). x.closed) same ∙ not_ended

  was_marked : m.count ≡ count_after (marks who before)
  was_marked = ap (λ (x : Mailbox). x.count) same ∙ count-not_ended who before not_ended

  last-is : lasts (queries who before) e ≡ moved.t.last
  last-is = ap (λ (t : Tests). t.last) moved.tests

  closed-is : closed who (e ∷ before) ≡ moved.t.last
  closed-is =
      ap (λ (q : Queries). phase_is q.phase Ended) (queries-fold who before e)
      ∙ closed-by (phase who before) (lasts (queries who before) e) (ends (queries who before) e)
      (starts (queries who before) e || restarts who (queries who before) e) (answered_failed e) not_ended
      ∙ last-is

  marked-is : count_after (marks who (e ∷ before)) ≡ running m.count (marks_by moved.t)
  marked-is =
      marked-fold who before e
      ∙ (λ i. running (sym was_marked i) (marks_by (moved.tests i)))

  ends-so : (b : Bool) → moved.t.last ≡ b → idle (mailbox_after m (acts who before e)) ≡ mailbox_at who (e ∷ before)
  ends-so true last =
      ap idle (after-moves m (acts who before e))
      ∙ ap (λ l. idle (mailbox_after m l)) (moved.moved ∙ if_true moved.t.last (CloseSelf ∷ []) (map act_for (marks_by moved.t)) last)
      ∙ (λ i. record { closed = sym (closed-is ∙ last) i; scheduled = false; count = sym (count-closed who (e ∷ before) (closed-is ∙ last)) i })
  ends-so false others =
      ap idle (after-moves m (acts who before e))
      ∙ ap (λ l. idle (mailbox_after m l)) (moved.moved ∙ if_false moved.t.last (CloseSelf ∷ []) (map act_for (marks_by moved.t)) others)
      ∙ ap idle (after-marks m was_open (marks_by moved.t))
      ∙ (λ i. record {
        closed = (was_open ∙ sym (closed-is ∙ others)) i;
        scheduled = false;
        count = sym (count-not_ended who (e ∷ before) (closed-is ∙ others) ∙ marked-is) i;
      })

  counts-so : m.count < most_suspensions → (b : Bool) → moved.t.last ≡ b → CountsEach m (acts who before e)
  counts-so few true last =
      counts-moves m (acts who before e)
      (subst (λ l. CountsEach m l) (sym (moved.moved ∙ if_true moved.t.last (CloseSelf ∷ []) (map act_for (marks_by moved.t)) last)) tt)
  counts-so few false others =
      counts-moves m (acts who before e)
      (subst (λ l. CountsEach m l) (sym (moved.moved ∙ if_false moved.t.last (CloseSelf ∷ []) (map act_for (marks_by moved.t)) others))
      (counts-marks m was_open (marks_by moved.t) (omega (arith, few, moved.one))))

-- an entry comes to no actor that has ended
pub entry-not_ended : (who : Identity) (gives : Moment → Reply → Type 0) (before : List Entry) (e : Entry) → IsLawfulEntry who gives before e →
    closed who before ≡ false
entry-not_ended who gives before (Handled envelope reading (Applied a effects)) due = ap (λ p. phase_is p Ended) due.live
entry-not_ended who gives before (Handled envelope reading SetAside) due = absurd due
entry-not_ended who gives before (Dropped envelope) due = ap (λ p. phase_is p Ended) due.live
entry-not_ended who gives before (System number m (Applied a effects)) due = due.0.not_ended
entry-not_ended who gives before (System number m SetAside) due = due.not_ended

-- carrying out the acts of an entry leads from the mailbox before it to the mailbox with it
pub acts-lead : (who : Identity) (gives : Moment → Reply → Type 0) (before : List Entry) (e : Entry) (m : Mailbox) →
    IsLawful who gives (e ∷ before) →
    who.limit ≤ most_entries → idle m ≡ mailbox_at who before → Leads m (acts who before e) (mailbox_at who (e ∷ before))
unfolding AreLawful
acts-lead who gives before e m lawful small same =
    let not_ended : closed who before ≡ false = entry-not_ended who gives before e lawful.entries.0 in
    let moved : IsMoved who before e = is-moved who gives before lawful.entries.1 e lawful.entries.0 in
    let few : m.count < most_suspensions =
    omega (arith, ap (λ (x : Mailbox). x.count) same, count-few who before, lawful.within_limit, small) in
    record {
      ends = ends-so who before e m not_ended same moved moved.t.last refl;
      counts = counts-so who before e m not_ended same moved few moved.t.last refl;
    }
