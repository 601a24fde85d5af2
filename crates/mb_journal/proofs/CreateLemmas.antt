-- What a Create makes of each query: of an actor that was never started, and of one that was.
use Rattle.std.proofs.Common.{◌≡◌, ℕ, ◌+◌, ◌-◌, List, [], ◌∷◌, ◌++◌, Bool, true, false, refl, ap, ◌∙◌}
use Rattle.std.specs.Prelude.{not, ◌&&◌, ◌||◌, if◌then◌else◌, Some, None}
use Rattle.std.proofs.lemmas.List.{append-nil}
use Rattle.mb_msg.specs.declared.supervision.Cause.TheVariants as cause
use Rattle.mb_msg.specs.declared.system.SysMsg.TheVariants as system
use Rattle.mb_actor.specs.declared.call.Call.TheVariants.{Start}
use Rattle.mb_actor.specs.declared.answer.Answer.{Answer}
use Rattle.mb_actor.specs.declared.effect.Effect.{Effect}
use Rattle.mb_journal.specs.Acts.{acts, effect_acts, fail_acts, to_each, report}
use Rattle.mb_journal.specs.Acts.Act.{SuspendSelf, ResumeSelf}
use Rattle.mb_actor.specs.OutboxView.{spawns_of}
use Rattle.mb_journal.specs.Entry.{Entry, is_failed}
use Rattle.mb_journal.specs.Entry.Entry.{System}
use Rattle.mb_journal.specs.Entry.Outcome.{Applied}
use Rattle.mb_journal.specs.Failure.{failed, is_failure, is_nobody}
use Rattle.mb_journal.specs.declared.failed_by.FailedBy.TheVariants.{Nobody, Itself}
use Rattle.mb_journal.specs.Identity.{Identity, is_guardian}
use Rattle.mb_journal.specs.Incarnation.{messages}
use Rattle.mb_journal.specs.Aside.{sets_aside}
use Rattle.mb_journal.specs.Lawful.{call_of, was_live}
use Rattle.mb_journal.specs.Life.{children, phase, closed, has_start, has_ending, is_start, is_restart, is_beginning, is_empty}
use Rattle.mb_journal.specs.Phase.{phase_is}
use Rattle.mb_journal.specs.Suspension.{mark_if, marks_of, count}
use Rattle.mb_journal.specs.Suspension.Mark.{Plus, Minus}
use Rattle.mb_journal.specs.Watching.{watchers, watching, watching_after, due, due_after}
use Rattle.mb_actor.specs.declared.phase.Phase.{Phase}
use Rattle.mb_actor.specs.declared.phase.Phase.TheVariants.{Fresh, Live, Broken, Ending, Ended}
use Rattle.mb_journal.proofs.TestLemmas.{and-false, or-false, if_true, if_false, if_same, none_excepted}
use Rattle.mb_journal.proofs.PhaseLemmas.{phase_by, not_started}
use Rattle.mb_journal.proofs.QueryLemmas.{count-same, count-minus, count-minus-plus, failed-failure, failed-same, messages-beginning}
use Rattle.mb_journal.proofs.QueryLemmas.{messages-more, children-more, marks-by}

-- ---- the first Create, of an actor that is not the guardian

module _ (who : Identity) (before : List Entry) (number : ℕ) (a : Answer) (effects : List Effect) (fresh : phase who before ≡ Fresh) where
  abbrev the_start : Entry
  the_start = System number system.Create (Applied (Some a) effects)

  pub starts : is_start the_start before ≡ true
  starts = ap not (not_started who before fresh)

  pub phase-create : phase who (the_start ∷ before) ≡ (if is_failed (Some a) then Broken else Live)
  unfolding phase
  phase-create =
      λ i. phase_by (fresh i) (not_started who before fresh i) (has_ending before) true false (is_failed (Some a))
      (is_empty (children who before)) false false (is_guardian who)

  begins : is_beginning who the_start before ≡ true
  begins = ap (λ s. s || is_restart who the_start before) starts

  pub messages-create : messages who (the_start ∷ before) ≡ []
  messages-create = messages-beginning who the_start before begins

  fails : is_failure who the_start before ≡ is_failed (Some a)
  fails =
      ap (λ s. (s && is_failed (Some a)) || (is_nobody (failed who before) && false)) begins
      ∙ (ap (λ b. is_failed (Some a) || b) (and-false (is_nobody (failed who before))) ∙ or-false (is_failed (Some a)))

  pub failed-create : failed who (the_start ∷ before) ≡ (if is_failed (Some a) then Itself else failed who before)
  failed-create = by_answer (is_failed (Some a)) refl
    where
      by_answer : (b : Bool) → is_failed (Some a) ≡ b → failed who (the_start ∷ before) ≡ (if b then Itself else failed who before)
      by_answer true e = failed-failure who the_start before (fails ∙ e)
      by_answer false e = failed-same who the_start before (fails ∙ e) refl refl refl

  open_before : closed who before ≡ false
  open_before = ap (λ p. phase_is p Ended) fresh

  open_after : closed who (the_start ∷ before) ≡ false
  open_after = ap (λ p. phase_is p Ended) phase-create ∙ by_answer (is_failed (Some a))
    where
      by_answer : (b : Bool) → phase_is (if b then Broken else Live) Ended ≡ false
      by_answer true = refl
      by_answer false = refl

  -- the suspension that it began with is gone, and there is one more if it failed
  pub count-create : count who (the_start ∷ before) ≡ (if is_failed (Some a) then count who before - 1 + 1 else count who before - 1)
  count-create = by_answer (is_failed (Some a)) refl
    where
      marks_are : (b : Bool) → is_failed (Some a) ≡ b → marks_of who the_start before ≡ Minus ∷ mark_if b Plus
      marks_are b e = marks-by who the_start before true false false false b false starts refl refl refl (fails ∙ e) refl ∙ append-nil _

      by_answer : (b : Bool) → is_failed (Some a) ≡ b →
          count who (the_start ∷ before) ≡ (if b then count who before - 1 + 1 else count who before - 1)
      by_answer true e = count-minus-plus who the_start before open_before open_after (marks_are true e)
      by_answer false e = count-minus who the_start before open_before open_after (marks_are false e)

  pub watchers-create : watchers (the_start ∷ before) ≡ watchers before
  unfolding watchers
  watchers-create = refl

  pub watching-create : watching who (the_start ∷ before) ≡ watching_after who.this (watching who before) effects
  unfolding watching
  watching-create = refl

  pub due-create : due who (the_start ∷ before) ≡ due_after (due who before) effects
  unfolding due
  due-create = refl

  pub children-create : is_guardian who ≡ false → children who (the_start ∷ before) ≡ children who before ++ spawns_of effects
  children-create an_actor = children-more who the_start before an_actor

  pub call_of-create : is_guardian who ≡ false → call_of who before the_start ≡ Some Start
  call_of-create an_actor = if_false _ _ _ an_actor ∙ if_true _ _ _ starts

  pub acts-create : is_guardian who ≡ false → acts who before the_start
      ≡ ResumeSelf ∷ effect_acts who.this (watching who before) effects
      ++ (if is_failed (Some a) then fail_acts who (failed who before) (children who before ++ spawns_of effects) cause.Init [] else [])
  unfolding acts
  acts-create an_actor = if_true _ _ _ (ap (λ p. phase_is p Fresh) fresh) ∙ if_false _ _ _ an_actor

-- the acts of a start that asks for no effects, as it is answered
pub acts-create-well : (who : Identity) (before : List Entry) (number : ℕ) (a : Answer) → phase who before ≡ Fresh → is_guardian who ≡ false →
    is_failed (Some a) ≡ false → acts who before (System number system.Create (Applied (Some a) [])) ≡ ResumeSelf ∷ []
unfolding effect_acts
acts-create-well who before number a fresh an_actor well =
    acts-create who before number a [] fresh an_actor ∙ ap (λ xs. ResumeSelf ∷ xs) (if_false _ _ _ well)

pub acts-create-failed : (who : Identity) (before : List Entry) (number : ℕ) (a : Answer) → phase who before ≡ Fresh → is_guardian who ≡ false →
    is_failed (Some a) ≡ true → failed who before ≡ Nobody →
    acts who before (System number system.Create (Applied (Some a) []))
    ≡ ResumeSelf ∷ SuspendSelf ∷ to_each system.Suspend (children who before) ++ report who cause.Init ∷ []
unfolding effect_acts
acts-create-failed who before number a fresh an_actor badly nobody =
    acts-create who before number a [] fresh an_actor
    ∙ ap (λ xs. ResumeSelf ∷ xs)
    (if_true _ _ _ badly
    ∙ (if_true _ _ _ (ap is_nobody nobody)
    ∙ ap (λ xs. SuspendSelf ∷ to_each system.Suspend xs ++ report who cause.Init ∷ []) (none_excepted _ ∙ append-nil (children who before))))

-- ---- a Create of an actor that was started: it does nothing

module _ (who : Identity) (before : List Entry) (number : ℕ) (started : has_start before ≡ true) where
  abbrev pub the_other : Entry
  the_other = System number system.Create (Applied None [])

  pub starts_no_more : is_start the_other before ≡ false
  starts_no_more = ap not started

  pub phase-create_again : phase who (the_other ∷ before) ≡ phase who before
  unfolding phase
  phase-create_again =
      (λ i. phase_by (phase who before) (started i) (has_ending before) true false false
      (is_empty (children who before)) false false (is_guardian who))
      ∙ by_phase (phase who before) (has_ending before) (is_empty (children who before)) (is_guardian who)
    where
      by_phase : (p : Phase) (ended childless guardian : Bool) → phase_by p true ended true false false childless false false guardian ≡ p
      by_phase Fresh ended childless guardian = refl
      by_phase Live ended childless guardian = refl
      by_phase Broken ended childless guardian = refl
      by_phase Ending ended childless guardian = refl
      by_phase Ended ended childless guardian = refl

  pub messages-create_again : messages who (the_other ∷ before) ≡ messages who before
  messages-create_again =
      messages-more who the_other before (ap (λ s. s || is_restart who the_other before) starts_no_more) ∙ append-nil (messages who before)

  fails_not : is_failure who the_other before ≡ false
  fails_not =
      ap (λ s. ((s || is_restart who the_other before) && false) || (is_nobody (failed who before) && false)) starts_no_more
      ∙ and-false (is_nobody (failed who before))

  pub failed-create_again : failed who (the_other ∷ before) ≡ failed who before
  failed-create_again = failed-same who the_other before fails_not refl refl refl

  pub count-create_again : closed who before ≡ false → count who (the_other ∷ before) ≡ count who before
  count-create_again open_before =
      count-same who the_other before open_before (ap (λ p. phase_is p Ended) phase-create_again ∙ open_before)
      (marks-by who the_other before false false false false false false starts_no_more refl refl refl fails_not refl)

  pub watchers-create_again : watchers (the_other ∷ before) ≡ watchers before
  unfolding watchers
  watchers-create_again = refl

  pub watching-create_again : watching who (the_other ∷ before) ≡ watching who before
  unfolding watching
  watching-create_again = refl

  pub due-create_again : due who (the_other ∷ before) ≡ due who before
  unfolding due
  due-create_again = refl

  pub children-create_again : is_guardian who ≡ false → children who (the_other ∷ before) ≡ children who before
  children-create_again an_actor = children-more who the_other before an_actor ∙ append-nil (children who before)

  pub acts-create_again : phase_is (phase who before) Fresh ≡ false → acts who before the_other ≡ []
  unfolding acts
  acts-create_again not_fresh = if_false _ _ _ not_fresh

  pub call_of-create_again : call_of who before the_other ≡ None
  call_of-create_again =
      ap (λ call. if is_guardian who then None else call)
      (if_false _ _ _ starts_no_more
      ∙ if_false _ _ _ (ap (λ b. b && was_live who (the_other ∷ before)) (and-false (phase_is (phase who before) Ending))))
      ∙ if_same (is_guardian who) None

-- ---- both

-- a Create is never set aside
pub sets_aside-create : (who : Identity) (before : List Entry) → sets_aside who before system.Create ≡ false
sets_aside-create who before = ap (λ b. b || false) (and-false (phase_is (phase who before) Ending))
