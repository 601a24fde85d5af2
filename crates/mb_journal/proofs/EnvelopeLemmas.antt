-- What a handled envelope makes of each query.
use Rattle.std.proofs.Common.{◌≡◌, ℕ, ◌+◌, ℤ, List, [], ◌∷◌, ◌++◌, Bool, true, false, refl, ap, ◌∙◌}
use Rattle.std.specs.Prelude.{◌&&◌, Option, Some, None, is_some}
use Rattle.std.proofs.lemmas.List.{append-nil}
use Rattle.mb_msg.specs.declared.envelope.Body.TheVariants as body
use Rattle.mb_msg.specs.declared.envelope.Envelope.{Envelope}
use Rattle.mb_msg.specs.declared.supervision.Cause.TheVariants as cause
use Rattle.mb_msg.specs.declared.system.SysMsg.TheVariants as system
use Rattle.mb_actor.specs.declared.answer.Answer.{Answer}
use Rattle.mb_actor.specs.declared.answer.Answer.TheVariants as answer
use Rattle.mb_actor.specs.declared.effect.Effect.{Effect}
use Rattle.mb_journal.specs.Acts.{acts, effect_acts, failure_acts, envelope_acts, to_each, report}
use Rattle.mb_journal.specs.Acts.Act.{SuspendSelf}
use Rattle.mb_journal.specs.Aside.{ever_aside, next_number}
use Rattle.mb_actor.specs.OutboxView.{spawns_of}
use Rattle.mb_journal.specs.Entry.{Entry, is_failed}
use Rattle.mb_journal.specs.Entry.Entry.{Handled}
use Rattle.mb_journal.specs.Entry.Outcome.{Applied}
use Rattle.mb_journal.specs.Failure.{failed, is_failure, is_nobody, failure_of}
use Rattle.mb_journal.specs.declared.failed_by.FailedBy.TheVariants.{Nobody, Itself}
use Rattle.mb_journal.specs.Identity.{Identity, is_guardian}
use Rattle.mb_journal.specs.Incarnation.{messages, body_messages}
use Rattle.mb_journal.specs.Life.{children, phase, closed, has_start, has_ending, is_empty}
use Rattle.mb_journal.specs.Phase.{phase_is}
use Rattle.mb_journal.specs.Suspension.{count}
use Rattle.mb_journal.specs.Watching.{watchers, watching, watching_after, due, due_after, after_told}
use Rattle.mb_actor.specs.declared.phase.Phase.{Phase}
use Rattle.mb_actor.specs.declared.phase.Phase.TheVariants.{Fresh, Live, Broken, Ending, Ended}
use Rattle.mb_journal.proofs.TestLemmas.{and-false, or-false, if_true, if_false, none_excepted}
use Rattle.mb_journal.proofs.PhaseLemmas.{phase_by}
use Rattle.mb_journal.proofs.QueryLemmas.{count-same, count-plus, failed-failure, failed-same, messages-more, children-more, marks-by}

-- a message of the user's makes the actor fail only by its answer
pub failure_of-user : (kind : ℕ) (value : ℤ) (a : Option Answer) → is_failed a ≡ false → failure_of (body.User kind value) a ≡ None
failure_of-user kind value None well = refl
failure_of-user kind value (Some answer.Handled) well = refl
failure_of-user kind value (Some answer.Unhandled) well = refl
failure_of-user kind value (Some (answer.Failed n)) well = cc

module _ (who : Identity) (before : List Entry) (envelope : Envelope) (reading : ℕ) (a : Option Answer) (effects : List Effect) where
  abbrev pub the_entry : Entry
  the_entry = Handled envelope reading (Applied a effects)

  pub phase-handled : phase who (the_entry ∷ before) ≡ phase who before
  unfolding phase
  phase-handled = by_phase (phase who before) (has_start before) (has_ending before) (is_failed a) (is_empty (children who before)) (is_guardian who)
    where
      by_phase : (p : Phase) (started ended badly childless guardian : Bool) →
          phase_by p started ended false false badly childless false false guardian ≡ p
      by_phase Fresh started ended badly childless guardian = refl
      by_phase Live started ended badly childless guardian = refl
      by_phase Broken started ended badly childless guardian = refl
      by_phase Ending started ended badly childless guardian = refl
      by_phase Ended started ended badly childless guardian = refl

  pub messages-handled : messages who (the_entry ∷ before) ≡ messages who before ++ body_messages envelope.body
  messages-handled = messages-more who the_entry before refl

  fails_by_it : is_failure who the_entry before ≡ (is_nobody (failed who before) && is_some (failure_of envelope.body a))
  fails_by_it = ap (λ b. is_nobody (failed who before) && b) (or-false (is_some (failure_of envelope.body a)))

  fails_not : is_some (failure_of envelope.body a) ≡ false → is_failure who the_entry before ≡ false
  fails_not well = fails_by_it ∙ (ap (λ b. is_nobody (failed who before) && b) well ∙ and-false (is_nobody (failed who before)))

  fails_no_more : is_nobody (failed who before) ≡ false → is_failure who the_entry before ≡ false
  fails_no_more already = fails_by_it ∙ ap (λ b. b && is_some (failure_of envelope.body a)) already

  fails : failed who before ≡ Nobody → is_some (failure_of envelope.body a) ≡ true → is_failure who the_entry before ≡ true
  fails nobody badly = fails_by_it ∙ (λ i. is_nobody (nobody i) && badly i)

  -- an envelope that is no failure changes neither who made the actor fail nor the count
  pub failed-handled : is_some (failure_of envelope.body a) ≡ false → failed who (the_entry ∷ before) ≡ failed who before
  failed-handled well = failed-same who the_entry before (fails_not well) refl refl refl

  pub failed-handled_already : is_nobody (failed who before) ≡ false → failed who (the_entry ∷ before) ≡ failed who before
  failed-handled_already already = failed-same who the_entry before (fails_no_more already) refl refl refl

  -- the actor itself is who made it fail
  pub failed-handled_failed : failed who before ≡ Nobody → is_some (failure_of envelope.body a) ≡ true → failed who (the_entry ∷ before) ≡ Itself
  failed-handled_failed nobody badly = failed-failure who the_entry before (fails nobody badly)

  still_open : closed who before ≡ false → closed who (the_entry ∷ before) ≡ false
  still_open open_before = ap (λ p. phase_is p Ended) phase-handled ∙ open_before

  pub count-handled : closed who before ≡ false → is_some (failure_of envelope.body a) ≡ false → count who (the_entry ∷ before) ≡ count who before
  count-handled open_before well =
      count-same who the_entry before open_before (still_open open_before)
      (marks-by who the_entry before false false false false false false refl refl refl refl (fails_not well) refl)

  pub count-handled_already : closed who before ≡ false → is_nobody (failed who before) ≡ false → count who (the_entry ∷ before) ≡ count who before
  count-handled_already open_before already =
      count-same who the_entry before open_before (still_open open_before)
      (marks-by who the_entry before false false false false false false refl refl refl refl (fails_no_more already) refl)

  -- and suspends the mailbox once more
  pub count-handled_failed : closed who before ≡ false → failed who before ≡ Nobody → is_some (failure_of envelope.body a) ≡ true →
      count who (the_entry ∷ before) ≡ count who before + 1
  count-handled_failed open_before nobody badly =
      count-plus who the_entry before open_before (still_open open_before)
      (marks-by who the_entry before false false false false true false refl refl refl refl (fails nobody badly) refl)

  pub watchers-handled : watchers (the_entry ∷ before) ≡ watchers before
  unfolding watchers
  watchers-handled = refl

  pub watching-handled : watching who (the_entry ∷ before) ≡ watching_after who.this (watching who before) effects
  unfolding watching
  watching-handled = refl

  pub children-handled : is_guardian who ≡ false → children who (the_entry ∷ before) ≡ children who before ++ spawns_of effects
  children-handled an_actor = children-more who the_entry before an_actor

  pub ever_aside-handled : ever_aside (the_entry ∷ before) ≡ ever_aside before
  unfolding ever_aside
  ever_aside-handled = refl

  pub next_number-handled : next_number (the_entry ∷ before) ≡ next_number before
  unfolding next_number
  next_number-handled = refl

  -- ---- a message of the user's

  pub due-user : (kind : ℕ) (value : ℤ) → envelope.body ≡ body.User kind value → due who (the_entry ∷ before) ≡ due_after (due who before) effects
  unfolding due
  due-user kind value is_user =
      ap (λ b. due_after (after_told (Handled (record envelope { body = b }) reading (Applied a effects)) (due who before)) effects) is_user

  pub acts-user : (kind : ℕ) (value : ℤ) → envelope.body ≡ body.User kind value → acts who before the_entry
      ≡ effect_acts who.this (watching who before) effects ++ failure_acts who before (failure_of (body.User kind value) a) effects
  unfolding acts
  acts-user kind value is_user = ap (λ b. envelope_acts who before b a effects) is_user

-- the acts of a message of the user's that asks for no effects, as it is answered
pub acts-user-well : (who : Identity) (before : List Entry) (envelope : Envelope) (reading : ℕ) (a : Option Answer) (kind : ℕ) (value : ℤ) →
    envelope.body ≡ body.User kind value → is_failed a ≡ false → acts who before (Handled envelope reading (Applied a [])) ≡ []
unfolding effect_acts
acts-user-well who before envelope reading a kind value is_user well =
    acts-user who before envelope reading a [] kind value is_user
    ∙ ap (λ c. failure_acts who before c []) (failure_of-user kind value a well)

pub acts-user-failed : (who : Identity) (before : List Entry) (envelope : Envelope) (reading n : ℕ) (kind : ℕ) (value : ℤ) →
    envelope.body ≡ body.User kind value → failed who before ≡ Nobody →
    acts who before (Handled envelope reading (Applied (Some (answer.Failed n)) []))
    ≡ SuspendSelf ∷ to_each system.Suspend (children who before) ++ report who (cause.Error n) ∷ []
unfolding effect_acts
acts-user-failed who before envelope reading n kind value is_user nobody =
    acts-user who before envelope reading (Some (answer.Failed n)) [] kind value is_user
    ∙ (if_true _ _ _ (ap is_nobody nobody)
    ∙ ap (λ xs. SuspendSelf ∷ to_each system.Suspend xs ++ report who (cause.Error n) ∷ []) (none_excepted _ ∙ append-nil (children who before)))

pub acts-user-failed_already : (who : Identity) (before : List Entry) (envelope : Envelope) (reading n : ℕ) (kind : ℕ) (value : ℤ) →
    envelope.body ≡ body.User kind value → is_nobody (failed who before) ≡ false →
    acts who before (Handled envelope reading (Applied (Some (answer.Failed n)) [])) ≡ []
unfolding effect_acts
acts-user-failed_already who before envelope reading n kind value is_user already =
    acts-user who before envelope reading (Some (answer.Failed n)) [] kind value is_user ∙ if_false _ _ _ already
