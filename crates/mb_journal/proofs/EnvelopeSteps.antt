-- What an envelope makes of all queries: one that is handled, without and with a failure, and one that is dropped.
use Rattle.std.proofs.Common.{◌≡◌, ℕ, ◌+◌, List, [], ◌++◌, Bool, true, false, refl, ap, ◌∙◌}
use Rattle.std.specs.Prelude.{not, ◌&&◌, if◌then◌else◌, filter, is_some, Option}
use Rattle.std.proofs.lemmas.List.{append-nil}
use Rattle.mb_msg.specs.declared.envelope.Envelope.{Envelope}
use Rattle.mb_actor.specs.ActorList.{has}
use Rattle.mb_actor.specs.OutboxView.{spawns_of}
use Rattle.mb_actor.specs.declared.answer.Answer.{Answer}
use Rattle.mb_actor.specs.declared.effect.Effect.{Effect}
use Rattle.mb_actor.specs.declared.phase.Phase.TheVariants.{Live, Ending}
use Rattle.mb_journal.specs.Entry.{Entry}
use Rattle.mb_journal.specs.Entry.Entry.{Handled, Dropped}
use Rattle.mb_journal.specs.Entry.Outcome.{Applied}
use Rattle.mb_journal.specs.Failure.{is_nobody, failure_of}
use Rattle.mb_journal.specs.declared.failed_by.FailedBy.TheVariants.{Nobody, Itself}
use Rattle.mb_journal.specs.Identity.{Identity, is_guardian}
use Rattle.mb_journal.specs.Incarnation.{body_messages}
use Rattle.mb_journal.specs.Phase.{phase_is}
use Rattle.mb_journal.specs.Watching.{watching_after, due_after, after_told}
use Rattle.mb_journal.proofs.Fold.{Queries, next_queries}
use Rattle.mb_journal.proofs.Steps.{tests_of, step-tests, tests-are, none_passed, fails-not, phase-still, no_child}
use Rattle.mb_journal.proofs.TestLemmas.{and-false, or-false, none_excepted}

-- ---- an envelope that an actor handles, which is not the guardian

module _ (who : Identity) (q : Queries) (envelope : Envelope) (reading : ℕ) (a : Option Answer) (effects : List Effect) where
  abbrev pub handled_entry : Entry
  handled_entry = Handled envelope reading (Applied a effects)

  pub handled-tests : (fails : Bool) → (is_nobody q.failed && is_some (failure_of envelope.body a)) ≡ fails →
      tests_of who q handled_entry ≡ record none_passed { failure = fails }
  handled-tests fails is =
      tests-are who q handled_entry (record none_passed { failure = fails }) refl refl refl (and-false (phase_is q.phase Ending))
      (ap (λ b. is_nobody q.failed && b) (or-false (is_some (failure_of envelope.body a))) ∙ is) refl refl refl

  -- no failure, or none that counts: the effects and the message are added
  pub handled-step : is_guardian who ≡ false → (is_nobody q.failed && is_some (failure_of envelope.body a)) ≡ false →
      next_queries who q handled_entry ≡ record q {
        children = q.children ++ spawns_of effects;
        watching = watching_after who.this q.watching effects;
        due = due_after (after_told handled_entry q.due) effects;
        messages = q.messages ++ body_messages envelope.body;
        unspawned = filter (λ x. not (has (spawns_of effects) x)) q.unspawned;
      }
  handled-step an_actor fails_not =
      step-tests who q handled_entry none_passed (handled-tests false fails_not)
      ∙ (λ i. record q {
        phase = phase-still q.phase Live i;
        children = q.children ++ (if an_actor i then [] else spawns_of effects);
        watching = watching_after who.this q.watching effects;
        due = due_after (after_told handled_entry q.due) effects;
        messages = q.messages ++ body_messages envelope.body;
        unspawned = filter (λ x. not (has (spawns_of effects) x)) q.unspawned;
      })

  -- a failure: one suspension more, and the actor is failed by itself
  pub handled_failing-step : is_guardian who ≡ false → q.failed ≡ Nobody → is_some (failure_of envelope.body a) ≡ true →
      next_queries who q handled_entry ≡ record q {
        marked = q.marked + 1;
        failed = Itself;
        children = q.children ++ spawns_of effects;
        watching = watching_after who.this q.watching effects;
        due = due_after (after_told handled_entry q.due) effects;
        messages = q.messages ++ body_messages envelope.body;
        unspawned = filter (λ x. not (has (spawns_of effects) x)) q.unspawned;
      }
  handled_failing-step an_actor nobody failing =
      step-tests who q handled_entry (record none_passed { failure = true })
      (handled-tests true (λ i. is_nobody (nobody i) && failing i))
      ∙ (λ i. record q {
        phase = phase-still q.phase Live i;
        marked = q.marked + 1;
        failed = Itself;
        children = q.children ++ (if an_actor i then [] else spawns_of effects);
        watching = watching_after who.this q.watching effects;
        due = due_after (after_told handled_entry q.due) effects;
        messages = q.messages ++ body_messages envelope.body;
        unspawned = filter (λ x. not (has (spawns_of effects) x)) q.unspawned;
      })

-- ---- an envelope that is dropped changes nothing

module _ (who : Identity) (q : Queries) (envelope : Envelope) where
  pub dropped-tests : tests_of who q (Dropped envelope) ≡ none_passed
  dropped-tests = tests-are who q (Dropped envelope) none_passed refl refl refl (and-false (phase_is q.phase Ending)) (fails-not q) refl refl refl

  pub dropped-step : next_queries who q (Dropped envelope) ≡ q
  dropped-step =
      step-tests who q (Dropped envelope) none_passed dropped-tests
      ∙ (λ i. record q {
        phase = phase-still q.phase Live i;
        children = no_child who q.children i;
        messages = append-nil q.messages i;
        unspawned = none_excepted q.unspawned i;
      })
