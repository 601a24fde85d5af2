-- What a child's failure makes of all queries: one that the actor decides about, and one that it escalates.
use Rattle.std.proofs.Common.{◌≡◌, ℕ, ◌+◌, [], ◌++◌, Bool, true, false, refl, ◌∙◌}
use Rattle.std.specs.Prelude.{◌&&◌, if◌then◌else◌}
use Rattle.std.proofs.lemmas.List.{append-nil}
use Rattle.mb_msg.specs.declared.id.ActorId.{ActorId}
use Rattle.mb_msg.specs.declared.supervision.Cause.{Cause}
use Rattle.mb_msg.specs.declared.supervision.Directive.TheVariants as directive
use Rattle.mb_actor.specs.ActorList.{has}
use Rattle.mb_actor.specs.declared.phase.Phase.TheVariants.{Live, Ending}
use Rattle.mb_journal.specs.Entry.{Entry}
use Rattle.mb_journal.specs.Failure.{is_nobody, is_escalate}
use Rattle.mb_journal.specs.declared.failed_by.FailedBy.TheVariants.{Nobody, Child}
use Rattle.mb_journal.specs.Identity.{Identity}
use Rattle.mb_journal.specs.Phase.{phase_is}
use Rattle.mb_journal.specs.Retries.{is_restart_directive, is_given, through_refusal}
use Rattle.mb_journal.specs.Supervision.{directive_of}
use Rattle.mb_journal.proofs.Fold.{Queries, next_queries, asked_on, meant_on}
use Rattle.mb_journal.proofs.FreshSteps.{failed_entry}
use Rattle.mb_journal.proofs.Steps.{tests_of, step-tests, tests-are, none_passed, passed, phase-still, no_child}
use Rattle.mb_journal.proofs.TestLemmas.{and-false, none_excepted}

module _ (who : Identity) (q : Queries) (number : ℕ) (x : ActorId) (c : Cause) where
  abbrev entry : Entry
  entry = failed_entry who q number x c

  -- the failure is a child's, and is escalated
  abbrev pub passed_up : Bool
  passed_up = has q.children x && is_escalate (directive_of who c)

  -- no restart is requested about an actor that is no child, or where it is not to be restarted
  pub asked_on-none : (has q.children x && is_restart_directive (directive_of who c)) ≡ false → q.requests ++ asked_on who q x c ≡ q.requests
  asked_on-none not_afresh =
      (λ i. q.requests ++ (if not_afresh i then through_refusal (is_given who q.requests) (meant_on who q x) else []))
      ∙ append-nil q.requests

  pub failed-tests : (fails : Bool) → (is_nobody q.failed && passed_up) ≡ fails →
      tests_of who q entry ≡ record none_passed { failure = fails }
  failed-tests fails is =
      tests-are who q entry (record none_passed { failure = fails }) refl refl refl (and-false (phase_is q.phase Ending)) is refl refl refl

  -- the actor does not fail with it, or is failed already: the requests are counted
  pub failed-step : (is_nobody q.failed && passed_up) ≡ false →
      next_queries who q entry ≡ record (passed q entry) { requests = q.requests ++ asked_on who q x c }
  failed-step fails_not =
      step-tests who q entry none_passed (failed-tests false fails_not)
      ∙ (λ i. record (passed q entry) {
        phase = phase-still q.phase Live i;
        children = no_child who q.children i;
        requests = q.requests ++ asked_on who q x c;
        messages = append-nil q.messages i;
        unspawned = none_excepted q.unspawned i;
      })

  -- a child's failure is escalated: one suspension more, and the actor is failed by that child
  pub failed_up-step : has q.children x ≡ true → directive_of who c ≡ directive.Escalate → q.failed ≡ Nobody →
      next_queries who q entry ≡ record (passed q entry) { marked = q.marked + 1; failed = Child x }
  failed_up-step child escalate nobody =
      step-tests who q entry (record none_passed { failure = true })
      (failed-tests true (λ i. is_nobody (nobody i) && (child i && is_escalate (escalate i))))
      ∙ (λ i. record (passed q entry) {
        phase = phase-still q.phase Live i;
        marked = q.marked + 1;
        failed = Child x;
        children = no_child who q.children i;
        requests = asked_on-none (λ j. child j && is_restart_directive (escalate j)) i;
        messages = append-nil q.messages i;
        unspawned = none_excepted q.unspawned i;
      })
