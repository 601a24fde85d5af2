-- A system message that changes nothing, but its number is used up.
use Rattle.std.proofs.Common.{◌≡◌, ℕ, List, [], true, false, refl, ap, ◌∙◌}
use Rattle.std.specs.Prelude.{if◌then◌else◌, None}
use Rattle.mb_msg.specs.declared.system.SysMsg.{SysMsg}
use Rattle.mb_actor.specs.Behaviour.{Moment, Reply}
use Rattle.mb_actor.specs.OutboxView.{OutboxView}
use Rattle.mb_actor.specs.declared.phase.Phase.TheVariants.{Fresh, Ending}
use Rattle.mb_journal.specs.Acts.{Act, acts, restart_acts, supervision_acts}
use Rattle.mb_journal.specs.Entry.{Entry}
use Rattle.mb_journal.specs.Identity.{Identity}
use Rattle.mb_journal.specs.Life.{closed, phase, has_ending}
use Rattle.mb_journal.specs.Phase.{phase_is}
use Rattle.mb_journal.specs.Retries.{carried_out}
use Rattle.mb_journal.proofs.CreateSteps.{create_again-tests, create_again-step}
use Rattle.mb_journal.proofs.Fold.{Queries, queries, next_queries}
use Rattle.mb_journal.proofs.FreshSteps.{fresh_recreate-tests, fresh_recreate-step, fresh_suspend-tests, fresh_suspend-step}
use Rattle.mb_journal.proofs.FreshSteps.{fresh_resume-tests, fresh_resume-step, fresh_died-tests, fresh_died-step}
use Rattle.mb_journal.proofs.FreshSteps.{fresh_failed-tests, fresh_failed-step, failed_stranger-tests, failed_stranger-step}
use Rattle.mb_journal.proofs.PhaseLemmas.{agrees}
use Rattle.mb_journal.proofs.ResumeSteps.{recreate_guardian-tests, recreate_guardian-step}
use Rattle.mb_journal.proofs.Steps.{tests_of, none_passed, passed}
use Rattle.mb_journal.proofs.TerminateSteps.{ending_again-tests, ending_again-step}
use Rattle.mb_journal.proofs.TestLemmas.{if_true, if_false, if_same}
use Rattle.mb_cell.specs.Agrees.{Agrees}
use Rattle.mb_supervision.specs.CellStateRecord.{CellState}
use Rattle.mb_cell.specs.WithoutEffect.{DoesNothing}
use Rattle.mb_cell.specs.WithoutEffect.DoesNothing.{started_already, fresh_recreate, fresh_suspend, fresh_resume, fresh_failed, fresh_died}
use Rattle.mb_cell.specs.WithoutEffect.DoesNothing.{of_guardian, of_no_child, ends_already}
use Rattle.mb_supervision.specs.Rows.{ignored}
use Rattle.mb_cell.proofs.RowLaws.{open_cell_state, cell_state-after, booked-open, blank-before}
use Rattle.mb_cell.proofs.SilentRow.{IsSilentRow, silent, silent-call}
use Rattle.mb_cell.proofs.StartLemmas.{started-once}

module _ (who : Identity) (before : List Entry) (gives : Moment → Reply → Type 0) (cell_state : CellState) (tray : OutboxView)
    (kept : Agrees who before gives cell_state tray) (number : ℕ) (not_ended : closed who before ≡ false) (done : cell_state.acts ≡ []) where
  abbrev now : Queries
  now = queries who before

  as_before : cell_state ≡ open_cell_state now cell_state.retries [] cell_state.fanout cell_state.is_ready
  as_before =
      booked-open who before gives cell_state tray kept not_ended
      ∙ ap (λ (a : List Act). open_cell_state now cell_state.retries a cell_state.fanout cell_state.is_ready) done

  pub passed-row : (m : SysMsg) → tests_of who now (silent number m) ≡ none_passed →
      next_queries who now (silent number m) ≡ passed now (silent number m) → acts who before (silent number m) ≡ [] →
      (new : CellState) → new ≡ ignored number cell_state → IsSilentRow who before number m cell_state new
  passed-row m tests step no_acts new is = record {
    calls_nothing = silent-call who before number m none_passed tests refl refl refl;
    after = passed now (silent number m);
    step = step;
    same_unspawned = refl;
    same_messages = λ an_actor. refl;
    retries = cell_state.retries;
    counted = kept.counted;
    acts_of_it = [];
    booked =
        cell_state-after (passed now (silent number m)) cell_state.retries [] cell_state.fanout false new not_ended (is ∙ ap (ignored number) as_before);
    acted = no_acts;
    blank = λ fresh. let here = blank-before who before gives cell_state tray kept fresh in record {
      no_children = here.no_children;
      none_watched = here.none_watched;
      none_due = here.none_due;
      not_failed = here.not_failed;
    };
  }

  pub no_acts : (m : SysMsg) → DoesNothing who before m → acts who before (silent number m) ≡ []
  unfolding acts
  no_acts m (started_already off_fresh) = if_false _ _ _ off_fresh
  no_acts m (fresh_recreate c fresh) = if_true _ _ _ (ap (λ p. phase_is p Fresh) fresh)
  no_acts m (fresh_suspend fresh) = if_true _ _ _ (ap (λ p. phase_is p Fresh) fresh)
  no_acts m (fresh_resume f fresh) = if_true _ _ _ (ap (λ p. phase_is p Fresh) fresh)
  no_acts m (fresh_failed x c fresh) = if_true _ _ _ (ap (λ p. phase_is p Fresh) fresh)
  no_acts m (fresh_died x fresh) = if_true _ _ _ (ap (λ p. phase_is p Fresh) fresh)
  no_acts m (of_guardian c is) =
      (λ i. if phase_is (phase who before) Fresh then [] else (if is i then [] else restart_acts who before c None []))
      ∙ if_same (phase_is (phase who before) Fresh) []
  no_acts m (of_no_child x c stranger) =
      (λ i. if phase_is (phase who before) Fresh then []
      else (if stranger i then supervision_acts who before x c (carried_out who before x c) else []))
      ∙ if_same (phase_is (phase who before) Fresh) []
  no_acts m (ends_already is) =
      if_false _ _ _ (ap (λ p. phase_is p Fresh) is) ∙ if_true _ _ _ (ap (λ p. phase_is p Ending) is)

  told_to_end : phase who before ≡ Ending → has_ending before ≡ true
  told_to_end is = rw is at (agrees who before).1

  pub nothing-row : (m : SysMsg) → DoesNothing who before m → (new : CellState) → new ≡ ignored number cell_state →
      IsSilentRow who before number m cell_state new
  nothing-row m (started_already off_fresh) =
      let started = started-once who gives before kept.lawful.entries off_fresh not_ended in
      passed-row m (create_again-tests who now number started) (create_again-step who now number started) (no_acts m (started_already off_fresh))
  nothing-row m (fresh_recreate c fresh) =
      passed-row m (fresh_recreate-tests who now number fresh c) (fresh_recreate-step who now number fresh c)
      (no_acts m (fresh_recreate c fresh))
  nothing-row m (fresh_suspend fresh) =
      passed-row m (fresh_suspend-tests who now number fresh) (fresh_suspend-step who now number fresh) (no_acts m (fresh_suspend fresh))
  nothing-row m (fresh_resume f fresh) =
      passed-row m (fresh_resume-tests who now number fresh f) (fresh_resume-step who now number fresh f)
      (no_acts m (fresh_resume f fresh))
  nothing-row m (fresh_failed x c fresh) =
      let childless = (kept.fresh fresh).no_children in
      passed-row m (fresh_failed-tests who now number x c childless) (fresh_failed-step who now number x c childless)
      (no_acts m (fresh_failed x c fresh))
  nothing-row m (fresh_died x fresh) =
      let here = kept.fresh fresh in
      passed-row m (fresh_died-tests who now number fresh x)
      (fresh_died-step who now number fresh x here.no_children here.none_watched) (no_acts m (fresh_died x fresh))
  nothing-row m (of_guardian c is) =
      passed-row m (recreate_guardian-tests who now number c is) (recreate_guardian-step who now number c is) (no_acts m (of_guardian c is))
  nothing-row m (of_no_child x c stranger) =
      passed-row m (failed_stranger-tests who now number x c stranger) (failed_stranger-step who now number x c stranger)
      (no_acts m (of_no_child x c stranger))
  nothing-row m (ends_already is) =
      passed-row m (ending_again-tests who now number None [] (told_to_end is)) (ending_again-step who now number None [] (told_to_end is))
      (no_acts m (ends_already is))
