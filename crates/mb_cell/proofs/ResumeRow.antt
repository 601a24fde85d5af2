-- `Resume` of a Live actor.
use Rattle.std.proofs.Common.{◌≡◌, ℕ, ◌-◌, List, ◌∷◌, Bool, true, false, refl, ap, ◌∙◌}
use Rattle.std.specs.Prelude.{◌&&◌, ◌||◌, if◌then◌else◌, map}
use Rattle.mb_msg.specs.declared.system.SysMsg.TheVariants as system
use Rattle.mb_actor.specs.Behaviour.{Moment, Reply}
use Rattle.mb_actor.specs.OutboxView.{OutboxView}
use Rattle.mb_actor.specs.declared.phase.Phase.TheVariants.{Fresh, Live, Ending, Ended}
use Rattle.mb_journal.specs.Acts.{Act, acts}
use Rattle.mb_journal.specs.Acts.Act.{Sys, ResumeSelf}
use Rattle.mb_journal.specs.Aside.{sets_aside}
use Rattle.mb_journal.specs.Entry.{Entry}
use Rattle.mb_journal.specs.Failure.{is_child}
use Rattle.mb_journal.specs.declared.failed_by.FailedBy.TheVariants.{Nobody}
use Rattle.mb_journal.specs.Identity.{Identity}
use Rattle.mb_journal.specs.Life.{closed, phase}
use Rattle.mb_journal.specs.Phase.{phase_is}
use Rattle.mb_journal.proofs.Fold.{Queries, queries}
use Rattle.mb_journal.proofs.ResumeSteps.{resume_entry, resume_tests, resume-tests, resume-step}
use Rattle.mb_journal.proofs.Steps.{passed}
use Rattle.mb_journal.proofs.TestLemmas.{if_true, if_false}
use Rattle.mb_cell.specs.Agrees.{Agrees}
use Rattle.mb_supervision.specs.CellStateRecord.{CellState}
use Rattle.mb_supervision.specs.Rows.{resumed}
use Rattle.mb_cell.proofs.RowLaws.{cell_state-after, booked-open, not-fresh}
use Rattle.mb_cell.proofs.SilentRow.{IsSilentRow, silent, silent-call}

-- it is not set aside
pub resume-applied : (who : Identity) (before : List Entry) (f : Bool) → phase who before ≡ Live →
    sets_aside who before (system.Resume f) ≡ false
resume-applied who before f live = ap (λ p. (phase_is p Ending && true) || false) live

module _ (who : Identity) (before : List Entry) (gives : Moment → Reply → Type 0) (cell_state : CellState) (tray : OutboxView)
    (kept : Agrees who before gives cell_state tray) (number : ℕ) (live : phase who before ≡ Live) (f : Bool) where
  abbrev now : Queries
  now = queries who before

  abbrev after : Queries
  after = record (passed now (resume_entry who now number f)) { marked = now.marked - 1; failed = if f then Nobody else now.failed }

  -- the child whose failure was escalated is told that the resume is for it
  abbrev resumptions : List Act
  resumptions = ResumeSelf ∷ map (λ x. Sys x (system.Resume (f && is_child now.failed x))) now.children

  resume-acts : acts who before (silent number (system.Resume f)) ≡ resumptions
  unfolding acts
  resume-acts = if_false _ _ _ (ap (λ p. phase_is p Fresh) live) ∙ if_true _ _ _ (ap (λ p. phase_is p Live) live)

  not_ended : closed who before ≡ false
  not_ended = ap (λ p. phase_is p Ended) live

  pub resume-row : (new : CellState) → new ≡ resumed f number cell_state → IsSilentRow who before number (system.Resume f) cell_state new
  resume-row new is = record {
    calls_nothing =
        silent-call who before number (system.Resume f) (resume_tests who now number f) (resume-tests who now number f live) refl refl refl;
    after = after;
    step = resume-step who now number f live;
    same_unspawned = refl;
    same_messages = λ an_actor. refl;
    retries = cell_state.retries;
    counted = kept.counted;
    acts_of_it = resumptions;
    booked =
        cell_state-after after cell_state.retries resumptions cell_state.fanout false new not_ended
        (is ∙ ap (resumed f number) (booked-open who before gives cell_state tray kept not_ended));
    acted = resume-acts;
    blank = λ fresh. absurd (not-fresh (phase who before) (ap (λ p. phase_is p Fresh) live) fresh);
  }
