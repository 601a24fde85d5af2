-- `Died` that comes to an actor that was started, unless it is that of the last child of an actor that ends.
use Rattle.std.proofs.Common.{◌≡◌, ℕ, List, [], ◌∷◌, ◌++◌, false, refl, ap, ◌∙◌}
use Rattle.std.specs.Prelude.{◌&&◌, ◌||◌, if◌then◌else◌, None}
use Rattle.std.proofs.lemmas.List.{append-nil}
use Rattle.mb_msg.specs.declared.envelope.Body.TheVariants as body
use Rattle.mb_msg.specs.declared.id.ActorId.{ActorId}
use Rattle.mb_msg.specs.declared.system.SysMsg.TheVariants as system
use Rattle.mb_actor.specs.ActorList.{has}
use Rattle.mb_actor.specs.Behaviour.{Moment, Reply}
use Rattle.mb_actor.specs.OutboxView.{OutboxView}
use Rattle.mb_actor.specs.declared.phase.Phase.TheVariants.{Fresh, Ending}
use Rattle.mb_journal.specs.ActorList.{without, joined}
use Rattle.mb_journal.specs.Acts.{Act, acts, end_acts}
use Rattle.mb_journal.specs.Acts.Act.{Tell}
use Rattle.mb_journal.specs.Aside.{sets_aside}
use Rattle.mb_journal.specs.Entry.{Entry}
use Rattle.mb_journal.specs.Identity.{Identity}
use Rattle.mb_journal.specs.Life.{closed, phase, children, is_alone}
use Rattle.mb_journal.specs.Phase.{phase_is}
use Rattle.mb_journal.specs.Watching.{watchers, watching}
use Rattle.mb_journal.proofs.DiedSteps.{died_entry, died-tests, died-step}
use Rattle.mb_journal.proofs.Fold.{Queries, queries}
use Rattle.mb_journal.proofs.Steps.{none_passed, passed}
use Rattle.mb_journal.proofs.TestLemmas.{and-false, if_false}
use Rattle.mb_cell.specs.Agrees.{Agrees}
use Rattle.mb_supervision.specs.CellStateRecord.{CellState}
use Rattle.mb_supervision.specs.Rows.{told_of_death}
use Rattle.mb_cell.proofs.RowLaws.{cell_state-after, booked-open, not-fresh}
use Rattle.mb_cell.proofs.SilentRow.{IsSilentRow, silent, silent-call}

-- it is not set aside, even while the actor ends
pub died-applied : (who : Identity) (before : List Entry) (x : ActorId) → sets_aside who before (system.Died x) ≡ false
died-applied who before x = ap (λ b. b || false) (and-false (phase_is (phase who before) Ending))

module _ (who : Identity) (before : List Entry) (gives : Moment → Reply → Type 0) (cell_state : CellState) (tray : OutboxView)
    (kept : Agrees who before gives cell_state tray) (number : ℕ) (not_ended : closed who before ≡ false)
    (off_fresh : phase_is (phase who before) Fresh ≡ false) (x : ActorId)
    (not_last : (phase_is (phase who before) Ending && is_alone (children who before) x) ≡ false) where
  abbrev now : Queries
  now = queries who before

  abbrev after : Queries
  after = record (passed now (died_entry who now number x None [])) {
    children = without now.children x;
    watching = without now.watching x;
    due = if has now.watching x then joined now.due x else now.due;
  }

  -- the actor is told, if it watches
  abbrev notice : List Act
  notice = if has (watching who before) x then Tell who.this (body.Terminated x) ∷ [] else []

  died-acts : acts who before (silent number (system.Died x)) ≡ notice
  unfolding acts
  died-acts =
      if_false _ _ _ off_fresh
      ∙ ((λ i. notice ++ (if not_last i then end_acts who (watchers before) [] else [])) ∙ append-nil notice)

  pub died-row : (new : CellState) → new ≡ told_of_death who x number cell_state → IsSilentRow who before number (system.Died x) cell_state new
  died-row new is = record {
    calls_nothing =
        silent-call who before number (system.Died x) none_passed (died-tests who now number x None [] false not_last) refl refl refl;
    after = after;
    step = died-step who now number x None [] not_last;
    same_unspawned = refl;
    same_messages = λ an_actor. refl;
    retries = cell_state.retries;
    counted = kept.counted;
    acts_of_it = notice;
    booked =
        cell_state-after after cell_state.retries notice cell_state.fanout false new not_ended
        (is ∙ ap (told_of_death who x number) (booked-open who before gives cell_state tray kept not_ended));
    acted = died-acts;
    blank = λ fresh. absurd (not-fresh (phase who before) off_fresh fresh);
  }
