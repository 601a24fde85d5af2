-- `Recreate` of an actor that is Live or Broken, and `Resume` of a Broken one: both restart it.
use Rattle.std.proofs.Common.{◌≡◌, ℕ, ◌+◌, ◌-◌, List, [], ◌∷◌, ◌++◌, Bool, true, false, refl, ap, sym, ◌∙◌, subst}
use Rattle.std.specs.Prelude.{not, ◌&&◌, if◌then◌else◌, Option, Some, filter}
use Rattle.mb_msg.specs.declared.id.ActorId.{ActorId}
use Rattle.mb_msg.specs.declared.supervision.Cause.{Cause}
use Rattle.mb_msg.specs.declared.supervision.Cause.TheVariants as cause
use Rattle.mb_msg.specs.declared.system.SysMsg.{SysMsg}
use Rattle.mb_msg.specs.declared.system.SysMsg.TheVariants as system
use Rattle.mb_actor.specs.ActorList.{has}
use Rattle.mb_actor.specs.Behaviour.{Moment, Reply}
use Rattle.mb_actor.specs.OutboxView.{OutboxView, spawns_of}
use Rattle.mb_actor.specs.declared.answer.Answer.{Answer}
use Rattle.mb_actor.specs.declared.call.Call.{Call}
use Rattle.mb_actor.specs.declared.call.Call.TheVariants.{Restart}
use Rattle.mb_actor.specs.declared.effect.Effect.{Effect}
use Rattle.mb_actor.specs.declared.phase.Phase.TheVariants.{Fresh, Live, Broken, Ending, Ended}
use Rattle.mb_journal.specs.Acts.{Act, acts, effect_acts, fail_acts, to_each}
use Rattle.mb_journal.specs.Acts.Act.{ResumeSelf}
use Rattle.mb_journal.specs.Entry.{Entry, is_failed}
use Rattle.mb_journal.specs.Entry.Entry.{System}
use Rattle.mb_journal.specs.Entry.Outcome.{Applied}
use Rattle.mb_journal.specs.Aside.{sets_aside}
use Rattle.mb_journal.specs.declared.failed_by.FailedBy.TheVariants.{Nobody, Itself}
use Rattle.mb_journal.specs.Identity.{Identity, is_guardian}
use Rattle.mb_journal.specs.Lawful.{IsGiven, IsGivenBy, IsLawfulEntry, IsNumbered, call_of}
use Rattle.mb_journal.specs.Life.{closed, phase}
use Rattle.mb_journal.specs.Phase.{phase_is}
use Rattle.mb_journal.specs.Watching.{watching_after, due_after}
use Rattle.mb_journal.proofs.ResumeSteps.{recreate_entry, recreate_tests, recreate-tests, recreate-step, resume_broken_entry, resume_broken_tests}
use Rattle.mb_journal.proofs.ResumeSteps.{resume_broken-tests, resume_broken-step}
use Rattle.mb_journal.proofs.Fold.{Queries, queries}
use Rattle.mb_journal.proofs.Steps.{passed}
use Rattle.mb_journal.proofs.TestLemmas.{if_true, if_false}
use Rattle.mb_cell.specs.Agrees.{Agrees}
use Rattle.mb_supervision.specs.CellStateRecord.{CellState}
use Rattle.mb_supervision.specs.Rows.{recreated, with_effects, taken, failing}
use Rattle.mb_cell.proofs.CallingRow.{IsCallingRow}
use Rattle.mb_cell.proofs.RowLaws.{cell_state_of, open_cell_state, cell_state-after, booked-open, call-by}

-- what a restart makes of the queries, and its acts
module _ (who : Identity) (q : Queries) (e : Entry) (c : Cause) (a : Answer) (effects : List Effect) where
  abbrev pub recreate_after : Queries
  recreate_after = record (passed q e) {
    phase = if is_failed (Some a) then Broken else Live;
    marked = if is_failed (Some a) then q.marked - 1 + 1 else q.marked - 1;
    failed = if is_failed (Some a) then Itself else Nobody;
    children = q.children ++ spawns_of effects;
    watching = watching_after who.this q.watching effects;
    due = due_after q.due effects;
    messages = [];
    unspawned = filter (λ x. not (has (spawns_of effects) x)) q.unspawned;
  }

  abbrev pub recreate_acts_of : List Act
  recreate_acts_of =
      ResumeSelf ∷ effect_acts who.this q.watching effects
      ++ (if is_failed (Some a) then fail_acts who Nobody (q.children ++ spawns_of effects) cause.Init q.children
      else to_each (system.Recreate c) q.children)

module _ (who : Identity) (q : Queries) (number : ℕ) (m : SysMsg) (c : Cause) (a : Answer) (effects : List Effect) where
  abbrev entry : Entry
  entry = System number m (Applied (Some a) effects)

  abbrev begun : List (ActorId × ℕ) → ℕ → CellState
  begun r f = with_effects who effects (record (taken number (open_cell_state q r [] f true)) {
    count = q.marked - 1;
    failed = Nobody;
    acts = ResumeSelf ∷ [];
  })

  by_answer : (b : Bool) (r : List (ActorId × ℕ)) (f : ℕ) →
      (if b then failing who Itself cause.Init q.children (record (begun r f) { phase = Broken })
      else record (begun r f) { phase = Live; acts = (begun r f).acts ++ to_each (system.Recreate c) q.children })
      ≡ record (begun r f) {
        phase = if b then Broken else Live;
        count = if b then q.marked - 1 + 1 else q.marked - 1;
        failed = if b then Itself else Nobody;
        acts =
            ResumeSelf ∷ effect_acts who.this q.watching effects
            ++ (if b then fail_acts who Nobody (q.children ++ spawns_of effects) cause.Init q.children
            else to_each (system.Recreate c) q.children);
      }
  by_answer true r f = refl
  by_answer false r f = refl

  still_open : phase_is (recreate_after who q entry c a effects).phase Ended ≡ false
  still_open = open_by (is_failed (Some a))
    where
      open_by : (b : Bool) → phase_is (if b then Broken else Live) Ended ≡ false
      open_by true = refl
      open_by false = refl

  pub not_fresh_after : (recreate_after who q entry c a effects).phase ≡ Fresh → ⊥
  not_fresh_after = by (is_failed (Some a))
    where
      by : (b : Bool) → (if b then Broken else Live) ≡ Fresh → ⊥
      by true e = cc
      by false e = cc

  pub recreate-booked : (r : List (ActorId × ℕ)) (f : ℕ) (rd : Bool) (new : CellState) →
      new ≡ recreated who c (Some a) effects number (open_cell_state q r [] f rd) →
      new ≡ cell_state_of (recreate_after who q entry c a effects) r (recreate_acts_of who q entry c a effects) f false
  recreate-booked r f rd new is =
      cell_state-after (recreate_after who q entry c a effects) r (recreate_acts_of who q entry c a effects) f false new still_open
      (is ∙ by_answer (is_failed (Some a)) r f)

-- the rule, of a cell
module _ (who : Identity) (before : List Entry) (gives : Moment → Reply → Type 0) (cell_state : CellState) (tray : OutboxView)
    (kept : Agrees who before gives cell_state tray) (number : ℕ) (not_ended : closed who before ≡ false) (done : cell_state.acts ≡ [])
    (an_actor : is_guardian who ≡ false) (a : Answer) (effects : List Effect) where
  as_before : cell_state ≡ open_cell_state (queries who before) cell_state.retries [] cell_state.fanout cell_state.is_ready
  as_before =
      booked-open who before gives cell_state tray kept not_ended
      ∙ ap (λ (a : List Act). open_cell_state (queries who before) cell_state.retries a cell_state.fanout cell_state.is_ready) done

  lawful : (m : SysMsg) (call : Call) → IsNumbered who before number m → sets_aside who before m ≡ false →
      call_of who before (System number m (Applied (Some a) effects)) ≡ Some call →
      IsGivenBy who gives before call (Some a) effects → IsLawfulEntry who gives before (System number m (Applied (Some a) effects))
  lawful m call numbered applied calls_it given = (
    record { not_ended = not_ended; numbered = numbered; by_rule = sym (ap not applied) },
    subst (λ (c : Option Call). IsGiven who gives before c (Some a) effects) (sym calls_it) given,
  )

  -- ---- Recreate

  module _ (c : Cause) (off_fresh : phase_is (phase who before) Fresh ≡ false) (off_ending : phase_is (phase who before) Ending ≡ false)
      (numbered : IsNumbered who before number (system.Recreate c)) (applied : sets_aside who before (system.Recreate c) ≡ false) where
    calls_recreate : call_of who before (recreate_entry who (queries who before) number c a effects) ≡ Some (Restart c)
    calls_recreate =
        call-by who before number (system.Recreate c) (Applied (Some a) effects) (recreate_tests who (queries who before) number c a effects)
        (recreate-tests who (queries who before) number c a effects off_fresh an_actor)
        ∙ if_false _ _ _ an_actor

    acted_recreate : acts who before (recreate_entry who (queries who before) number c a effects)
        ≡ recreate_acts_of who (queries who before) (recreate_entry who (queries who before) number c a effects) c a effects
    unfolding acts
    acted_recreate = if_false _ _ _ off_fresh ∙ if_false _ _ _ an_actor

    pub recreate-row : (new : CellState) → new ≡ recreated who c (Some a) effects number cell_state →
        IsCallingRow who gives before (recreate_entry who (queries who before) number c a effects) (Restart c) (Some a) effects cell_state new
        (recreate_after who (queries who before) (recreate_entry who (queries who before) number c a effects) c a effects)
    recreate-row new is = record {
      calls_it = calls_recreate;
      answered = refl;
      lawful = lawful (system.Recreate c) (Restart c) numbered applied calls_recreate;
      step = recreate-step who (queries who before) number c a effects off_fresh off_ending not_ended an_actor;
      retries = cell_state.retries;
      counted = kept.counted;
      acts_of_it = recreate_acts_of who (queries who before) (recreate_entry who (queries who before) number c a effects) c a effects;
      booked =
          recreate-booked who (queries who before) number (system.Recreate c) c a effects cell_state.retries cell_state.fanout cell_state.is_ready new
          (is ∙ ap (recreated who c (Some a) effects number) as_before);
      acted = acted_recreate;
      blank = λ e. absurd (not_fresh_after who (queries who before) number (system.Recreate c) c a effects e);
    }

  -- ---- Resume of a Broken actor

  module _ (f : Bool) (broken : phase who before ≡ Broken) (numbered : IsNumbered who before number (system.Resume f))
      (applied : sets_aside who before (system.Resume f) ≡ false) where
    calls_resume : call_of who before (resume_broken_entry who (queries who before) number f a effects) ≡ Some (Restart cause.Init)
    calls_resume =
        call-by who before number (system.Resume f) (Applied (Some a) effects) (resume_broken_tests who (queries who before) number f a effects)
        (resume_broken-tests who (queries who before) number f a effects broken an_actor)
        ∙ if_false _ _ _ an_actor

    acted_resume : acts who before (resume_broken_entry who (queries who before) number f a effects)
        ≡ recreate_acts_of who (queries who before) (resume_broken_entry who (queries who before) number f a effects) cause.Init a effects
    unfolding acts
    acted_resume =
        if_false _ _ _ (ap (λ p. phase_is p Fresh) broken)
        ∙ (if_false _ _ _ (ap (λ p. phase_is p Live) broken)
        ∙ if_true _ _ _ (λ i. phase_is (broken i) Broken && not (an_actor i)))

    pub resume_broken-row : (new : CellState) → new ≡ recreated who cause.Init (Some a) effects number cell_state →
        IsCallingRow who gives before (resume_broken_entry who (queries who before) number f a effects) (Restart cause.Init) (Some a) effects
        cell_state new
        (recreate_after who (queries who before) (resume_broken_entry who (queries who before) number f a effects) cause.Init a effects)
    resume_broken-row new is = record {
      calls_it = calls_resume;
      answered = refl;
      lawful = lawful (system.Resume f) (Restart cause.Init) numbered applied calls_resume;
      step = resume_broken-step who (queries who before) number f a effects broken an_actor;
      retries = cell_state.retries;
      counted = kept.counted;
      acts_of_it =
          recreate_acts_of who (queries who before) (resume_broken_entry who (queries who before) number f a effects) cause.Init a effects;
      booked =
          recreate-booked who (queries who before) number (system.Resume f) cause.Init a effects cell_state.retries cell_state.fanout cell_state.is_ready new
          (is ∙ ap (recreated who cause.Init (Some a) effects number) as_before);
      acted = acted_resume;
      blank = λ e. absurd (not_fresh_after who (queries who before) number (system.Resume f) cause.Init a effects e);
    }
