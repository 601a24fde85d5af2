-- The first `Create`, of an actor and of the guardian.
use Rattle.std.proofs.Common.{◌≡◌, ℕ, ◌+◌, ◌-◌, List, [], ◌∷◌, ◌++◌, Bool, true, false, refl, ap, sym, ◌∙◌, subst}
use Rattle.std.specs.Prelude.{not, if◌then◌else◌, Option, Some, filter}
use Rattle.std.proofs.lemmas.List.{append-nil}
use Rattle.mb_msg.specs.declared.id.ActorId.{ActorId}
use Rattle.mb_msg.specs.declared.supervision.Cause.TheVariants as cause
use Rattle.mb_msg.specs.declared.system.SysMsg.TheVariants as system
use Rattle.mb_actor.specs.ActorList.{has}
use Rattle.mb_actor.specs.Behaviour.{Moment, Reply}
use Rattle.mb_actor.specs.OutboxView.{OutboxView, spawns_of}
use Rattle.mb_actor.specs.declared.answer.Answer.{Answer}
use Rattle.mb_actor.specs.declared.call.Call.{Call}
use Rattle.mb_actor.specs.declared.call.Call.TheVariants.{Start}
use Rattle.mb_actor.specs.declared.effect.Effect.{Effect}
use Rattle.mb_actor.specs.declared.phase.Phase.TheVariants.{Fresh, Live, Broken, Ended}
use Rattle.mb_journal.specs.Acts.{Act, acts, effect_acts, fail_acts, to_each}
use Rattle.mb_journal.specs.Acts.Act.{ResumeSelf}
use Rattle.mb_journal.specs.Entry.{Entry, is_failed}
use Rattle.mb_journal.specs.Failure.{is_nobody}
use Rattle.mb_journal.specs.declared.failed_by.FailedBy.TheVariants.{Nobody, Itself}
use Rattle.mb_journal.specs.Identity.{Identity, is_guardian}
use Rattle.mb_journal.specs.Lawful.{IsGiven, IsNumbered}
use Rattle.mb_journal.specs.Life.{closed, phase}
use Rattle.mb_journal.specs.Phase.{phase_is}
use Rattle.mb_journal.specs.Watching.{watching_after, due_after}
use Rattle.mb_journal.proofs.CreateLemmas.{call_of-create, sets_aside-create}
use Rattle.mb_journal.proofs.CreateSteps.{create_entry, create-step, create_guardian-step}
use Rattle.mb_journal.proofs.Fold.{Queries, queries}
use Rattle.mb_journal.proofs.PhaseLemmas.{not_started}
use Rattle.mb_journal.proofs.Steps.{passed}
use Rattle.mb_journal.proofs.TestLemmas.{if_true, if_false}
use Rattle.mb_cell.specs.Agrees.{Agrees}
use Rattle.mb_supervision.specs.CellStateRecord.{CellState}
use Rattle.mb_supervision.specs.Rows.{created, created_guardian, with_effects, taken, failing}
use Rattle.mb_cell.proofs.CallingRow.{IsCallingRow}
use Rattle.mb_cell.proofs.RowLaws.{cell_state_of, open_cell_state, cell_state-after, booked-open}
use Rattle.mb_cell.proofs.SilentRow.{IsSilentRow, silent}

-- ---- an actor

module _ (who : Identity) (q : Queries) (number : ℕ) (a : Answer) (effects : List Effect) where
  abbrev pub create_after : Queries
  create_after = record (passed q (create_entry who q number a effects)) {
    phase = if is_failed (Some a) then Broken else Live;
    marked = if is_failed (Some a) then q.marked - 1 + 1 else q.marked - 1;
    failed = if is_failed (Some a) then Itself else Nobody;
    children = q.children ++ spawns_of effects;
    watching = watching_after who.this q.watching effects;
    due = due_after q.due effects;
    messages = [];
    unspawned = filter (λ x. not (has (spawns_of effects) x)) q.unspawned;
  }

  abbrev pub create_acts_of : List Act
  create_acts_of =
      ResumeSelf ∷ effect_acts who.this q.watching effects
      ++ (if is_failed (Some a) then fail_acts who q.failed (q.children ++ spawns_of effects) cause.Init [] else [])

  abbrev begun : List (ActorId × ℕ) → ℕ → CellState
  begun r f = with_effects who effects (record (taken number (open_cell_state q r [] f true)) {
    phase = Live;
    count = q.marked - 1;
    acts = ResumeSelf ∷ [];
  })

  by_answer : (b : Bool) (r : List (ActorId × ℕ)) (f : ℕ) → q.failed ≡ Nobody →
      (if b then failing who Itself cause.Init [] (record (begun r f) { phase = Broken }) else begun r f)
      ≡ record (begun r f) {
        phase = if b then Broken else Live;
        count = if b then q.marked - 1 + 1 else q.marked - 1;
        failed = if b then Itself else Nobody;
        acts =
            ResumeSelf ∷ effect_acts who.this q.watching effects
            ++ (if b then fail_acts who q.failed (q.children ++ spawns_of effects) cause.Init [] else []);
      }
  by_answer true r f nobody =
      λ i. record (begun r f) {
        phase = Broken;
        count = if is_nobody (nobody i) then q.marked - 1 + 1 else q.marked - 1;
        failed = if is_nobody (nobody i) then Itself else nobody i;
        acts =
            ResumeSelf ∷ effect_acts who.this q.watching effects
            ++ fail_acts who q.failed (q.children ++ spawns_of effects) cause.Init [];
      }
  by_answer false r f nobody =
      λ i. record (begun r f) {
        failed = nobody i;
        acts = sym (append-nil (ResumeSelf ∷ effect_acts who.this q.watching effects)) i;
      }

  -- an actor that was started has not ended
  still_open : phase_is create_after.phase Ended ≡ false
  still_open = open_by (is_failed (Some a))
    where
      open_by : (b : Bool) → phase_is (if b then Broken else Live) Ended ≡ false
      open_by true = refl
      open_by false = refl

  not_fresh_after : create_after.phase ≡ Fresh → ⊥
  not_fresh_after = by (is_failed (Some a))
    where
      by : (b : Bool) → (if b then Broken else Live) ≡ Fresh → ⊥
      by true e = cc
      by false e = cc

  pub create-booked : (r : List (ActorId × ℕ)) (f : ℕ) (rd : Bool) (new : CellState) → q.failed ≡ Nobody →
      new ≡ created who (Some a) effects number (open_cell_state q r [] f rd) → new ≡ cell_state_of create_after r create_acts_of f false
  create-booked r f rd new nobody is =
      cell_state-after create_after r create_acts_of f false new still_open (is ∙ by_answer (is_failed (Some a)) r f nobody)

-- the rule, of a cell
module _ (who : Identity) (before : List Entry) (gives : Moment → Reply → Type 0) (cell_state : CellState) (tray : OutboxView)
    (kept : Agrees who before gives cell_state tray) (number : ℕ) (fresh : phase who before ≡ Fresh) (done : cell_state.acts ≡ []) where
  not_ended : closed who before ≡ false
  not_ended = ap (λ p. phase_is p Ended) fresh

  as_before : cell_state ≡ open_cell_state (queries who before) cell_state.retries [] cell_state.fanout cell_state.is_ready
  as_before =
      booked-open who before gives cell_state tray kept not_ended
      ∙ ap (λ (a : List Act). open_cell_state (queries who before) cell_state.retries a cell_state.fanout cell_state.is_ready) done

  module _ (an_actor : is_guardian who ≡ false) (a : Answer) (effects : List Effect) (numbered : IsNumbered who before number system.Create) where
    acted : acts who before (create_entry who (queries who before) number a effects) ≡ create_acts_of who (queries who before) number a effects
    unfolding acts
    acted =
        if_true _ _ _ (ap (λ p. phase_is p Fresh) fresh) ∙ if_false _ _ _ an_actor

    pub create-row : (new : CellState) → new ≡ created who (Some a) effects number cell_state →
        IsCallingRow who gives before (create_entry who (queries who before) number a effects) Start (Some a) effects cell_state new
        (create_after who (queries who before) number a effects)
    create-row new is = record {
      calls_it = call_of-create who before number a effects fresh an_actor;
      answered = refl;
      lawful = λ given. (
        record { not_ended = not_ended; numbered = numbered; by_rule = sym (ap not (sets_aside-create who before)) },
        subst (λ (call : Option Call). IsGiven who gives before call (Some a) effects)
            (sym (call_of-create who before number a effects fresh an_actor))
            given,
      );
      step =
          create-step who (queries who before) number a effects (not_started who before fresh) fresh an_actor
          (kept.fresh fresh).not_failed;
      retries = cell_state.retries;
      counted = kept.counted;
      acts_of_it = create_acts_of who (queries who before) number a effects;
      booked =
          create-booked who (queries who before) number a effects cell_state.retries cell_state.fanout cell_state.is_ready new (kept.fresh fresh).not_failed
          (is ∙ ap (created who (Some a) effects number) as_before);
      acted = acted;
      blank = λ e. absurd (not_fresh_after who (queries who before) number a effects e);
    }

  -- ---- the guardian

  module _ (guardian : is_guardian who ≡ true) where
    abbrev guardian_after : Queries
    guardian_after = record (passed (queries who before) (silent number system.Create)) {
      phase = Live;
      marked = (queries who before).marked - 1;
      children = (queries who before).children ++ who.prepared;
      messages = [];
    }

    acted_guardian : acts who before (silent number system.Create) ≡ ResumeSelf ∷ to_each system.Create who.prepared
    unfolding acts
    acted_guardian = if_true _ _ _ (ap (λ p. phase_is p Fresh) fresh) ∙ if_true _ _ _ guardian

    pub create_guardian-row : (new : CellState) → new ≡ created_guardian who number cell_state → IsSilentRow who before number system.Create cell_state new
    create_guardian-row new is = record {
      calls_nothing = if_true _ _ _ guardian;
      after = guardian_after;
      step = create_guardian-step who (queries who before) number (not_started who before fresh) fresh guardian;
      same_unspawned = refl;
      same_messages = λ an_actor. let both : false ≡ true = sym an_actor ∙ guardian in cc;
      retries = cell_state.retries;
      counted = kept.counted;
      acts_of_it = ResumeSelf ∷ to_each system.Create who.prepared;
      booked = is ∙ ap (created_guardian who number) as_before;
      acted = acted_guardian;
      blank = λ e. cc;
    }
