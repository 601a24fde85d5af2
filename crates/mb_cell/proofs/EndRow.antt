-- The end of an actor: `Terminate` without children, and the `Died` of the last child while it ends.
use Rattle.std.proofs.Common.{◌≡◌, ℕ, List, [], ◌∷◌, ◌++◌, Bool, true, false, refl, ap, sym, ◌∙◌, subst}
use Rattle.std.specs.Prelude.{not, ◌&&◌, if◌then◌else◌, Option, Some, None}
use Rattle.std.proofs.lemmas.List.{append-nil}
use Rattle.mb_msg.specs.declared.envelope.Body.TheVariants as body
use Rattle.mb_msg.specs.declared.id.ActorId.{ActorId}
use Rattle.mb_msg.specs.declared.system.SysMsg.TheVariants as system
use Rattle.mb_actor.specs.ActorList.{has}
use Rattle.mb_actor.specs.Behaviour.{Moment, Reply}
use Rattle.mb_actor.specs.OutboxView.{OutboxView}
use Rattle.mb_actor.specs.declared.call.Call.{Call}
use Rattle.mb_actor.specs.declared.call.Call.TheVariants.{Stop}
use Rattle.mb_actor.specs.declared.effect.Effect.{Effect}
use Rattle.mb_actor.specs.declared.phase.Phase.{Phase}
use Rattle.mb_actor.specs.declared.phase.Phase.TheVariants.{Fresh, Live, Broken, Ending, Ended}
use Rattle.mb_journal.specs.ActorList.{without, joined}
use Rattle.mb_journal.specs.Acts.{Act, acts, end_acts, to_each}
use Rattle.mb_journal.specs.Acts.Act.{Tell, SuspendSelf}
use Rattle.mb_journal.specs.Aside.{sets_aside}
use Rattle.mb_journal.specs.Entry.{Entry}
use Rattle.mb_journal.specs.Entry.Outcome.{Applied}
use Rattle.mb_journal.specs.Identity.{Identity, is_guardian}
use Rattle.mb_journal.specs.Lawful.{IsGiven, IsNumbered, call_of, was_live}
use Rattle.mb_journal.specs.Life.{closed, phase, children, is_empty, is_alone, has_ending}
use Rattle.mb_journal.specs.Phase.{phase_is}
use Rattle.mb_journal.specs.Watching.{watching, watchers}
use Rattle.mb_journal.proofs.DiedSteps.{died_entry, died-tests, died_last-step}
use Rattle.mb_journal.proofs.Fold.{Queries, queries}
use Rattle.mb_journal.proofs.PhaseLemmas.{agrees, endings_agree}
use Rattle.mb_journal.proofs.Steps.{none_passed, passed}
use Rattle.mb_journal.proofs.TerminateSteps.{terminate_entry, ended-tests, ended-step}
use Rattle.mb_journal.proofs.TestLemmas.{if_true, if_false, if_same}
use Rattle.mb_cell.specs.Agrees.{Agrees}
use Rattle.mb_supervision.specs.CellStateRecord.{CellState}
use Rattle.mb_supervision.specs.Rows.{ended, ended_at_once, told_of_death}
use Rattle.mb_cell.proofs.CallingRow.{IsCallingRow}
use Rattle.mb_cell.proofs.RowLaws.{cell_state_of, open_cell_state, booked-open, call-by}
use Rattle.mb_cell.proofs.SilentRow.{IsSilentRow}

-- an actor that neither ends nor ended was not told to end
pub unended : (p : Phase) (b : Bool) → phase_is p Ending ≡ false → phase_is p Ended ≡ false → endings_agree p b → b ≡ false
unended Fresh b x y e = e
unended Live b x y e = e
unended Broken b x y e = e
unended Ending b x y e = absurd (cc x)
unended Ended b x y e = absurd (cc y)

pub no_members : (list : List ActorId) → is_empty list ≡ true → list ≡ []
no_members [] e = refl
no_members (x ∷ list) e = cc

module _ (who : Identity) (before : List Entry) (gives : Moment → Reply → Type 0) (cell_state : CellState) (tray : OutboxView)
    (kept : Agrees who before gives cell_state tray) (number : ℕ) (not_ended : closed who before ≡ false) (done : cell_state.acts ≡ []) where
  as_before : cell_state ≡ open_cell_state (queries who before) cell_state.retries [] cell_state.fanout cell_state.is_ready
  as_before =
      booked-open who before gives cell_state tray kept not_ended
      ∙ ap (λ (a : List Act). open_cell_state (queries who before) cell_state.retries a cell_state.fanout cell_state.is_ready) done

  -- ---- Terminate without children

  module _ (effects : List Effect) (off_ending : phase_is (phase who before) Ending ≡ false) (alone : is_empty (children who before) ≡ true) where
    unended_now : has_ending before ≡ false
    unended_now = unended (phase who before) (has_ending before) off_ending not_ended (agrees who before).1

    abbrev entry : Entry
    entry = terminate_entry who (queries who before) number None effects

    abbrev pub ended_after : Queries
    ended_after = record (passed (queries who before) entry) {
      phase = Ended;
      was_live = phase_is (phase who before) Live;
      watching = [];
      due = [];
    }

    abbrev ended_acts : List Act
    ended_acts = to_each (system.Unwatch who.this) (watching who before) ++ end_acts who (watchers before) effects

    abbrev all : List Act
    all =
        to_each (system.Unwatch who.this) (watching who before) ++ to_each system.Terminate (children who before)
        ++ (if is_empty (children who before) then end_acts who (watchers before) effects else SuspendSelf ∷ [])

    live_now : was_live who (entry ∷ before) ≡ phase_is (phase who before) Live
    unfolding was_live
    live_now = if_true _ _ _ (ap not unended_now)

    acted : acts who before entry ≡ ended_acts
    unfolding acts
    acted =
        (λ i. if phase_is (phase who before) Fresh then all else (if off_ending i then [] else all))
        ∙ (if_same (phase_is (phase who before) Fresh) all
        ∙ ((λ i. to_each (system.Unwatch who.this) (watching who before) ++ to_each system.Terminate (no_members (children who before) alone i)
        ++ (if alone i then end_acts who (watchers before) effects else SuspendSelf ∷ []))
        ∙ ap (λ list. list ++ end_acts who (watchers before) effects) (append-nil (to_each (system.Unwatch who.this) (watching who before)))))

    booked : (new : CellState) → new ≡ ended_at_once who effects number cell_state → new ≡ cell_state_of ended_after cell_state.retries ended_acts cell_state.fanout false
    booked new is = is ∙ ap (ended_at_once who effects number) as_before

    -- the actor's stop is called if it was Live
    pub stop-row : is_guardian who ≡ false → phase who before ≡ Live → IsNumbered who before number system.Terminate →
        sets_aside who before system.Terminate ≡ false → (new : CellState) → new ≡ ended_at_once who effects number cell_state →
        IsCallingRow who gives before entry Stop None effects cell_state new ended_after
    stop-row an_actor live numbered applied new is =
        let calls : call_of who before entry ≡ Some Stop =
        call-by who before number system.Terminate (Applied None effects) (record none_passed { ending = true; last = true })
        (ended-tests who (queries who before) number None effects unended_now alone)
        ∙ (if_false _ _ _ an_actor ∙ if_true _ _ _ (live_now ∙ ap (λ p. phase_is p Live) live)) in
        record {
          calls_it = calls;
          answered = refl;
          lawful = λ given. (
            record { not_ended = not_ended; numbered = numbered; by_rule = sym (ap not applied) },
            subst (λ (c : Option Call). IsGiven who gives before c None effects) (sym calls) given,
          );
          step = ended-step who (queries who before) number None effects unended_now alone;
          retries = cell_state.retries;
          counted = kept.counted;
          acts_of_it = ended_acts;
          booked = booked new is;
          acted = acted;
          blank = λ e. cc;
        }

  -- and else nothing is called
  pub ended-row : (off_ending : phase_is (phase who before) Ending ≡ false) → is_empty (children who before) ≡ true →
      (not (is_guardian who) && phase_is (phase who before) Live) ≡ false → (new : CellState) → new ≡ ended_at_once who [] number cell_state →
      IsSilentRow who before number system.Terminate cell_state new
  ended-row off_ending alone nothing new is = record {
    calls_nothing =
        call-by who before number system.Terminate (Applied None []) (record none_passed { ending = true; last = true })
        (ended-tests who (queries who before) number None [] (unended_now [] off_ending alone) alone)
        ∙ (ap (λ b. if is_guardian who then None else (if b then Some Stop else None)) (live_now [] off_ending alone)
        ∙ by_both (is_guardian who) (phase_is (phase who before) Live) nothing);
    after = ended_after [] off_ending alone;
    step = ended-step who (queries who before) number None [] (unended_now [] off_ending alone) alone;
    same_unspawned = refl;
    same_messages = λ an_actor. refl;
    retries = cell_state.retries;
    counted = kept.counted;
    acts_of_it = ended_acts [] off_ending alone;
    booked = booked [] off_ending alone new is;
    acted = acted [] off_ending alone;
    blank = λ e. cc;
  }
    where
      by_both : (guardian live : Bool) → (not guardian && live) ≡ false → (if guardian then None else (if live then Some Stop else None)) ≡ None
      by_both true live e = refl
      by_both false true e = cc
      by_both false false e = refl

  -- ---- the Died of the last child while it ends

  module _ (x : ActorId) (effects : List Effect) (last : (phase_is (phase who before) Ending && is_alone (children who before) x) ≡ true) where
    abbrev died : Entry
    died = died_entry who (queries who before) number x None effects

    abbrev pub died_after : Queries
    died_after = record (passed (queries who before) died) {
      phase = Ended;
      children = without (children who before) x;
      watching = without (watching who before) x;
      due = if has (watching who before) x then joined (queries who before).due x else (queries who before).due;
    }

    abbrev died_acts_of : List Act
    died_acts_of =
        (if has (watching who before) x then Tell who.this (body.Terminated x) ∷ [] else []) ++ end_acts who (watchers before) effects

    is_ending_now : phase_is (phase who before) Ending ≡ true
    is_ending_now = first (phase_is (phase who before) Ending) (is_alone (children who before) x) last
      where
        first : (a b : Bool) → (a && b) ≡ true → a ≡ true
        first true b e = refl
        first false b e = cc

    acted_died : acts who before died ≡ died_acts_of
    unfolding acts
    acted_died =
        if_false _ _ _ (off_fresh_by (phase who before) is_ending_now)
        ∙ ap (λ b. (if has (watching who before) x then Tell who.this (body.Terminated x) ∷ [] else [])
        ++ (if b then end_acts who (watchers before) effects else [])) last
      where
        off_fresh_by : (p : Phase) → phase_is p Ending ≡ true → phase_is p Fresh ≡ false
        off_fresh_by Fresh e = cc
        off_fresh_by Live e = refl
        off_fresh_by Broken e = refl
        off_fresh_by Ending e = refl
        off_fresh_by Ended e = refl

    booked_died : (new : CellState) → new ≡ ended who effects (told_of_death who x number cell_state) →
        new ≡ cell_state_of died_after cell_state.retries died_acts_of cell_state.fanout false
    booked_died new is = is ∙ ap (λ b. ended who effects (told_of_death who x number b)) as_before

    live_then : was_live who (died ∷ before) ≡ was_live who before
    unfolding was_live
    live_then = refl

    pub stop_last-row : is_guardian who ≡ false → was_live who before ≡ true → IsNumbered who before number (system.Died x) →
        sets_aside who before (system.Died x) ≡ false → (new : CellState) → new ≡ ended who effects (told_of_death who x number cell_state) →
        IsCallingRow who gives before died Stop None effects cell_state new died_after
    stop_last-row an_actor live numbered applied new is =
        let calls : call_of who before died ≡ Some Stop =
        call-by who before number (system.Died x) (Applied None effects) (record none_passed { last = true })
        (died-tests who (queries who before) number x None effects true last)
        ∙ (if_false _ _ _ an_actor ∙ if_true _ _ _ (live_then ∙ live)) in
        record {
          calls_it = calls;
          answered = refl;
          lawful = λ given. (
            record { not_ended = not_ended; numbered = numbered; by_rule = sym (ap not applied) },
            subst (λ (c : Option Call). IsGiven who gives before c None effects) (sym calls) given,
          );
          step = died_last-step who (queries who before) number x None effects last;
          retries = cell_state.retries;
          counted = kept.counted;
          acts_of_it = died_acts_of;
          booked = booked_died new is;
          acted = acted_died;
          blank = λ e. cc;
        }

  pub ended_last-row : (x : ActorId) (last : (phase_is (phase who before) Ending && is_alone (children who before) x) ≡ true) →
      (not (is_guardian who) && was_live who before) ≡ false → (new : CellState) → new ≡ ended who [] (told_of_death who x number cell_state) →
      IsSilentRow who before number (system.Died x) cell_state new
  ended_last-row x last nothing new is = record {
    calls_nothing =
        call-by who before number (system.Died x) (Applied None []) (record none_passed { last = true })
        (died-tests who (queries who before) number x None [] true last)
        ∙ (ap (λ b. if is_guardian who then None else (if b then Some Stop else None)) (live_then x [] last)
        ∙ by_both (is_guardian who) (was_live who before) nothing);
    after = died_after x [] last;
    step = died_last-step who (queries who before) number x None [] last;
    same_unspawned = refl;
    same_messages = λ an_actor. refl;
    retries = cell_state.retries;
    counted = kept.counted;
    acts_of_it = died_acts_of x [] last;
    booked = booked_died x [] last new is;
    acted = acted_died x [] last;
    blank = λ e. cc;
  }
    where
      by_both : (guardian live : Bool) → (not guardian && live) ≡ false → (if guardian then None else (if live then Some Stop else None)) ≡ None
      by_both true live e = refl
      by_both false true e = cc
      by_both false false e = refl
