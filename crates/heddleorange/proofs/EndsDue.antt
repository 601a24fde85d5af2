-- An actor that has ended has to tell its parent, and each that watched it, of its end.
use Rattle.std.proofs.Common.{◌≡◌, ◌⊎◌, inl, inr, Bool, true, false, if◌then◌else◌, List, [], ◌∷◌, ◌++◌, Option, Some, None, ap, arith, cond, refl, sym, subst, ◌∙◌}
use Rattle.std.specs.Prelude.{Contains, not, ◌&&◌, ◌||◌}
use Rattle.std.proofs.lemmas.List.{append-nil}
use Rattle.std.proofs.lemmas.List.Elements.{Contains-append_right}
use Rattle.std.proofs.lemmas.Option.{none-some, same_Some}
use Rattle.mb_actor.specs.ActorList.{has, is_same}
use Rattle.mb_actor.specs.Behaviour.{Moment, Reply}
use Rattle.mb_actor.specs.declared.effect.Effect.{Effect}
use Rattle.mb_actor.specs.declared.phase.Phase.{Phase}
use Rattle.mb_actor.specs.declared.phase.Phase.TheVariants.{Broken, Ended, Ending, Fresh, Live}
use Rattle.mb_gate.specs.SentSystem.{due_since, messages_of}
use Rattle.mb_home.proofs.FoldLaw.{entry-not_ended}
use Rattle.mb_journal.proofs.Kept.{same-is}
use Rattle.mb_journal.proofs.PhaseLemmas.{agrees, endings_agree}
use Rattle.mb_journal.specs.ActorList.{without}
use Rattle.mb_journal.specs.Acts.{Act, acts, died_acts, end_acts, stop_acts, terminate_acts, to_each}
use Rattle.mb_journal.specs.Acts.Act.{CloseSelf, ResumeSelf, SuspendSelf, Sys, Tell}
use Rattle.mb_journal.specs.Entry.{Entry, Outcome, answered_failed}
use Rattle.mb_journal.specs.Entry.Entry.{Dropped, Handled, System}
use Rattle.mb_journal.specs.Entry.Outcome.{Applied, SetAside}
use Rattle.mb_journal.specs.Identity.{Identity}
use Rattle.mb_journal.specs.Lawful.{AreLawful}
use Rattle.mb_journal.specs.Life.{children, closed, has_ending, is_alone, is_empty, is_ending, is_last_in, is_restart_in, is_start, phase}
use Rattle.mb_journal.specs.Phase.{phase_is}
use Rattle.mb_journal.specs.Watching.{watchers, watching}
use Rattle.mb_msg.specs.declared.envelope.Body.TheVariants as body
use Rattle.mb_msg.specs.declared.id.ActorId.{ActorId}
use Rattle.mb_msg.specs.declared.system.SysMsg.{SysMsg}
use Rattle.mb_msg.specs.declared.system.SysMsg.TheVariants as system
use Rattle.heddleorange.specs.Watched.{IsToBeTold}
use Rattle.heddleorange.proofs.Came.{further}

neither : {A : Type 0} → true ≡ false → A
neither e = absurd (false_is e)
  where
    false_is : true ≡ false → ⊥
    false_is e = cc

differ : {A : Type 0} {b : Bool} → b ≡ true → b ≡ false → A
differ is isnt = neither (sym is ∙ isnt)

-- what ends an actor is its last entry
is-last : (who : Identity) (e : Entry) (before : List Entry) → closed who before ≡ false → closed who (e ∷ before) ≡ true
    → is_last_in (phase who before) who e before ≡ true
unfolding phase
is-last who e before open_yet shut =
    by_tests (phase_is (phase who before) Ended) (is_last_in (phase who before) who e before)
    (phase_is (phase who before) Ending || is_ending e before) (is_start e before || is_restart_in (phase who before) who e) (answered_failed e)
    (phase who before) open_yet open_yet shut
  where
    by_tests : (ended last ending begins fails : Bool) (p : Phase) → ended ≡ false → phase_is p Ended ≡ false
        → phase_is (if ended || last then Ended else (if ending then Ending else (if begins then (if fails then Broken else Live) else p))) Ended ≡ true
        → last ≡ true
    by_tests true last ending begins fails p open_yet still is = neither open_yet
    by_tests false true ending begins fails p open_yet still is = refl
    by_tests false false true begins fails p open_yet still is = absurd (cc is)
    by_tests false false false true true p open_yet still is = absurd (cc is)
    by_tests false false false true false p open_yet still is = absurd (cc is)
    by_tests false false false false fails p open_yet still is = differ is still

module _ (w : ActorId) (who : Identity) where
  -- these acts tell the actor of the end
  abbrev IsTold : List Act → Type 0
  IsTold list = Contains (messages_of list) (w.0, system.Died who.this)

  behind : (a b : List Act) → IsTold b → IsTold (a ++ b)
  behind [] b is = is
  behind (Tell to told ∷ a) b is = behind a b is
  behind (Sys to m ∷ a) b is = further (to.0, m) (messages_of (a ++ b)) (w.0, system.Died who.this) (behind a b is)
  behind (SuspendSelf ∷ a) b is = behind a b is
  behind (ResumeSelf ∷ a) b is = behind a b is
  behind (CloseSelf ∷ a) b is = behind a b is

  in-front : (to : ActorId) (rest : List Act) → to ≡ w → IsTold (Sys to (system.Died who.this) ∷ rest)
  in-front to rest same = (0, omega arith, λ i. (ap (λ (a : ActorId). a.0) same i, system.Died who.this))

  each : (list : List ActorId) → has list w ≡ true → IsTold (to_each (system.Died who.this) list)
  each [] is = absurd (cc is)
  each (y ∷ list) is = by_test (is_same w y) refl (each list) is
    where
      by_test : (b : Bool) → is_same w y ≡ b → (has list w ≡ true → IsTold (to_each (system.Died who.this) list))
          → (b || has list w) ≡ true → IsTold (to_each (system.Died who.this) (y ∷ list))
      by_test true same rest is = in-front y (to_each (system.Died who.this) list) (sym (same-is w y same))
      by_test false other rest is =
          further (y.0, system.Died who.this) (messages_of (to_each (system.Died who.this) list)) (w.0, system.Died who.this) (rest is)

  -- who is another stays
  stays : (p : ActorId) (list : List ActorId) → is_same p w ≡ false → has list w ≡ true → has (without list p) w ≡ true
  stays p [] other is = is
  stays p (z ∷ list) other is = by_test (is_same p z) refl (is_same w z) refl is (stays p list other)
    where
      by_test : (b : Bool) → is_same p z ≡ b → (c : Bool) → is_same w z ≡ c → (c || has list w) ≡ true
          → (has list w ≡ true → has (without list p) w ≡ true)
          → has (cond (not b) (z ∷ without list p) (without list p)) w ≡ true
      by_test true gone true same is rest = differ (ap (is_same p) (same-is w z same) ∙ gone) other
      by_test true gone false same is rest = rest is
      by_test false kept true same is rest = λ i. same i || has (without list p) w
      by_test false kept false same is rest = (λ i. same i || has (without list p) w) ∙ rest is

  ends : (watched_by : List ActorId) (effects : List Effect) → (who.parent ≡ Some w) ⊎ (has watched_by w ≡ true)
      → IsTold (end_acts who watched_by effects)
  ends watched_by effects is = by_parent who.parent is
    where
      notice : SysMsg
      notice = system.Died who.this

      by_parent : (parent : Option ActorId) → (parent ≡ Some w) ⊎ (has watched_by w ≡ true)
          → IsTold (end_acts (record who { parent = parent }) watched_by effects)
      by_parent None (inl is) = absurd (none-some w is)
      by_parent None (inr is) = behind (stop_acts effects) (CloseSelf ∷ to_each notice watched_by) (each watched_by is)
      by_parent (Some p) is =
          behind (stop_acts effects) (CloseSelf ∷ Sys p notice ∷ to_each notice (without watched_by p)) (by_test (is_same p w) refl is)
        where
          by_test : (b : Bool) → is_same p w ≡ b → (Some p ≡ Some w) ⊎ (has watched_by w ≡ true)
              → IsTold (CloseSelf ∷ Sys p notice ∷ to_each notice (without watched_by p))
          by_test true same is = in-front p (to_each notice (without watched_by p)) (same-is p w same)
          by_test false other (inl is) = in-front p (to_each notice (without watched_by p)) (same_Some p w is)
          by_test false other (inr is) =
              further (p.0, notice) (messages_of (to_each notice (without watched_by p))) (w.0, notice)
              (each (without watched_by p) (stays p watched_by other is))

  module _ (before : List Entry) where
    never : (b : Bool) → (b && false) ≡ false
    never true = refl
    never false = refl

    -- what follows where an act is made
    shown : (b : Bool) (list : List Act) → b ≡ true → IsTold list → IsTold (if b then list else [])
    shown b list holds told = subst (λ c. IsTold (if c then list else [])) (sym holds) told

    terminated : (effects : List Effect) → is_empty (children who before) ≡ true → (who.parent ≡ Some w) ⊎ (has (watchers before) w ≡ true)
        → IsTold (terminate_acts who before effects)
    terminated effects childless is =
        behind (to_each (system.Unwatch who.this) (watching who before) ++ to_each system.Terminate (children who before))
        (if is_empty (children who before) then end_acts who (watchers before) effects else SuspendSelf ∷ [])
        (subst (λ c. IsTold (if c then end_acts who (watchers before) effects else SuspendSelf ∷ [])) (sym childless)
        (ends (watchers before) effects is))

    died : (x : ActorId) (effects : List Effect) → (phase_is (phase who before) Ending && is_alone (children who before) x) ≡ true
        → (who.parent ≡ Some w) ⊎ (has (watchers before) w ≡ true) → IsTold (died_acts who before x effects)
    died x effects last is =
        behind (if has (watching who before) x then Tell who.this (body.Terminated x) ∷ [] else [])
        (if phase_is (phase who before) Ending && is_alone (children who before) x then end_acts who (watchers before) effects else [])
        (shown (phase_is (phase who before) Ending && is_alone (children who before) x) (end_acts who (watchers before) effects) last (ends (watchers before) effects is))

    by-entry : (e : Entry) → is_last_in (phase who before) who e before ≡ true → IsToBeTold who (e ∷ before) w → IsTold (acts who before e)
    unfolding acts watchers
    by-entry (Handled envelope reading outcome) last is = differ last (never (phase_is (phase who before) Ending))
    by-entry (Dropped envelope) last is = differ last (never (phase_is (phase who before) Ending))
    by-entry (System number m outcome) last is = by_message m outcome last is
      where
        by_message : (m : SysMsg) (outcome : Outcome) → is_last_in (phase who before) who (System number m outcome) before ≡ true
            → IsToBeTold who (System number m outcome ∷ before) w → IsTold (acts who before (System number m outcome))
        by_message system.Create outcome last is = differ last (never (phase_is (phase who before) Ending))
        by_message (system.Recreate c) outcome last is = differ last (never (phase_is (phase who before) Ending))
        by_message system.Suspend outcome last is = differ last (never (phase_is (phase who before) Ending))
        by_message (system.Resume f) outcome last is = differ last (never (phase_is (phase who before) Ending))
        by_message (system.Watch v) outcome last is = differ last (never (phase_is (phase who before) Ending))
        by_message (system.Unwatch v) outcome last is = differ last (never (phase_is (phase who before) Ending))
        by_message (system.Failed y c) outcome last is = differ last (never (phase_is (phase who before) Ending))
        by_message system.Terminate SetAside last is = differ last (never (phase_is (phase who before) Ending))
        by_message (system.Died y) SetAside last is = differ last (never (phase_is (phase who before) Ending))
        by_message system.Terminate (Applied answer effects) last is =
            by_tests (has_ending before) refl (is_empty (children who before)) refl last
          where
            by_phase : (p : Phase) → endings_agree p false → IsTold (terminate_acts who before effects)
                → IsTold (if phase_is p Fresh then terminate_acts who before effects
                else (if phase_is p Ending then [] else terminate_acts who before effects))
            by_phase Fresh agree told = told
            by_phase Live agree told = told
            by_phase Broken agree told = told
            by_phase Ending agree told = neither (sym agree)
            by_phase Ended agree told = told

            by_tests : (ended : Bool) → has_ending before ≡ ended → (childless : Bool) → is_empty (children who before) ≡ childless
                → ((not ended && childless) || (phase_is (phase who before) Ending && false)) ≡ true
                → IsTold (if phase_is (phase who before) Fresh then terminate_acts who before effects
                else (if phase_is (phase who before) Ending then [] else terminate_acts who before effects))
            by_tests true has childless empty last = differ last (never (phase_is (phase who before) Ending))
            by_tests false has false empty last = differ last (never (phase_is (phase who before) Ending))
            by_tests false has true empty last =
                by_phase (phase who before) (subst (endings_agree (phase who before)) has (agrees who before).1) (terminated effects empty is)
        by_message (system.Died y) (Applied answer effects) last is = by_phase (phase who before) last (died y effects last is)
          where
            by_phase : (p : Phase) → (phase_is p Ending && is_alone (children who before) y) ≡ true → IsTold (died_acts who before y effects)
                → IsTold (if phase_is p Fresh then [] else died_acts who before y effects)
            by_phase Fresh last told = absurd (cc last)
            by_phase Live last told = told
            by_phase Broken last told = told
            by_phase Ending last told = told
            by_phase Ended last told = told

  module _ (gives : Moment → Reply → Type 0) where
    pub told-due : (journal : List Entry) → AreLawful who gives journal → closed who journal ≡ true → IsToBeTold who journal w
        → Contains (due_since who journal []) (w.0, system.Died who.this)
    unfolding AreLawful phase
    told-due [] lawful shut is = absurd (cc shut)
    told-due (e ∷ before) lawful shut is =
        let told = by-entry before e (is-last who e before (entry-not_ended who gives before e lawful.0) shut) is in
        Contains-append_right (due_since who before []) (messages_of (acts who (before ++ []) e)) (w.0, system.Died who.this)
        (subst (λ l. IsTold (acts who l e)) (sym (append-nil before)) told)
