-- An actor that was never started has no children: it is Fresh, or it has ended.
use Rattle.std.proofs.Common.{◌≡◌, ℕ, List, [], ◌∷◌, ◌++◌, Bool, true, false, refl, ap, sym, ◌∙◌, subst}
use Rattle.std.specs.Prelude.{not, ◌&&◌, ◌||◌, if◌then◌else◌, Option, Some, None}
use Rattle.mb_msg.specs.declared.system.SysMsg.{SysMsg}
use Rattle.mb_msg.specs.declared.system.SysMsg.TheVariants as system
use Rattle.mb_actor.specs.Behaviour.{Moment, Reply}
use Rattle.mb_actor.specs.OutboxView.{spawns_of}
use Rattle.mb_actor.specs.declared.answer.Answer.{Answer}
use Rattle.mb_actor.specs.declared.call.Call.TheVariants.{Start, Restart, Stop}
use Rattle.mb_actor.specs.declared.effect.Effect.{Effect}
use Rattle.mb_actor.specs.declared.phase.Phase.{Phase}
use Rattle.mb_actor.specs.declared.phase.Phase.TheVariants.{Fresh, Live, Broken, Ending, Ended}
use Rattle.mb_journal.specs.Effects.{applies, lasting_effects}
use Rattle.mb_journal.specs.Entry.{Entry, Outcome, answered_failed}
use Rattle.mb_journal.specs.Entry.Entry.{Handled, System, Dropped}
use Rattle.mb_journal.specs.Entry.Outcome.{Applied, SetAside}
use Rattle.mb_journal.specs.Identity.{Identity, is_guardian}
use Rattle.mb_journal.specs.Lawful.{AreLawful, IsGiven, call_of, was_live, restart_cause}
use Rattle.mb_journal.specs.Life.{phase, closed, children, has_start, is_create, is_recreate, is_resume, is_ending, is_empty}
use Rattle.mb_journal.specs.Life.{after_death, ends_last_child, is_start, is_restart, is_last}
use Rattle.mb_journal.specs.Phase.{phase_is}
use Rattle.mb_journal.proofs.TestLemmas.{and-false, if_same}

-- Fresh or Ended
abbrev pub rests : Phase → Type 0
rests Fresh = Unit {0}
rests Ended = Unit {0}
rests _ = ⊥

fresh-then : (p : Phase) → rests p → phase_is p Ended ≡ false → p ≡ Fresh
fresh-then Fresh rest live = refl
fresh-then Live rest live = absurd rest
fresh-then Broken rest live = absurd rest
fresh-then Ending rest live = absurd rest
fresh-then Ended rest live = cc

neither : (a b : Bool) → (a || b) ≡ false → (a ≡ false) × (b ≡ false)
neither true b never = cc
neither false b never = (refl, never)

-- nothing is left of no children, and what was not called for spawns none
none-after_death : (e : Entry) → after_death e [] ≡ []
none-after_death (System number (system.Died x) (Applied a effects)) = refl
none-after_death e = refl

none-lasting : (number : ℕ) (m : SysMsg) → lasting_effects (System number m (Applied None [])) ≡ []
none-lasting number system.Terminate = refl
none-lasting number (system.Died x) = refl
none-lasting number m = refl

none-lasting_aside : (number : ℕ) (m : SysMsg) → lasting_effects (System number m SetAside) ≡ []
none-lasting_aside number system.Terminate = refl
none-lasting_aside number (system.Died x) = refl
none-lasting_aside number m = refl

-- a system message, other than a Create, that comes while Fresh
module _ (who : Identity) (before : List Entry) (number : ℕ) (m : SysMsg) (outcome : Outcome) (fresh : phase who before ≡ Fresh)
    (childless : children who before ≡ []) (no_create : applies is_create (System number m outcome) ≡ false) where
  abbrev e : Entry
  e = System number m outcome

  no_start : is_start e before ≡ false
  no_start = ap (λ b. b && not (has_start before)) no_create

  no_restart : is_restart who e before ≡ false
  no_restart =
      ap (λ p. (applies is_recreate e || (applies is_resume e && phase_is p Broken)) && not (phase_is p Fresh) && not (is_guardian who)) fresh
      ∙ ap (λ b. b && not (is_guardian who)) (and-false (applies is_recreate e || (applies is_resume e && phase_is Fresh Broken)))

  -- an ending of an actor that was not Live calls no `stop`
  no_stop : (is_last who e before && was_live who (e ∷ before)) ≡ false
  unfolding was_live
  no_stop =
      ap (λ p. ((is_ending e before && is_empty (children who before)) || (phase_is p Ending && ends_last_child e (children who before)))
      && (if is_ending e before then phase_is p Live else was_live who before)) fresh
      ∙ by (is_ending e before) (is_empty (children who before)) (was_live who before)
    where
      by : (ends empty live : Bool) → (((ends && empty) || false) && (if ends then false else live)) ≡ false
      by true empty live = and-false (empty || false)
      by false empty live = refl

  no_call : call_of who before e ≡ None
  no_call =
      (λ i. if is_guardian who then None
      else (if no_start i then Some Start
      else (if no_restart i then Some (Restart (restart_cause m))
      else (if no_stop i then Some Stop
      else None))))
      ∙ if_same (is_guardian who) None

  still_childless : lasting_effects e ≡ [] → children who (e ∷ before) ≡ []
  unfolding children
  still_childless no_effects =
      (λ i. after_death e (childless i) ++ (if is_guardian who then (if no_start i then who.prepared else []) else spawns_of (no_effects i)))
      ∙ ((λ i. none-after_death e i ++ (if is_guardian who then [] else [])) ∙ if_same (is_guardian who) [])

  still_rests : rests (phase who (e ∷ before))
  unfolding phase
  still_rests = subst rests (sym now) (by (is_ending e before) (ends_last_child e (children who before)))
    where
      phase_if : Bool → Phase
      phase_if ends = if (ends && true) || false then Ended else (if ends then Ending else Fresh)

      by : (ends alone : Bool) → rests (phase_if ends)
      by true alone = tt
      by false alone = tt

      now : phase who (e ∷ before) ≡ phase_if (is_ending e before)
      now =
          λ i. if phase_is (fresh i) Ended
          || ((is_ending e before && is_empty (childless i)) || (phase_is (fresh i) Ending && ends_last_child e (children who before)))
          then Ended
          else (if phase_is (fresh i) Ending || is_ending e before then Ending
          else (if no_start i || no_restart i then (if answered_failed e then Broken else Live)
          else fresh i))

pub record IsIdle (who : Identity) (journal : List Entry) : Type 0 where
  pub no_children : children who journal ≡ []
  pub at_rest : rests (phase who journal)

-- a system message that calls nothing gives nothing
no_effects-given : (who : Identity) (gives : Moment → Reply → Type 0) (before : List Entry) (number : ℕ) (m : SysMsg) (a : Option Answer)
    (effects : List Effect) → call_of who before (System number m (Applied a effects)) ≡ None →
    IsGiven who gives before (call_of who before (System number m (Applied a effects))) a effects →
    lasting_effects (System number m (Applied a effects)) ≡ []
no_effects-given who gives before number m a effects silent given =
    let none : IsGiven who gives before None a effects = subst (λ call. IsGiven who gives before call a effects) silent given in
    (λ i. lasting_effects (System number m (Applied (none.0 i) (none.1 i)))) ∙ none-lasting number m

pub unstarted : (who : Identity) (gives : Moment → Reply → Type 0) (journal : List Entry) → AreLawful who gives journal →
    has_start journal ≡ false → IsIdle who journal
unfolding AreLawful has_start children phase
unstarted who gives [] lawful never = record { no_children = refl; at_rest = tt }
unstarted who gives (Handled envelope reading (Applied a effects) ∷ before) lawful never =
    absurd (subst rests lawful.0.live (unstarted who gives before lawful.1 never).at_rest)
unstarted who gives (Handled envelope reading SetAside ∷ before) lawful never = absurd lawful.0
unstarted who gives (Dropped envelope ∷ before) lawful never =
    absurd (subst rests lawful.0.live (unstarted who gives before lawful.1 never).at_rest)
unstarted who gives (System number m (Applied a effects) ∷ before) lawful never =
    let both = neither (applies is_create (System number m (Applied a effects))) (has_start before) never in
    let here = unstarted who gives before lawful.1 both.1 in
    let fresh = fresh-then (phase who before) here.at_rest lawful.0.0.not_ended in
    let silent = no_call who before number m (Applied a effects) fresh here.no_children both.0 in
    record {
      no_children =
          still_childless who before number m (Applied a effects) fresh here.no_children both.0
          (no_effects-given who gives before number m a effects silent lawful.0.1);
      at_rest = still_rests who before number m (Applied a effects) fresh here.no_children both.0;
    }
unstarted who gives (System number m SetAside ∷ before) lawful never =
    let both = neither (applies is_create (System number m SetAside)) (has_start before) never in
    let here = unstarted who gives before lawful.1 both.1 in
    let fresh = fresh-then (phase who before) here.at_rest lawful.0.not_ended in
    record {
      no_children = still_childless who before number m SetAside fresh here.no_children both.0 (none-lasting_aside number m);
      at_rest = still_rests who before number m SetAside fresh here.no_children both.0;
    }

-- an actor that is no longer Fresh and has not ended was started
pub started-once : (who : Identity) (gives : Moment → Reply → Type 0) (journal : List Entry) → AreLawful who gives journal →
    phase_is (phase who journal) Fresh ≡ false → closed who journal ≡ false → has_start journal ≡ true
started-once who gives journal lawful off_fresh not_ended =
    by (has_start journal) (phase who journal) (λ never. (unstarted who gives journal lawful never).at_rest) off_fresh not_ended
  where
    by : (s : Bool) (p : Phase) → (s ≡ false → rests p) → phase_is p Fresh ≡ false → phase_is p Ended ≡ false → s ≡ true
    by true p rest fresh ended = refl
    by false p rest fresh ended =
        let here : Fresh ≡ p = sym (fresh-then p (rest refl) ended) in
        let is_fresh : phase_is p Fresh ≡ true = ap (λ r. phase_is r Fresh) (sym here) in
        cc
