-- The guardian is never Broken: nothing is called of it that could fail.
use Rattle.std.proofs.Common.{◌≡◌, ℕ, List, [], ◌∷◌, Bool, true, false, refl, ap, sym, ◌∙◌, subst}
use Rattle.std.specs.Prelude.{◌||◌, if◌then◌else◌, None}
use Rattle.mb_msg.specs.declared.system.SysMsg.{SysMsg}
use Rattle.mb_actor.specs.Behaviour.{Moment, Reply}
use Rattle.mb_actor.specs.declared.phase.Phase.{Phase}
use Rattle.mb_actor.specs.declared.phase.Phase.TheVariants.{Fresh, Live, Broken, Ending, Ended}
use Rattle.mb_journal.specs.Entry.{Entry, Outcome, is_failed, outcome_answer}
use Rattle.mb_journal.specs.Entry.Entry.{Handled, System, Dropped}
use Rattle.mb_journal.specs.Entry.Outcome.{Applied, SetAside}
use Rattle.mb_journal.specs.Identity.{Identity, is_guardian}
use Rattle.mb_journal.specs.Lawful.{AreLawful, IsGiven, call_of}
use Rattle.mb_journal.specs.Life.{phase, is_start, is_restart, is_ending, is_last}
use Rattle.mb_journal.specs.Phase.{phase_is}
use Rattle.mb_journal.proofs.TestLemmas.{if_true}

-- an entry that did not fail breaks no actor
still-whole : (p : Phase) (last ending begins : Bool) → phase_is p Broken ≡ false →
    phase_is (if phase_is p Ended || last then Ended
    else (if phase_is p Ending || ending then Ending
    else (if begins then (if false then Broken else Live) else p))) Broken ≡ false
still-whole Broken last ending begins whole = cc
still-whole Fresh true ending begins whole = refl
still-whole Fresh false true begins whole = refl
still-whole Fresh false false true whole = refl
still-whole Fresh false false false whole = refl
still-whole Live true ending begins whole = refl
still-whole Live false true begins whole = refl
still-whole Live false false true whole = refl
still-whole Live false false false whole = refl
still-whole Ending true ending begins whole = refl
still-whole Ending false ending begins whole = refl
still-whole Ended last ending begins whole = refl

module _ (who : Identity) (before : List Entry) (number : ℕ) (m : SysMsg) (outcome : Outcome) where
  abbrev e : Entry
  e = System number m outcome

  unbroken-step : is_failed (outcome_answer outcome) ≡ false → phase_is (phase who before) Broken ≡ false →
      phase_is (phase who (e ∷ before)) Broken ≡ false
  unfolding phase
  unbroken-step answered whole =
      (λ i. phase_is (if phase_is (phase who before) Ended || is_last who e before then Ended
      else (if phase_is (phase who before) Ending || is_ending e before then Ending
      else (if is_start e before || is_restart who e before then (if answered i then Broken else Live)
      else phase who before))) Broken)
      ∙ still-whole (phase who before) (is_last who e before) (is_ending e before) (is_start e before || is_restart who e before) whole

pub guardian-unbroken : (who : Identity) (gives : Moment → Reply → Type 0) (journal : List Entry) → AreLawful who gives journal →
    is_guardian who ≡ true → phase_is (phase who journal) Broken ≡ false
unfolding AreLawful phase
guardian-unbroken who gives [] lawful guardian = refl
guardian-unbroken who gives (Handled envelope reading (Applied a effects) ∷ before) lawful guardian =
    let an_actor = lawful.0.an_actor in cc
guardian-unbroken who gives (Handled envelope reading SetAside ∷ before) lawful guardian = absurd lawful.0
guardian-unbroken who gives (Dropped envelope ∷ before) lawful guardian = let an_actor = lawful.0.an_actor in cc
guardian-unbroken who gives (System number m (Applied a effects) ∷ before) lawful guardian =
    let silent : call_of who before (System number m (Applied a effects)) ≡ None = if_true _ _ _ guardian in
    let none : IsGiven who gives before None a effects = subst (λ call. IsGiven who gives before call a effects) silent lawful.0.1 in
    unbroken-step who before number m (Applied a effects) (ap is_failed none.0) (guardian-unbroken who gives before lawful.1 guardian)
guardian-unbroken who gives (System number m SetAside ∷ before) lawful guardian =
    unbroken-step who before number m SetAside refl (guardian-unbroken who gives before lawful.1 guardian)

-- a Broken actor is no guardian
pub broken-actor : (who : Identity) (gives : Moment → Reply → Type 0) (journal : List Entry) → AreLawful who gives journal →
    phase who journal ≡ Broken → is_guardian who ≡ false
broken-actor who gives journal lawful broken = by (is_guardian who) (guardian-unbroken who gives journal lawful)
  where
    by : (b : Bool) → (b ≡ true → phase_is (phase who journal) Broken ≡ false) → b ≡ false
    by false whole = refl
    by true whole = let no = sym (ap (λ p. phase_is p Broken) broken) ∙ whole refl in cc
