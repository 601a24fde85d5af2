-- In a lawful journal a message is set aside exactly if it has to wait.
use Rattle.std.proofs.Common.{◌≡◌, ℕ, ◌<◌, Bool, true, false, List, ◌∷◌, refl, sym, ap, ◌∙◌, arith}
use Rattle.std.specs.Prelude.{not, ◌&&◌, ◌||◌, nat_lt}
use Rattle.std.proofs.lemmas.Bool.Decides.{nat_tests}
use Rattle.mb_msg.specs.declared.system.SysMsg.{SysMsg}
use Rattle.mb_msg.specs.declared.system.SysMsg.TheVariants as system
use Rattle.mb_actor.specs.Behaviour.{Moment, Reply}
use Rattle.mb_actor.specs.declared.phase.Phase.{Phase}
use Rattle.mb_actor.specs.declared.phase.Phase.TheVariants.{Fresh, Live, Broken, Ending, Ended}
use Rattle.mb_journal.specs.Aside.{sets_aside}
use Rattle.mb_journal.specs.Entry.{Entry, Outcome}
use Rattle.mb_journal.specs.Entry.Entry.{System}
use Rattle.mb_journal.specs.Entry.Outcome.{Applied, SetAside}
use Rattle.mb_journal.specs.Identity.{Identity}
use Rattle.mb_journal.specs.Lawful.{AreLawful, IsLawful}
use Rattle.mb_journal.specs.Life.{phase}
use Rattle.mb_journal.specs.Phase.{phase_is}
use Rattle.mb_journal.specs.Suspension.{count}
use Rattle.mb_journal.specs.Waiting.{HasToWait}
use Rattle.mb_journal.specs.Waiting.HasToWait.{failed_while_ending, recreate_while_ending, suspend_while_ending, resume_while_ending, failed_while_suspended}

-- ---- phases and numbers by their tests

ending-is : (p : Phase) → phase_is p Ending ≡ true → p ≡ Ending
ending-is Fresh is = absurd (cc is)
ending-is Live is = absurd (cc is)
ending-is Broken is = absurd (cc is)
ending-is Ending is = refl
ending-is Ended is = absurd (cc is)

started-is : (p : Phase) → not (phase_is p Fresh) ≡ true → p ≡ Fresh → ⊥
started-is p is fresh = let never : true ≡ false = sym is ∙ ap (λ q. not (phase_is q Fresh)) fresh in cc never

is-started : (p : Phase) → (p ≡ Fresh → ⊥) → not (phase_is p Fresh) ≡ true
is-started Fresh started = absurd (started refl)
is-started Live started = refl
is-started Broken started = refl
is-started Ending started = refl
is-started Ended started = refl

positive : (n : ℕ) → nat_lt 0 n ≡ true → 0 < n
positive n is = grind (arith, nat_tests, is)

is-positive : (n : ℕ) → 0 < n → nat_lt 0 n ≡ true
is-positive n is = grind (arith, nat_tests, is)

-- ---- the tests

alone : (b : Bool) → ((b && true) || false) ≡ true → b ≡ true
alone true is = refl
alone false is = is

never : (b : Bool) → ((b && false) || false) ≡ true → ⊥
never true is = cc is
never false is = cc is

module _ (who : Identity) (before : List Entry) where
  waits : (m : SysMsg) → sets_aside who before m ≡ true → HasToWait who before m
  waits system.Create is = absurd (never _ is)
  waits system.Suspend is = suspend_while_ending (ending-is (phase who before) (alone _ is))
  waits (system.Resume of_failure) is = resume_while_ending of_failure (ending-is (phase who before) (alone _ is))
  waits (system.Recreate c) is = recreate_while_ending c (ending-is (phase who before) (alone _ is))
  waits (system.Failed x c) is = by_tests (phase_is (phase who before) Ending) refl (not (phase_is (phase who before) Fresh)) refl is
    where
      by_tests : (b : Bool) → phase_is (phase who before) Ending ≡ b → (r : Bool) → not (phase_is (phase who before) Fresh) ≡ r →
          ((b && true) || ((true && r) && nat_lt 0 (count who before))) ≡ true → HasToWait who before (system.Failed x c)
      by_tests true ends r started is = failed_while_ending x c (ending-is (phase who before) ends)
      by_tests false ends true started is = failed_while_suspended x c (started-is (phase who before) started) (positive (count who before) is)
      by_tests false ends false started is = absurd (cc is)
  waits system.Terminate is = absurd (never _ is)
  waits (system.Watch w) is = absurd (never _ is)
  waits (system.Unwatch w) is = absurd (never _ is)
  waits (system.Died y) is = absurd (never _ is)

  both : (b r l : Bool) → r ≡ true → l ≡ true → ((b && true) || ((true && r) && l)) ≡ true
  both true r l is_r is_l = refl
  both false r l is_r is_l = λ i. is_r i && is_l i

  waits-aside : (m : SysMsg) → HasToWait who before m → sets_aside who before m ≡ true
  waits-aside m (failed_while_ending x c ends) =
      ap (λ p. (phase_is p Ending && true) || ((true && not (phase_is (phase who before) Fresh)) && nat_lt 0 (count who before))) ends
  waits-aside m (recreate_while_ending c ends) = ap (λ p. (phase_is p Ending && true) || false) ends
  waits-aside m (suspend_while_ending ends) = ap (λ p. (phase_is p Ending && true) || false) ends
  waits-aside m (resume_while_ending of_failure ends) = ap (λ p. (phase_is p Ending && true) || false) ends
  waits-aside m (failed_while_suspended x c started suspended) =
      both (phase_is (phase who before) Ending) _ _ (is-started (phase who before) started) (is-positive (count who before) suspended)

  -- ---- the law

  not-true : (b : Bool) → false ≡ not b → b ≡ true
  not-true true is = refl
  not-true false is = is

  pub aside-waits : (gives : Moment → Reply → Type 0) (number : ℕ) (m : SysMsg) (outcome : Outcome) →
      IsLawful who gives (System number m outcome ∷ before) →
      (outcome ≡ SetAside → HasToWait who before m) × (HasToWait who before m → outcome ≡ SetAside)
  unfolding AreLawful
  aside-waits gives number m SetAside lawful =
      ((λ is. waits m (not-true (sets_aside who before m) lawful.entries.0.by_rule)), (λ has_to. refl))
  aside-waits gives number m (Applied a effects) lawful = (
    (λ is. absurd (cc is)),
    (λ has_to. let false_now : true ≡ false = lawful.entries.0.0.by_rule ∙ ap not (waits-aside m has_to) in absurd (cc false_now)),
  )
