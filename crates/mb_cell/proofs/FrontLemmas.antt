-- Which system message that was set aside is due, by the count and the phase.
use Rattle.std.proofs.Common.{◌≡◌, ◌⊎◌, inl, inr, ℕ, zero, suc, ◌<◌, List, [], ◌∷◌, Bool, true, false, refl, ap, sym, ◌∙◌, arith}
use Rattle.std.proofs.Math.Dec.{eqb-suc-zero}
use Rattle.std.specs.Prelude.{◌==◌, not, ◌&&◌, if◌then◌else◌, slice_get, Option, None}
use Rattle.mb_msg.specs.declared.system.SysMsg.{SysMsg}
use Rattle.mb_actor.specs.declared.phase.Phase.{Phase}
use Rattle.mb_actor.specs.declared.phase.Phase.TheVariants.{Fresh, Live, Broken, Ending, Ended}
use Rattle.mb_journal.specs.Aside.{aside, first_of_list, next_front}
use Rattle.mb_journal.specs.Entry.{Entry}
use Rattle.mb_journal.specs.Identity.{Identity}
use Rattle.mb_journal.specs.Life.{phase}
use Rattle.mb_journal.specs.Phase.{phase_is}
use Rattle.mb_journal.specs.Suspension.{count}
use Rattle.mb_journal.proofs.TestLemmas.{and-false}

abbrev pub front_by : Bool → Bool → List (ℕ × SysMsg) → Option (ℕ × SysMsg)
front_by open_now ending list = if open_now && not ending then first_of_list list else None

pub front-by : (who : Identity) (journal : List Entry) →
    next_front who journal ≡ front_by (count who journal == 0) (phase_is (phase who journal) Ending) (aside who journal)
unfolding next_front
front-by who journal = refl

not_zero : (n : ℕ) → 0 < n → (n == 0) ≡ false
not_zero zero some = absurd (omega arith)
not_zero (suc n) some = eqb-suc-zero n

pub front-suspended : (who : Identity) (journal : List Entry) (n : ℕ) → n ≡ count who journal → 0 < n → None ≡ next_front who journal
front-suspended who journal n is some =
    sym (front-by who journal
    ∙ ap (λ b. front_by b (phase_is (phase who journal) Ending) (aside who journal)) (ap (λ k. k == 0) (sym is) ∙ not_zero n some))

pub front-ending : (who : Identity) (journal : List Entry) → phase_is (phase who journal) Ending ≡ true → None ≡ next_front who journal
front-ending who journal ending =
    sym (front-by who journal
    ∙ ap (λ b. front_by (count who journal == 0) b (aside who journal)) ending
    ∙ ap (λ b. if b then first_of_list (aside who journal) else None) (and-false (count who journal == 0)))

pub front-first : (who : Identity) (journal : List Entry) (n : ℕ) → n ≡ count who journal → n ≡ 0 → phase_is (phase who journal) Ending ≡ false →
    first_of_list (aside who journal) ≡ next_front who journal
front-first who journal n is none off_ending =
    sym (front-by who journal
    ∙ ap (λ k. front_by (k == 0) (phase_is (phase who journal) Ending) (aside who journal)) (sym is ∙ none)
    ∙ ap (λ b. front_by true b (aside who journal)) off_ending)

pub off-ending : (p : Phase) → (p ≡ Fresh) ⊎ ((p ≡ Live) ⊎ ((p ≡ Broken) ⊎ (p ≡ Ended))) → phase_is p Ending ≡ false
off-ending p (inl e) = ap (λ r. phase_is r Ending) e
off-ending p (inr (inl e)) = ap (λ r. phase_is r Ending) e
off-ending p (inr (inr (inl e))) = ap (λ r. phase_is r Ending) e
off-ending p (inr (inr (inr e))) = ap (λ r. phase_is r Ending) e

pub first-get : (list : List (ℕ × SysMsg)) → slice_get list 0 ≡ first_of_list list
first-get [] = refl
first-get (m ∷ list) = refl
