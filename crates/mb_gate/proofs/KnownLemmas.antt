-- An actor that is known to be closed still is once a pass and a claim know more.
use Rattle.std.proofs.Common.{◌≡◌, inl, inr, ⊎_elim, ℕ, List, ◌++◌, sym, subst}
use Rattle.mb_ghost.specs.Seen.{Each}
use Rattle.mb_ghost.proofs.SeenLemmas.{each_weaker}
use Rattle.mb_gate.specs.View.{View, Observation, Read, taking_in}
use Rattle.mb_gate.specs.Rule.{IsAmong}
use Rattle.mb_gate.specs.Claims.{IsKnownClosed}
use Rattle.mb_gate.proofs.Numbers.{among_left, among_right}
use Rattle.mb_gate.proofs.OneNumber.{among_either}

module _ (shut : List ℕ) (claim claim' pass pass' : View) (seen seen' : List Observation) (more : claim'.log ≡ seen ++ claim.log)
    (more' : pass'.log ≡ seen' ++ pass.log) where
  -- whoever a claim and the pass that it takes in know to be closed they know to be so once both know more
  pub known_more : (other : ℕ) → IsKnownClosed other shut (taking_in claim pass) → IsKnownClosed other shut (taking_in claim' pass')
  known_more other (inl is) = inl is
  known_more other (inr is) = let s = Read other 1 in
      inr (subst (λ (logs : List Observation × List Observation). IsAmong s (logs.0 ++ logs.1)) (λ i. (sym more' i, sym more i))
      (⊎_elim (λ p. among_left s (seen' ++ pass.log) (seen ++ claim.log) (among_right s seen' pass.log p))
      (λ c. among_right s (seen' ++ pass.log) (seen ++ claim.log) (among_right s seen claim.log c)) (among_either s pass.log claim.log is)))

  pub all_known_more : (others : List ℕ) → Each (λ other. IsKnownClosed other shut (taking_in claim pass)) others
      → Each (λ other. IsKnownClosed other shut (taking_in claim' pass')) others
  all_known_more others known = each_weaker (λ other. IsKnownClosed other shut (taking_in claim pass))
      (λ other. IsKnownClosed other shut (taking_in claim' pass')) others known_more known
