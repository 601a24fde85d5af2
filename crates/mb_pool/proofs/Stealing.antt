-- The next handles' deques are looked in, one after the other.
use Rattle.std.proofs.Common.{◌≡◌, ℕ, suc, ◌+◌, ◌<◌, ◌≤◌, List, [], ◌∷◌, ◌++◌, length, get_or, set, take, sym, ap, ◌∙◌, subst, arith, MatchOption}
use Rattle.std.proofs.Common.{None, Some}
use Rattle.std.specs.Prelude.{All, Option}
use Rattle.std.proofs.lemmas.List.{length-map, set-get_or, take_all}
use Rattle.std.proofs.lemmas.List.Elements.{All-push}
use Rattle.mb_gate.specs.declared.claim.Claim.{Claim}
use Rattle.mb_pool.specs.Moves.{TakesOne, WasEmpty}
use Rattle.mb_gate.specs.Untouched.{Origin}
use Rattle.mb_pool.specs.Places.{PoolPort, part_of}
use Rattle.mb_pool.specs.Rule.{QueueMoment, TakesFirst}
use Rattle.mb_pool.proofs.Begins.{take_suc}
use Rattle.mb_pool.proofs.Ports.{takes_at, takes_parts}

-- what a call says that found nothing
pub of_none : {A : Type 0} (N : Type 0) (P : A → Type 0) (r : Option A) → r ≡ None → MatchOption r N P → N
of_none N P r e h = subst (λ x. MatchOption x N P) e h

module _ {H : Type 0} (IsFit : Option (Origin H) → Claim H → Type 0) (old now : List (PoolPort H)) (same : now ≡ old) where
  module _ (k : ℕ) (d after : PoolPort H) (lt : k < length old) (empty : All (WasEmpty IsFit) (take k old)) where
    -- this one has a claim
    pub steals_at : (c : Claim H) → after.queue ≡ (get_or now k d).queue → TakesFirst IsFit (get_or now k d).ledger c after.ledger
        → TakesOne IsFit old c (set now k after)
    steals_at c s t =
        subst (λ (l : List (PoolPort H)). TakesOne IsFit old c (set l k after)) (sym same)
        (takes_at IsFit old k d after c lt empty (subst (λ (l : List (PoolPort H)). after.queue ≡ (get_or l k d).queue) same s)
        (subst (λ (l : List (PoolPort H)). TakesFirst IsFit (get_or l k d).ledger c after.ledger) same t))

    -- this one was empty too
    pub passes_by : after ≡ get_or now k d → QueueMoment IsFit (get_or now k d).ledger [] → (set now k after ≡ old)
        × All (WasEmpty IsFit) (take (k + 1) old)
    passes_by e m =
        let was : WasEmpty IsFit (get_or old k d) = subst (λ (l : List (PoolPort H)). QueueMoment IsFit (get_or l k d).ledger []) same m in
        let more : take k old ++ get_or old k d ∷ [] ≡ take (k + 1) old = sym (take_suc old k d lt)
        ∙ ap (λ (n : ℕ). take n old) (let one : suc k ≡ k + 1 = omega arith in one) in (
          ap (set now k) e ∙ set-get_or now k d ∙ same,
          subst (All (WasEmpty IsFit)) more (All-push (WasEmpty IsFit) (take k old) (get_or old k d) empty was),
        )

  -- all of them were empty
  pub none_there : (k : ℕ) → length old ≤ k → All (WasEmpty IsFit) (take k old) → (now ≡ old) × All (WasEmpty IsFit) old
  none_there k le empty = (same, subst (All (WasEmpty IsFit)) (take_all k old le) empty)

-- what the search of the lent list says of the handle's own
module _ {H : Type 0} (IsFit : Option (Origin H) → Claim H → Type 0) (given ws : List (PoolPort H)) where
  abbrev pub IsFound : List (PoolPort H) → List (PoolPort H) → Option (Claim H) → Type 0
  IsFound old new r = MatchOption r ((new ≡ old) × All (WasEmpty IsFit) old) (λ c. TakesOne IsFit old c new)

  pub as_many : (r : Option (Claim H)) → IsFound given ws r → length ws ≡ length given
  as_many None h = ap length h.0
  as_many (Some c) t = sym (length-map ws (part_of {H = H})) ∙ ap length (takes_parts IsFit given ws c t) ∙ length-map given (part_of {H = H})

  pub found_in : (old new : List (PoolPort H)) (r : Option (Claim H)) → given ≡ old → new ≡ ws → IsFound given ws r → IsFound old new r
  found_in old new r e n h = subst (λ (y : List (PoolPort H) × List (PoolPort H)). IsFound y.0 y.1 r) (λ i. (e i, sym n i)) h
