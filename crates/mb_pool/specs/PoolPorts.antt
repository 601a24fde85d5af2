-- What was pushed into the pool through a handle or a feed (this project's own profile).
use Rattle.std.specs.Prelude.{◌≡◌, List, [], ◌∷◌, Option}
use Rattle.mb_gate.specs.declared.claim.Claim.{Claim}
use Rattle.mb_gate.specs.Untouched.{Origin}
use Rattle.mb_pool.specs.Ledger.{claims_in}
use Rattle.mb_pool.specs.Moves.{given_back, IsRefusedBy}
use Rattle.mb_pool.specs.Places.{PoolPort, PoolEndpoint}
use Rattle.mb_pool.specs.declared.claim_refused.ClaimRefused.{ClaimRefused}

-- the claims that were pushed into the queue of the first of these ports: a handle or a feed pushes into no other
abbrev pub pushed_first : {H : Type 0} → List (PoolPort H) → List (Claim H)
pushed_first [] = []
pushed_first (pool_port ∷ rest) = claims_in pool_port.ledger.pushed

-- the pool refused this claim of a handle or a feed, for a reason of its own
abbrev pub IsRefusedByPool : {H : Type 0} → (Option (Origin H) → Claim H → Type 0) → PoolEndpoint H → Claim H → Type 0
IsRefusedByPool {H} IsFit endpoint claim = (refused : ClaimRefused H) × (given_back refused ≡ claim) × IsRefusedBy IsFit endpoint refused
