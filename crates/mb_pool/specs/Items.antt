-- What a queue of the pool holds (this project's own profile).
use Rattle.std.specs.Prelude.{List, map}
use Rattle.mb_gate.specs.declared.claim.Claim.{Claim}
use Rattle.mb_gate.specs.declared.pooled_claim.PooledClaim.{PooledClaim}
use Rattle.mb_gate.specs.PooledClaims.{claim_in}

-- the claims that it holds
abbrev pub claims_of : {H : Type 0} → List (PooledClaim H) → List (Claim H)
claims_of {H} = map (λ (p : PooledClaim H). claim_in p)
