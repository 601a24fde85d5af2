-- How contracts speak of a claim in a run queue (this project's own profile).
use Rattle.mb_gate.specs.declared.claim.Claim.{Claim}
use Rattle.mb_gate.specs.declared.pooled_claim.PooledClaim.{PooledClaim}

-- The claim that was put into the queue.
abbrev pub claim_in : {H : Type 0} → PooledClaim H → Claim H
claim_in pooled = pooled.claim
