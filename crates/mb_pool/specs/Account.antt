-- What a port of a queue of claims knows (this project's own profile).
use Rattle.mb_gate.specs.declared.claim.Claim.{Claim}
use Rattle.mb_gate.specs.Untouched.{Origin}
use Rattle.mb_pool.specs.Ledger.{PortAccount}

-- what a port of a queue of claims knows
abbrev pub ClaimAccount : Type 0 → Type 0
ClaimAccount H = PortAccount (Origin H) (Claim H)
