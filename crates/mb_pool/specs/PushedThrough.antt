-- What was pushed into a pool (this project's own profile).
use Rattle.std.specs.Prelude.{List, take}
use Rattle.mb_gate.specs.declared.claim.Claim.{Claim}
use Rattle.mb_pool.specs.Places.{PoolEndpoint, ports_of, pushed_at}

-- the claims that were pushed through this handle or feed, the first in front
abbrev pub pushed_through : {H : Type 0} → PoolEndpoint H → List (Claim H)
pushed_through w = pushed_at (take 1 (ports_of w))
