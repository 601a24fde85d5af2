-- What contracts see of a sender's way into the pool (this project's own profile).
use Rattle.std.specs.Prelude.{List}
use Rattle.mb_gate.specs.declared.claim.Claim.{Claim}
use Rattle.mb_pool.specs.Places.{PoolEndpoint}

-- Its feed of the pool, and the claims that the pool refused, in order.
pub record FeedPortView (H : Type 0) : Type 0 where
  pub feed : PoolEndpoint H
  pub refused : List (Claim H)
