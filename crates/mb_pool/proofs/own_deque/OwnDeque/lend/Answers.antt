use Rattle.std.proofs.Common.{◌<◌, subst, sym}
use Rattle.mb_pool.specs.Places.{PoolPort}
use Rattle.mb_pool.proofs.Steps.{lent}
use Rattle.mb_pool.proofs.own_deque.OwnDeque.lend.Goals as goal

pub another-pass-requires : goal.another-pass-requires
another-pass-requires g c = lent _ _ _ (subst (λ (l : PoolPort _). 1 < l.ledger.shares) (sym c.self.view_is) c.requires)
