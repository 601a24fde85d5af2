use Rattle.std.proofs.Common.{◌<◌, subst, sym}
use Rattle.mb_pool.specs.Places.{PoolPort}
use Rattle.mb_pool.proofs.Steps.{joined}
use Rattle.mb_pool.proofs.shared_port.SlotsPort.join.Goals as goal

pub absorb-requires-clause-rule : goal.absorb-requires-clause-rule
absorb-requires-clause-rule g c =
    joined _ _ _ _ _ (subst (λ (l : PoolPort _). 0 < l.ledger.shares) (sym c.self.view_is) c.requires.shares.0)
    (subst (λ (l : PoolPort _). 0 < l.ledger.shares) (sym c.other.view_is) c.requires.shares.1)
