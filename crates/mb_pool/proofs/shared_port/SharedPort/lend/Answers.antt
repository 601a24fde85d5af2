use Rattle.std.proofs.Common.{◌<◌, ap, ◌∙◌, subst, sym}
use Rattle.mb_pool.specs.Parts.{port_view}
use Rattle.mb_pool.specs.Places.{PoolPort}
use Rattle.mb_pool.proofs.Steps.{lent}
use Rattle.mb_pool.proofs.shared_port.SharedPort.lend.Goals as goal

pub another-pass-requires-clause-rule : goal.another-pass-requires-clause-rule
another-pass-requires-clause-rule g c =
    lent _ _ _ (subst (λ (l : PoolPort _). 1 < l.ledger.shares) (ap port_view c.in-Bounded.is ∙ sym c.port.view_is) c.requires)

pub another-pass-requires-in-Unbounded-clause-rule : goal.another-pass-requires-in-Unbounded-clause-rule
another-pass-requires-in-Unbounded-clause-rule g c =
    lent _ _ _ (subst (λ (l : PoolPort _). 1 < l.ledger.shares) (ap port_view c.in-Unbounded.is ∙ sym c.port-in-Unbounded.view_is) c.requires)
