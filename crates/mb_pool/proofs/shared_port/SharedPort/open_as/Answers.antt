use Rattle.std.proofs.Common.{ap, ◌∙◌, sym}
use Rattle.mb_pool.specs.Parts.{port_view}
use Rattle.mb_pool.specs.Places.{PoolPort}
use Rattle.mb_pool.proofs.Steps.{opened_so}
use Rattle.mb_pool.proofs.shared_port.SharedPort.open_as.Goals as goal

pub another-requires-clause-rule : goal.another-requires-clause-rule
another-requires-clause-rule g c =
    opened_so _ _ _ _ _ (ap (λ (l : PoolPort _). l.ledger) (c.port.view_is ∙ sym (ap port_view c.in-Bounded.is)) ∙ c.requires.unused)

pub another-requires-in-Unbounded-clause-rule : goal.another-requires-in-Unbounded-clause-rule
another-requires-in-Unbounded-clause-rule g c =
    opened_so _ _ _ _ _ (ap (λ (l : PoolPort _). l.ledger) (c.port-in-Unbounded.view_is ∙ sym (ap port_view c.in-Unbounded.is)) ∙ c.requires.unused)
