use Rattle.std.proofs.Common.{ap, ◌∙◌}
use Rattle.mb_pool.specs.Places.{PoolPort}
use Rattle.mb_pool.proofs.Steps.{opened_so}
use Rattle.mb_pool.proofs.own_deque.OwnDeque.open_as.Goals as goal

pub another-requires : goal.another-requires
another-requires g c = opened_so _ _ _ _ _ (ap (λ (l : PoolPort _). l.ledger) c.self.view_is ∙ c.requires.unused)
