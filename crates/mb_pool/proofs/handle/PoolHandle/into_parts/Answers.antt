use Rattle.mb_pool.proofs.handle.PoolHandle.into_parts.Goals as goal

pub returns-clause-same : goal.returns-clause-same
returns-clause-same g c = c.self.view_is

pub returns-clause-open : goal.returns-clause-open
returns-clause-open g c = c.self.invariant
