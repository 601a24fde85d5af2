use Rattle.mb_pool.proofs.feed.Feed.into_shared_port.Goals as goal

pub returns-clause-same : goal.returns-clause-same
returns-clause-same g c = c.self.view_is

pub returns-clause-share : goal.returns-clause-share
returns-clause-share g c = c.self.invariant
