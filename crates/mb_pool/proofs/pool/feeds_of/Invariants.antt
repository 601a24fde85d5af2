use Rattle.std.proofs.Common.{◌≡◌, ◌-◌, map, replicate}
use Rattle.mb_pool.specs.Begins.{new_shared_port}
use Rattle.mb_pool.specs.Parts.{port_view}
use Rattle.mb_pool.specs.Endpoints.{of_feed}
use Rattle.mb_pool.proofs.pool.feeds_of.Given as goal

abbrev pub invariant-loop-feed : goal.invariant-loop-feed
invariant-loop-feed g l = (map port_view l.shared_ports.items ≡ replicate (l.count - l._feed) (new_shared_port l.pool))
    × (l.feeds.items ≡ replicate l._feed (of_feed (new_shared_port l.pool)))
