use Rattle.std.proofs.Common.{◌≡◌, ◌++◌}
use Rattle.std.specs.Vec.Iter.{into_iter_items}
use Rattle.mb_pool.specs.Handles.{shared_ports_of, TakesIn}
use Rattle.mb_pool.specs.Parts.{port_view}
use Rattle.mb_pool.specs.Endpoints.{HasShare}
use Rattle.mb_pool.proofs.leaving.join_feeds.Given as goal

abbrev pub invariant-loop-feed : goal.invariant-loop-feed
invariant-loop-feed g l = TakesIn (port_view l.initial.shared_port) (shared_ports_of l.yielded) (port_view l.shared_port)
    × HasShare (port_view l.shared_port)
    × (l.yielded ++ into_iter_items l.feed-iterator ≡ l.fn.feeds.items)
