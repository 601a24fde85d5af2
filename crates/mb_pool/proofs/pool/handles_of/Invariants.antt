use Rattle.std.proofs.Common.{◌≡◌, ◌+◌, ◌++◌, length, map, replicate}
use Rattle.std.specs.Prelude.{All}
use Rattle.std.specs.Vec.Iter.{into_iter_items}
use Rattle.mb_pool.specs.Begins.{new_shared_port}
use Rattle.mb_pool.specs.Parts.{port_view}
use Rattle.mb_pool.specs.Endpoints.{AreOpen, endpoint_of}
use Rattle.mb_pool.proofs.pool.handles_of.Given as goal

abbrev pub invariant-loop-member : goal.invariant-loop-member
invariant-loop-member g l = (map port_view l.shared_ports.items ≡ replicate (length (into_iter_items l.member-iterator) + l.pool.feeds) (new_shared_port l.pool))
    × (l.handles.items ++ map (endpoint_of (new_shared_port l.pool)) (into_iter_items l.member-iterator) ≡ map (endpoint_of (new_shared_port l.pool)) l.fn.members.items)
    × All (λ m. AreOpen (endpoint_of (new_shared_port l.pool) m)) (into_iter_items l.member-iterator)
