use Rattle.std.proofs.Common.{◌≡◌, ◌-◌, ◌≤◌, map, replicate}
use Rattle.mb_pool.specs.Begins.{borrowed, with_shares}
use Rattle.mb_pool.specs.Parts.{port_view}
use Rattle.mb_pool.proofs.shared_ports.shared_ports_of.Given as goal

abbrev pub invariant-loop-lent : goal.invariant-loop-lent
invariant-loop-lent g l = (1 ≤ l._lent) × (map port_view l.shared_ports.items ≡ replicate (l._lent - 1) (borrowed (port_view l.initial.first)))
    × (port_view l.first ≡ with_shares (l.count - (l._lent - 1)) (port_view l.initial.first))
