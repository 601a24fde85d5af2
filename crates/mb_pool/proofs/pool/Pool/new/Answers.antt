use Rattle.std.proofs.Common.{◌≡◌, ◌+◌, ap, arith, length, map, replicate, subst, sym, ◌∙◌}
use Rattle.std.specs.Prelude.{All}
use Rattle.mb_pool.specs.Begins.{new_shared_port}
use Rattle.mb_pool.specs.Made.{IsNewPool}
use Rattle.mb_gate.specs.Untouched.{origin_of}
use Rattle.mb_pool.specs.Parts.{port_view}
use Rattle.mb_pool.specs.Places.{PoolView}
use Rattle.mb_pool.specs.Endpoints.{AreOpen, of_feed, endpoint_of}
use Rattle.mb_pool.proofs.Begins.{made_whole, new_shares}
use Rattle.mb_pool.proofs.Making.{all_shares, are_open, is_begun, ports_there}
use Rattle.mb_pool.proofs.pool.Pool.new.Goals as goal

pub pool_of-pool-requires : goal.pool_of-pool-requires
pool_of-pool-requires g c =
    made_whole (origin_of c.args.gates.now) c.args.kind c.args.workers c.args.feeds c.in_ok-deques.deques.items (port_view c.open.new.self).queue
    c.in_ok-deques.ensures c.requires

pub worker_deques_of-requires : goal.worker_deques_of-requires
worker_deques_of-requires g c =
    new_shares c.args.kind (origin_of c.args.gates.now) c.args.workers c.in_ok-deques.deques.items c.in_ok-deques.ensures

pub shared_ports_of-requires-clause-not_empty : goal.shared_ports_of-requires-clause-not_empty
shared_ports_of-requires-clause-not_empty g c = omega (arith, c.in-Some.ensures.1, c.requires)

pub shared_ports_of-requires-clause-shares : goal.shared_ports_of-requires-clause-shares
shared_ports_of-requires-clause-shares g c =
    all_shares (origin_of c.args.gates.now) c.args.kind c.args.workers c.args.feeds c.in-Some.ports c.in_ok-deques.deques.items
    (port_view c.in_ok-shared_port.shared_port) (port_view c.open.new.self) c.requires c.in_ok-deques.ensures c.in_ok-shared_port.ensures.0 c.open.ensures
    c.in-Some.ensures.1

pub handles_of-requires-clause-ports : goal.handles_of-requires-clause-ports
handles_of-requires-clause-ports g c =
    let ms = c.in_ok-members.members.items in let ds = map port_view c.in_ok-shared_ports.shared_ports.items in
    subst (λ (p : PoolView _). ds ≡ replicate (length ms + p.feeds) (new_shared_port p)) (sym c.pool_of-pool.ensures)
    (ports_there (origin_of c.args.gates.now) c.args.kind c.args.workers c.args.feeds c.in-Some.ports c.in_ok-deques.deques.items
    (port_view c.in_ok-shared_port.shared_port) (port_view c.open.new.self) c.requires c.in_ok-deques.ensures c.in_ok-shared_port.ensures.0 c.open.ensures
    c.in-Some.ensures.1 ms c.in_ok-members.ensures.none c.in_ok-members.ensures.owners c.in_ok-members.ensures.next ds c.in_ok-shared_ports.ensures)

pub handles_of-requires-clause-open : goal.handles_of-requires-clause-open
handles_of-requires-clause-open g c =
    let ms = c.in_ok-members.members.items in
    subst (λ (p : PoolView _). All (λ m. AreOpen (endpoint_of (new_shared_port p) m)) ms) (sym c.pool_of-pool.ensures)
    (are_open (origin_of c.args.gates.now) c.args.kind c.args.workers c.args.feeds c.in-Some.ports c.in_ok-deques.deques.items
    (port_view c.in_ok-shared_port.shared_port) (port_view c.open.new.self) c.requires c.in_ok-deques.ensures c.in_ok-shared_port.ensures.0 c.open.ensures
    c.in-Some.ensures.1 ms c.in_ok-members.ensures.none c.in_ok-members.ensures.owners c.in_ok-members.ensures.next)

pub feeds_of-requires : goal.feeds_of-requires
feeds_of-requires g c =
    c.in_ok-handles.ensures.ports ∙ ap (λ (p : PoolView _). replicate p.feeds (new_shared_port c.pool_of-pool.result)) c.pool_of-pool.ensures

pub returns : goal.returns
returns g c =
    let ms = c.in_ok-members.members.items in let handles = c.in_ok-handles.handles.items in let feeds = c.in_ok-feeds.feeds.items in
    let is = c.pool_of-pool.ensures in
    subst (λ (p : PoolView _). IsNewPool (origin_of c.args.gates.now) c.args.kind c.args.workers c.args.feeds p handles feeds) (sym is)
    (is_begun (origin_of c.args.gates.now) c.args.kind c.args.workers c.args.feeds c.in-Some.ports c.in_ok-deques.deques.items
    (port_view c.in_ok-shared_port.shared_port) (port_view c.open.new.self) c.requires c.in_ok-deques.ensures c.in_ok-shared_port.ensures.0 c.open.ensures
    c.in-Some.ensures.1 ms c.in_ok-members.ensures.none c.in_ok-members.ensures.owners c.in_ok-members.ensures.next handles feeds
    (c.in_ok-handles.ensures.handles ∙ ap (λ (p : PoolView _). map (endpoint_of (new_shared_port p)) ms) is)
    (c.in_ok-feeds.ensures ∙ ap (λ (p : PoolView _). replicate c.args.feeds (of_feed (new_shared_port p))) is))
