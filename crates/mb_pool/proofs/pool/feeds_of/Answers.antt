use Rattle.std.proofs.Common.{◌≡◌, ◌-◌, ap, arith, replicate, sym, ◌∙◌}
use Rattle.mb_pool.specs.Begins.{new_shared_port}
use Rattle.mb_pool.specs.Parts.{port_view}
use Rattle.mb_pool.specs.Endpoints.{of_feed}
use Rattle.mb_pool.proofs.Handing.{fed_one, port_left, port_next, share_with}
use Rattle.mb_pool.proofs.pool.feeds_of.Goals as goal

pub loop-feed-init : goal.loop-feed-init
loop-feed-init g c =
    let all : c.args.count ≡ c.args.count - 0 = omega arith in
    (c.requires ∙ ap (λ n. replicate n (new_shared_port c.args.pool.now)) all, c.in_ok-feeds.ensures.items)

pub unreachable-requires : goal.unreachable-requires
unreachable-requires g c =
    let at = c.loop-feed in
    port_left port_view (new_shared_port c.args.pool.now) at.shared_ports.items at._feed c.args.count at.invariant.0 c.loop-feed-test.true
    (sym at.shared_ports.ok.0 ∙ c.in_default.ensures.cases.0)

pub loop-feed-preserved : goal.loop-feed-preserved
loop-feed-preserved g c =
    let at = c.loop-feed in let shared_port = new_shared_port c.args.pool.now in
    let one = port_next port_view shared_port at.shared_ports.items at._feed c.args.count at.invariant.0 c.loop-feed-test.true c.pop.new.self.items c.in-Some.shared_port
    c.in-Some.ensures.items in (
      one.0,
      fed_one port_view shared_port at.shared_ports.items at._feed c.args.count at.invariant.0 c.loop-feed-test.true at.feeds.items c.push.new.self.items
          (of_feed shared_port) (of_feed (port_view c.in-Some.shared_port))
          at.invariant.1 (ap of_feed one.1) c.in_ok-push.ensures.items,
    )

pub invariant_of-push : goal.invariant_of-push
invariant_of-push g c =
    let at = c.loop-feed in let shared_port = new_shared_port c.args.pool.now in
    let one = port_next port_view shared_port at.shared_ports.items at._feed c.args.count at.invariant.0 c.loop-feed-test.true c.pop.new.self.items c.in-Some.shared_port
    c.in-Some.ensures.items in
    share_with shared_port (port_view c.in-Some.shared_port) one.1 (omega arith)

pub returns : goal.returns
returns g c =
    let at = c.loop-feed in
    let handle : at._feed ≡ c.args.count = omega (arith, c.loop-feed-test.false, at.auto._feed-end) in
    at.invariant.1 ∙ ap (λ n. replicate n (of_feed (new_shared_port c.args.pool.now))) handle
