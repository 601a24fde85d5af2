use Rattle.std.proofs.Common.{◌≡◌, ◌≤◌, arith}
use Rattle.mb_pool.specs.Parts.{port_view}
use Rattle.mb_pool.proofs.Loops.{shared_port_last, shared_port_more}
use Rattle.mb_pool.proofs.shared_ports.shared_ports_of.Goals as goal

pub loop-lent-preserved : goal.loop-lent-preserved
loop-lent-preserved g c =
    let at = c.loop-lent in let first = port_view c.args.first in
    let more = shared_port_more port_view at.shared_ports.items c.push.new.self.items c.in_ok-shared_port.shared_port first at._lent c.args.count at.invariant.1
    c.in_ok-push.ensures.items (port_view at.first) (port_view c.lend.new.self)
    at.invariant.0 at.invariant.2 c.in_ok-shared_port.ensures.0 c.in_ok-shared_port.ensures.1 in
    (omega arith, more.0, more.1)

pub returns : goal.returns
returns g c =
    let at = c.loop-lent in
    let most : at._lent ≤ c.args.count = at.auto._lent-end c.requires.not_empty in
    let handle : at._lent ≡ c.args.count = omega (arith, c.loop-lent-test.false, most) in
    shared_port_last port_view at.shared_ports.items c.push-2.new.self.items at.first
    (port_view c.args.first) at._lent c.args.count at.invariant.1 c.in_ok-push-2.ensures.items handle c.requires.not_empty at.invariant.2 c.requires.shares
