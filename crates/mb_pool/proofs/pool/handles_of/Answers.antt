use Rattle.std.proofs.Common.{◌≡◌, ◌+◌, ◌∷◌, ap, arith, length, map, replicate, sym, ◌∙◌}
use Rattle.std.specs.Vec.Iter.{into_iter_items}
use Rattle.std.proofs.lemmas.List.{length-map}
use Rattle.mb_pool.specs.Begins.{new_shared_port}
use Rattle.mb_pool.specs.Parts.{port_view}
use Rattle.mb_pool.specs.Endpoints.{endpoint_of}
use Rattle.mb_pool.proofs.Handing.{made_one, open_with, port_one, port_there}
use Rattle.mb_pool.proofs.Taking.{drained}
use Rattle.mb_pool.proofs.pool.handles_of.Goals as goal

pub unreachable-requires : goal.unreachable-requires
unreachable-requires g c =
    let at = c.loop-member in
    port_there port_view (new_shared_port c.args.pool.now) at.shared_ports.items (into_iter_items at.member-iterator) (into_iter_items c.next.new.self)
    c.in-Some.member c.args.pool.now.feeds at.invariant.0 c.in-Some.ensures.steps.0 (sym at.shared_ports.ok.0 ∙ c.in_default.ensures.cases.0)

pub loop-member-preserved : goal.loop-member-preserved
loop-member-preserved g c =
    let at = c.loop-member in let shared_port = new_shared_port c.args.pool.now in let member = c.in-Some.member in
    let xs = into_iter_items at.member-iterator in let rest = into_iter_items c.next.new.self in
    let next : xs ≡ member ∷ rest = c.in-Some.ensures.steps.0 in
    let one = port_one port_view shared_port at.shared_ports.items xs rest member c.args.pool.now.feeds at.invariant.0 next c.pop.new.self.items c.in-Some-pop.shared_port
    c.in-Some-pop.ensures.items in (
      one.0,
      made_one (endpoint_of shared_port) at.handles.items c.push.new.self.items (endpoint_of
          (port_view c.in-Some-pop.shared_port) member) member xs rest _ c.in_ok-push.ensures.items (ap (λ l. endpoint_of l member) one.1) next at.invariant.1,
      (open_with shared_port (port_view c.in-Some-pop.shared_port) one.1 xs rest member next at.invariant.2).1,
    )

pub invariant_of-push : goal.invariant_of-push
invariant_of-push g c =
    let at = c.loop-member in let shared_port = new_shared_port c.args.pool.now in let member = c.in-Some.member in
    let xs = into_iter_items at.member-iterator in let rest = into_iter_items c.next.new.self in
    let next : xs ≡ member ∷ rest = c.in-Some.ensures.steps.0 in
    let one = port_one port_view shared_port at.shared_ports.items xs rest member c.args.pool.now.feeds at.invariant.0 next c.pop.new.self.items c.in-Some-pop.shared_port
    c.in-Some-pop.ensures.items in
    (open_with shared_port (port_view c.in-Some-pop.shared_port) one.1 xs rest member next at.invariant.2).0

pub returns-clause-ports : goal.returns-clause-ports
returns-clause-ports g c =
    let at = c.loop-member in let pool = c.args.pool.now in
    let none : length (into_iter_items at.member-iterator) ≡ 0 = sym at.member-iterator.rest.ok.0 ∙ c.in-None.ensures.steps.0 in
    at.invariant.0 ∙ ap (λ n. replicate n (new_shared_port pool)) (let e : length (into_iter_items at.member-iterator) + pool.feeds ≡ pool.feeds = omega
    (arith, none) in e)

pub returns-clause-handles : goal.returns-clause-handles
returns-clause-handles g c =
    let at = c.loop-member in let rest = into_iter_items at.member-iterator in
    let none : length rest ≡ 0 = sym at.member-iterator.rest.ok.0 ∙ c.in-None.ensures.steps.0 in
    drained at.handles.items (map (endpoint_of (new_shared_port c.args.pool.now)) rest) _
    (length-map rest (endpoint_of (new_shared_port c.args.pool.now)) ∙ none) at.invariant.1
