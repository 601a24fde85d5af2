use Rattle.std.proofs.Common.{◌<◌, subst, sym}
use Rattle.mb_pool.specs.Parts.{port_view}
use Rattle.mb_gate.specs.Untouched.{IsUntouched}
use Rattle.mb_pool.proofs.Emptying.{emptying_all, emptying_more, emptying_none}
use Rattle.mb_pool.proofs.leaving.empty_shared_port.Goals as goal

pub loop-init : goal.loop-init
loop-init g c = emptying_none (IsUntouched g.H.MailboxState.is_of g.H.MailboxState.facts) (port_view c.args.shared_port) c.args.left.now.items

pub loop-preserved : goal.loop-preserved
loop-preserved g c = emptying_more
    (IsUntouched g.H.MailboxState.is_of g.H.MailboxState.facts)
    (port_view c.args.shared_port) c.args.left.now.items (port_view c.loop.shared_port)
    (port_view c.take.new.self) c.loop.left.items c.keep.new.left.items c.in-Some-take.claim c.loop.invariant c.in-Some-take.ensures.taken
    c.keep.ensures

pub returns-in-None-take : goal.returns-in-None-take
returns-in-None-take g c = emptying_all
    (IsUntouched g.H.MailboxState.is_of g.H.MailboxState.facts)
    (port_view c.args.shared_port) c.args.left.now.items (port_view c.loop.shared_port) c.loop.left.items c.loop.invariant c.in-None-take.ensures.taken.1

pub take-requires : goal.take-requires
take-requires g c = record { share = subst (λ n. 0 < n) (sym c.loop.invariant.shares) c.requires }
