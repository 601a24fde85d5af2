use Rattle.std.proofs.Common.{◌<◌, arith, length}
use Rattle.mb_gate.specs.Untouched.{IsUntouched}
use Rattle.mb_pool.proofs.Stealing.{none_there, of_none, passes_by, steals_at}
use Rattle.mb_pool.proofs.worker_deques.steal_from_next.Goals as goal

pub returns-in-Some : goal.returns-in-Some
returns-in-Some g c =
    let at = c.loop-index in
    let lt : at.index < length c.args.thieves.now = omega (arith, c.loop-index-test.true) in
    steals_at (IsUntouched g.H.MailboxState.is_of g.H.MailboxState.facts)
    c.args.thieves.now at.thieves at.invariant.0 at.index c.index-thieves-index.result c.take.new.self lt at.invariant.1 c.in-Some.claim
    c.take.ensures.same_queue c.in-Some.ensures.taken

pub loop-index-preserved : goal.loop-index-preserved
loop-index-preserved g c =
    let at = c.loop-index in
    let lt : at.index < length c.args.thieves.now = omega (arith, c.loop-index-test.true) in
    let none = of_none _ _ c.take.result c.in_default.is c.take.ensures.taken in
    passes_by (IsUntouched g.H.MailboxState.is_of g.H.MailboxState.facts)
    c.args.thieves.now at.thieves at.invariant.0 at.index c.index-thieves-index.result c.take.new.self lt at.invariant.1 none.0 none.1

pub returns : goal.returns
returns g c =
    let at = c.loop-index in
    none_there (IsUntouched g.H.MailboxState.is_of g.H.MailboxState.facts)
    c.args.thieves.now at.thieves at.invariant.0 at.index c.loop-index-test.false at.invariant.1
