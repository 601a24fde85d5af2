use Rattle.std.proofs.Common.{◌<◌, arith, length}
use Rattle.mb_pool.proofs.Lending.{all_borrowed, all_lent, lends_one, may_lend_at}
use Rattle.mb_pool.proofs.new_worker_deques.lend_each.Goals as goal

pub lend-requires : goal.lend-requires
lend-requires g c =
    let at = c.loop-index in let lt : at.index < length c.args.owns.now = omega (arith, c.loop-index-test.true) in
    may_lend_at c.args.owns.now at.owns at.index c.index-owns-index.result at.invariant.0 lt c.requires

pub loop-index-preserved : goal.loop-index-preserved
loop-index-preserved g c =
    let at = c.loop-index in let lt : at.index < length c.args.owns.now = omega (arith, c.loop-index-test.true) in
    lends_one c.args.owns.now at.owns at.index c.index-owns-index.result at.invariant.0 lt c.lend.new.self c.in_ok-thief.thief at.thieves.items
    c.push.new.self.items
    at.invariant.1 c.in_ok-thief.ensures.0 c.in_ok-thief.ensures.1 c.in_ok-push.ensures.items

pub returns-clause-owns : goal.returns-clause-owns
returns-clause-owns g c = let at = c.loop-index in all_lent c.args.owns.now at.owns at.index at.invariant.0 c.loop-index-test.false

pub returns-clause-stealers : goal.returns-clause-stealers
returns-clause-stealers g c = let at = c.loop-index in
    all_borrowed c.args.owns.now at.owns at.index at.thieves.items at.invariant.1 c.loop-index-test.false
