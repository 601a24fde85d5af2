use Rattle.std.proofs.Common.{◌<◌, arith, length}
use Rattle.mb_pool.proofs.Ending.{gathered_more, given_matched}
use Rattle.mb_pool.proofs.Gathering.{gathering_all, gathering_none}
use Rattle.mb_pool.proofs.gather.gather.Goals as goal

pub loop-index-init : goal.loop-index-init
loop-index-init g c = gathering_none c.args.handles.now

pub returns : goal.returns
returns g c = gathering_all c.args.handles.now c.before.loop-index.handles c.before.loop-index.index c.loop-index-test.false c.loop-index.invariant

pub join_all-requires : goal.join_all-requires
join_all-requires g c =
    let at = c.loop-index in let took = c.take_thieves-thieves in
    let lt : at.index < length at.handles = omega (arith, c.loop-index-test.true, at.auto.handles) in
    given_matched c.args.handles.now at.handles at.index
    c.index-handles-index.result took.new.handle took.result.items lt at.invariant took.ensures.stealers took.ensures.rest c.requires

pub loop-index-preserved : goal.loop-index-preserved
loop-index-preserved g c =
    let at = c.loop-index in let took = c.take_thieves-thieves in
    let lt : at.index < length at.handles = omega (arith, c.loop-index-test.true, at.auto.handles) in
    gathered_more c.args.handles.now at.handles at.index
    c.index-handles-index.result took.new.handle took.result.items lt at.invariant took.ensures.stealers took.ensures.rest c.join_all.new.handles
    c.join_all.ensures
