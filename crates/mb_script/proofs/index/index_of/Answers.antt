use Rattle.std.proofs.Common.{◌∙◌, arith}
use Rattle.std.proofs.lemmas.List.{length-set}
use Rattle.mb_script.proofs.Placing.{index_begun, index_step}
use Rattle.mb_script.proofs.index.index_of.Goals as goal

pub loop-place-init : goal.loop-place-init
loop-place-init c = record {
  within = omega arith;
  count = c.in_ok-index.ensures.count;
  indexed = index_begun c.args.rows.now c.in_ok-index.index.items c.in_ok-index.ensures.empty;
}

pub loop-place-preserved : goal.loop-place-preserved
loop-place-preserved c = record {
  within = grind (arith, c.loop-place.invariant.within);
  count = length-set _ _ _ ∙ c.loop-place.invariant.count;
  indexed = index_step c.args.rows.now c.loop-place.place c.index-rows-place.result c.loop-place.index.items c.index_mut.result.now
      c.insert.new.self (grind (arith, c.loop-place-test.true)) c.loop-place.invariant.within c.loop-place.invariant.count
      c.index_mut.ensures.value c.in_ok-insert.ensures.updates.0 c.loop-place.invariant.indexed;
}
