use Rattle.std.proofs.Common.{arith}
use Rattle.mb_supervision.specs.RetryCounts.{retry_count_of}
use Rattle.mb_supervision.proofs.RetryLemmas.{requests-next}
use Rattle.mb_supervision.proofs.retries.count_requests.Goals as goal

pub loop-child-preserved : goal.loop-child-preserved
loop-child-preserved c = record {
  counted =
      λ y. requests-next c.args.children.now c.loop-child.child-index (record { 0 = 0 }) c.loop-child-test.true y
      (retry_count_of c.args.counts.now.items y) (retry_count_of c.loop-child.counts.items y) (retry_count_of c.count_request.new.counts.items y)
      (c.count_request.ensures.counted y) (c.loop-child.invariant.counted y);
  size = omega arith;
  capacity = omega arith;
}
