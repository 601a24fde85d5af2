use Rattle.std.proofs.Common.{◌≡◌, drop}
use Rattle.mb_supervision.specs.RetryCounts.{retry_count_of}
use Rattle.mb_supervision.proofs.retries.count_of.Given as goal

abbrev pub invariant-loop-count : goal.invariant-loop-count
invariant-loop-count l = retry_count_of l.counts l.child ≡ retry_count_of (drop l.count-index l.counts) l.child
