use Rattle.std.proofs.Common.{◌≡◌, ◌+◌, ◌≤◌, take, vec_len, vec_capacity}
use Rattle.mb_msg.specs.declared.id.ActorId.{ActorId}
use Rattle.mb_journal.specs.Retries.{times_in}
use Rattle.mb_supervision.specs.RetryCounts.{retry_count_of}
use Rattle.mb_supervision.proofs.retries.count_requests.Given as goal

abbrev pub invariant-loop-child : goal.invariant-loop-child
invariant-loop-child l = record {
  counted : (y : ActorId) → retry_count_of l.counts.items y ≡ retry_count_of l.fn.counts.items y + times_in (take l.child-index l.children) y;
  size : vec_len l.counts ≤ vec_len l.fn.counts + l.child-index;
  capacity : vec_capacity l.fn.counts ≤ vec_capacity l.counts;
}
