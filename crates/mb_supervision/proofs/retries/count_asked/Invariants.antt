use Rattle.std.proofs.Common.{pos, ◌≡◌, ◌+◌, ◌++◌, take, drop}
use Rattle.mb_msg.specs.declared.id.ActorId.{ActorId}
use Rattle.mb_journal.specs.Retries.{permits, through_refusal}
use Rattle.mb_supervision.specs.RetryCounts.{retry_count_of}
use Rattle.mb_supervision.proofs.retries.count_asked.Given as goal

abbrev pub invariant-loop-child : goal.invariant-loop-child
invariant-loop-child l = record {
  counted : l.count ≡ l.child-index;
  list :
      through_refusal (λ (y : ActorId). permits (pos l.limit) (retry_count_of l.counts y + 1)) l.children
      ≡ take l.child-index l.children
      ++ through_refusal (λ (y : ActorId). permits (pos l.limit) (retry_count_of l.counts y + 1)) (drop l.child-index l.children);
}
