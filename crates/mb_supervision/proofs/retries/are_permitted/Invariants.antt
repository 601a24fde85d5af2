use Rattle.std.proofs.Common.{pos, ◌≡◌, ◌+◌, drop}
use Rattle.std.specs.List.{list_all}
use Rattle.mb_msg.specs.declared.id.ActorId.{ActorId}
use Rattle.mb_journal.specs.Retries.{permits}
use Rattle.mb_supervision.specs.RetryCounts.{retry_count_of}
use Rattle.mb_supervision.proofs.retries.are_permitted.Given as goal

abbrev pub invariant-loop-child : goal.invariant-loop-child
invariant-loop-child l =
    list_all (λ (y : ActorId). permits (pos l.limit) (retry_count_of l.counts y + 1)) l.children
    ≡ list_all (λ (y : ActorId). permits (pos l.limit) (retry_count_of l.counts y + 1)) (drop l.child-index l.children)
