use Rattle.std.proofs.Common.{◌≡◌, ◌+◌, ◌++◌, take}
use Rattle.mb_journal.specs.Acts.{to_each}
use Rattle.mb_supervision.proofs.act_queue.ActQueue.push_each.Given as goal

abbrev pub invariant-loop-id : goal.invariant-loop-id
invariant-loop-id l = record {
  acts : l.self.acts ≡ l.fn.self.acts ++ to_each l.message (take l.id-index l.list);
  room : l.self.room + l.id-index ≡ l.fn.self.room;
}
