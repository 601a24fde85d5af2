use Rattle.std.proofs.Common.{◌≡◌, ◌+◌, ◌≤◌, ◌++◌, take}
use Rattle.mb_journal.specs.Acts.{to_each}
use Rattle.mb_journal.specs.ActorList.{without}
use Rattle.mb_supervision.proofs.end.tell_all_but.Given as goal

abbrev pub invariant-loop-watcher : goal.invariant-loop-watcher
invariant-loop-watcher l = record {
  acts : l.acts.acts ≡ l.fn.acts.acts ++ to_each l.message (without (take l.watcher-index l.watchers) l.parent);
  within_limit : l.fn.acts.room ≤ l.acts.room + l.watcher-index;
}
