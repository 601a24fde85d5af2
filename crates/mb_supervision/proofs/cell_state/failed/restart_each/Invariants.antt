use Rattle.std.proofs.Common.{◌≡◌, ◌+◌, ◌*◌, ◌≤◌, ◌++◌, take}
use Rattle.std.specs.List.{flat_map}
use Rattle.mb_journal.specs.Acts.{restart_for}
use Rattle.mb_supervision.proofs.cell_state.failed.restart_each.Given as goal

abbrev pub invariant-loop-child : goal.invariant-loop-child
invariant-loop-child l = record {
  acts : l.acts.acts ≡ l.fn.acts.acts ++ flat_map (restart_for l.failing l.cause) (take l.child-index l.children);
  within_limit : l.fn.acts.room ≤ l.acts.room + 2 * l.child-index;
}
