use Rattle.std.proofs.Common.{◌≡◌, ◌+◌, ◌≤◌, ◌++◌, take}
use Rattle.std.specs.Prelude.{not, filter}
use Rattle.mb_msg.specs.declared.system.SysMsg.TheVariants as system
use Rattle.mb_actor.specs.ActorList.{has}
use Rattle.mb_journal.specs.Acts.{to_each}
use Rattle.mb_supervision.proofs.fail.suspend_all_but.Given as goal

abbrev pub invariant-loop-child : goal.invariant-loop-child
invariant-loop-child l = record {
  acts : l.acts.acts ≡ l.fn.acts.acts ++ to_each system.Suspend (filter (λ x. not (has l.except x)) (take l.child-index l.children));
  within_limit : l.fn.acts.room ≤ l.acts.room + l.child-index;
}
