use Rattle.std.proofs.Common.{◌≡◌, ◌+◌, ◌≤◌, ◌++◌, ◌&&◌, take, map}
use Rattle.mb_msg.specs.declared.id.ActorId.{ActorId}
use Rattle.mb_msg.specs.declared.system.SysMsg.TheVariants as system
use Rattle.mb_journal.specs.Acts.Act.{Sys}
use Rattle.mb_journal.specs.Failure.{is_child}
use Rattle.mb_supervision.proofs.cell_state.resume.resume_each.Given as goal

abbrev pub invariant-loop-child : goal.invariant-loop-child
invariant-loop-child l = record {
  acts :
      l.acts.acts
      ≡ l.fn.acts.acts
      ++ map (λ (x : ActorId). Sys x (system.Resume (l.of_failure && is_child l.failed x))) (take l.child-index l.children);
  within_limit : l.fn.acts.room ≤ l.acts.room + l.child-index;
}
