-- The acts of a cell that are to be carried out, and how they are kept until then.
use Rattle.std.specs.Prelude.{◌+◌, ◌≤◌, vec_len, vec_capacity}
use Rattle.mb_journal.specs.Acts.{Act}
use Rattle.mb_journal.specs.Acts.Act.{Tell, Sys, SuspendSelf, ResumeSelf, CloseSelf}
use Rattle.mb_supervision.specs.declared.act.Act.{Act as Handed}
use Rattle.mb_supervision.specs.declared.act.Act.TheVariants as handed
use Rattle.mb_supervision.specs.declared.queued_act.QueuedAct.{QueuedAct}
use Rattle.mb_supervision.specs.declared.queued_act.QueuedAct.TheVariants as act
use Rattle.mb_supervision.specs.declared.act_queue.ActQueue.TheInside.{Inside}

-- an act as it is handed out (this project's own profile: Akka acts at once)
abbrev pub act_of : Handed → Act
act_of (handed.Tell to body) = Tell to body
act_of (handed.Sys to node) = Sys to node
act_of handed.SuspendSelf = SuspendSelf
act_of handed.ResumeSelf = ResumeSelf
act_of handed.CloseSelf = CloseSelf

-- an act as it is kept
abbrev pub queued_act : QueuedAct → Act
queued_act (act.Tell to body) = Tell to body
queued_act (act.Sys to message) = Sys to message
queued_act act.SuspendSelf = SuspendSelf
queued_act act.ResumeSelf = ResumeSelf
queued_act act.CloseSelf = CloseSelf

-- the acts from the next on are left, and there is a place and a node for each of them and for as many more as there is room
pub record IsActQueue (q : Inside) : Type 0 where
  pub within : q.next ≤ vec_len q.queued
  pub places : vec_len q.queued + q.room ≤ vec_capacity q.queued
  pub nodes : vec_len q.queued + q.room ≤ vec_len q.nodes + q.next
