-- The state of a cell, as contracts see it.
use Rattle.std.specs.Prelude.{ℕ, Bool, List}
use Rattle.mb_msg.specs.declared.id.ActorId.{ActorId}
use Rattle.mb_msg.specs.declared.system.SysMsg.{SysMsg}
use Rattle.mb_actor.specs.declared.phase.Phase.{Phase}
use Rattle.mb_journal.specs.Acts.{Act}
use Rattle.mb_journal.specs.declared.failed_by.FailedBy.{FailedBy}

-- the phase of the actor; how often its mailbox is suspended; by whom it is failed; its children, its watchers, whom it
-- watches and whose end it is still to be told; what is set aside; whether it was Live when it was told to end; how often a
-- restart of each child was requested, where there is a limit above 0; the acts that are to be carried out; how many children a start
-- may start; and whether there is room for one message more (fields of `akka.actor.ActorCell`; that they are queries of a
-- journal is this project's own profile)
pub record CellState : Type 0 where
  pub phase : Phase
  pub count : ℕ
  pub failed : FailedBy
  pub children : List ActorId
  pub watchers : List ActorId
  pub watching : List ActorId
  pub due : List ActorId
  pub aside : List (ℕ × SysMsg)
  pub was_live : Bool
  pub retries : List (ActorId × ℕ)
  pub acts : List Act
  pub fanout : ℕ
  pub is_ready : Bool
