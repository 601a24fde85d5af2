-- What stands after an error of a sender.
use Rattle.std.specs.Prelude.{◌≡◌, ◌⊎◌, ◌<◌, ◌≤◌, ℕ, Result, IsErrOf, OnErr}
use Rattle.mb_msg.specs.declared.id.ActorId.{ActorId}
use Rattle.mb_gate.specs.Accessors.{pass_view}
use Rattle.mb_send.specs.Answers.{IsSeen}
use Rattle.mb_send.specs.declared.send_error.SendError.{SendError}
use Rattle.mb_send.specs.declared.send_error.SendError.TheVariants.{NoMemory, NoSuchActor}
use Rattle.mb_send.specs.declared.send_log.SendLog.{SendLog}
use Rattle.mb_send.specs.declared.sender.GatesSender.{GatesSender}
use Rattle.mb_send.specs.declared.ticket.Look.{Look}

-- The log says what it said before: whose it is, how many envelopes it was answered for, which of them are dead letters, what it keeps of these, and each
-- answer.
pub record IsSameSendLog (old new : SendLog) : Type 0 where
  pub by : new.by ≡ old.by
  pub sent : new.sent ≡ old.sent
  pub dead : new.dead.items ≡ old.dead.items
  pub keeps_is : new.dead.retention ≡ old.dead.retention
  pub posted : new.posted ≡ old.posted

-- The receiver's status was read once, and nothing else was done: what the sender knows besides, its log, its passes into the queues, its port of the
-- run queue and its set of owed looks are as before.
pub record OnlyLooked {H W : Type 0} (to : ActorId) (old new : GatesSender H W) : Type 0 where
  pub look : Look
  pub seen : IsSeen to look (pass_view old.registrar.pass) (pass_view new.registrar.pass)
  pub send_log : IsSameSendLog old.send_log new.send_log
  pub sends : new.sends ≡ old.sends
  pub run_queue : new.registrar.run_queue ≡ old.registrar.run_queue
  pub owed : new.registrar.owed ≡ old.registrar.owed

-- Nothing was sent: the sender's log says what it said, and its passes into the queues and its registrar are as before.
pub record SendsNothing {H W : Type 0} (old new : GatesSender H W) : Type 0 where
  pub send_log : IsSameSendLog old.send_log new.send_log
  pub sends : new.sends ≡ old.sends
  pub registrar : new.registrar ≡ old.registrar

-- Why a tell to this receiver failed, of as many actors, and what stands then. No envelope was sent. There is no such receiver, or it is the guardian,
-- and nothing changed; or there was no memory, and the receiver was only looked at.
pub record FailsToTell {T H W : Type 0} (actors : ℕ) (to : ActorId) (result : Result T SendError) (old new : GatesSender H W) : Type 0 where
  pub refused : OnErr result ((new.send_log.posted ≡ old.send_log.posted)
      × ((IsErrOf result NoSuchActor × ((to.0 ≡ 0) ⊎ (actors ≤ to.0))) ⊎ (IsErrOf result NoMemory × (0 < to.0) × (to.0 < actors))))
  pub unknown : IsErrOf result NoSuchActor → new ≡ old
  pub unsent : IsErrOf result NoMemory → OnlyLooked to old new
