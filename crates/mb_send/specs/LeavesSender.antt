-- What sending leaves of a sender outside the actors.
use Rattle.std.specs.Prelude.{◌≡◌, ℕ, true, List, Option, vec_len}
use Rattle.mb_gate.specs.declared.claim.Claim.{Claim}
use Rattle.mb_gate.specs.Accessors.{pass_id, pass_view}
use Rattle.mb_gate.specs.Untouched.{Origin}
use Rattle.mb_register.specs.ActorSet.{has_actor}
use Rattle.mb_register.specs.Registering.{LosesNoClaim}
use Rattle.mb_register.specs.Registers.{account_of}
use Rattle.mb_send.specs.Asked.{RegistersAtMost}
use Rattle.mb_send.specs.Sends.{receiving_queues}
use Rattle.mb_send.specs.declared.sender.GatesSender.{GatesSender}

-- What sending to this actor leaves of a sender, whatever it answers. Its pass and its port of the run queue are of the same gates still. It owes every
-- look that it owed. It gave at most one claim to the run queue, a claim of this actor, and no claim is lost. Its number is the same, and so are how
-- many passes into queues it has, which queues these are, and how much it keeps of its dead letters.
pub record LeavesSender {H W : Type 0} (origin : W → Option (Origin H)) (pushed refused : W → List (Claim H)) (to : ℕ) (old new : GatesSender H W)
    : Type 0 where
  pub same_gates : (pass_id new.registrar.pass ≡ pass_id old.registrar.pass) × (origin new.registrar.run_queue ≡ origin old.registrar.run_queue)
  pub still : (id : ℕ) → has_actor old.registrar.owed id ≡ true → has_actor new.registrar.owed id ≡ true
  pub registered : RegistersAtMost to (account_of pushed refused old.registrar) (account_of pushed refused new.registrar)
  pub handed : LosesNoClaim (account_of pushed refused old.registrar) (account_of pushed refused new.registrar) (pass_view old.registrar.pass)
      (pass_view new.registrar.pass)
  pub same : (new.send_log.by ≡ old.send_log.by) × (vec_len new.sends ≡ vec_len old.sends)
  pub keeps : new.send_log.dead.retention ≡ old.send_log.dead.retention
  pub queues : receiving_queues new.sends.items ≡ receiving_queues old.sends.items
