-- The jobs of a run, and what becomes of them.
use Rattle.std.specs.Prelude.{◌≡◌, ℕ, ◌<◌, true, List, All, length, map}
use Rattle.std.specs.Global.{Box}
use Rattle.std.specs.List.{AllZip}
use Rattle.mb_msg.specs.declared.id.SenderId.{SenderId}
use Rattle.mb_gate.specs.Accessors.{actors_of}
use Rattle.mb_gate.specs.declared.gates.Gates.{Gates}
use Rattle.mb_home.specs.Contents.{Contents}
use Rattle.mb_register.specs.Caller.{IsDischargedOrOwed}
use Rattle.mb_register.specs.ActorSet.{has_actor}
use Rattle.mb_system.specs.Obligations.{KeepsObligations, OwesNobody}
use Rattle.mb_system.specs.Members.{IsSenderOf, OutsideSender, sender_caller}
use Rattle.mb_dispatch.specs.Claims.{SenderLosesNoClaim}
use Rattle.mb_dispatch.specs.Orders.{HasSent, HasSentSome}
use Rattle.mb_dispatch.specs.declared.job.Job.{Job}

-- The sender forgot no actor of its set: each is owed nothing, or is in the set still.
abbrev pub ForgetsNobody : Gates (Box Contents) → OutsideSender → OutsideSender → Type 0
ForgetsNobody gates old new = (id : ℕ) → id < actors_of gates → has_actor old.registrar.owed id ≡ true
    → IsDischargedOrOwed id (sender_caller new.registrar)

module _ {A K : Type 0} where
  -- Who the senders of these jobs are.
  abbrev pub jobs_senders : List (Job A K) → List SenderId
  jobs_senders = map (λ (j : Job A K). j.sender.send_log.by)

  -- The senders of these jobs are of the gates.
  abbrev pub AreJobsOf : Gates (Box Contents) → List (Job A K) → Type 0
  AreJobsOf gates = All (λ (j : Job A K). IsSenderOf gates j.sender)

  -- The job was done by its sender, which forgot nothing that it owed, and owes nobody a look.
  pub record IsDone (gates : Gates (Box Contents)) (old new : Job A K) : Type 0 where
    pub sent : HasSent old.sends.items old.sender new.sender
    pub nobody : OwesNobody gates new.sender
    pub obligations : KeepsObligations (actors_of gates) (sender_caller old.sender.registrar) (sender_caller new.sender.registrar)
    pub sends : new.sends ≡ old.sends

  -- Each of these jobs was done.
  abbrev pub AreDone : Gates (Box Contents) → List (Job A K) → List (Job A K) → Type 0
  AreDone gates = AllZip (IsDone gates)

  -- What a job keeps, whatever it comes to: its sender is of the gates still, and the same. The sender carried out its orders, all of them or up to where it
  -- stopped, and nothing else. It forgot no actor of its set, and lost no claim. What is to be sent is as it was.
  pub record KeepsJob (gates : Gates (Box Contents)) (old new : Job A K) : Type 0 where
    pub same_gates : IsSenderOf gates new.sender
    pub same_sender : new.sender.send_log.by ≡ old.sender.send_log.by
    pub sent : HasSentSome old.sends.items old.sender new.sender
    pub still : ForgetsNobody gates old.sender new.sender
    pub sends : new.sends ≡ old.sends
    pub claims : SenderLosesNoClaim old.sender new.sender

  -- What a run keeps of its jobs, whatever it answers: so it is with each of them.
  pub record KeepJobs (gates : Gates (Box Contents)) (old new : List (Job A K)) : Type 0 where
    pub jobs : AreJobsOf gates new × (length new ≡ length old)
    pub same_sender : jobs_senders new ≡ jobs_senders old
    pub sent : AllZip (λ (o n : Job A K). HasSentSome o.sends.items o.sender n.sender) old new
    pub still : AllZip (λ (o n : Job A K). ForgetsNobody gates o.sender n.sender) old new
    pub sends : map (λ (j : Job A K). j.sends) new ≡ map (λ (j : Job A K). j.sends) old
    pub claims_of_jobs : AllZip (λ (o n : Job A K). SenderLosesNoClaim o.sender n.sender) old new
