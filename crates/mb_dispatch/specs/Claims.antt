-- What becomes of the claims of a worker's handle (in Akka the executor runs each mailbox that it was given).
use Rattle.std.specs.Prelude.{◌≡◌, ℕ, ◌+◌, List, [], ◌++◌}
use Rattle.std.specs.Global.{Box}
use Rattle.std.specs.List.{AllZip}
use Rattle.mb_gate.specs.Accessors.{pass_view}
use Rattle.mb_gate.specs.ClaimCounts.{claims_got, claims_returned}
use Rattle.mb_gate.specs.declared.claim.Claim.{Claim}
use Rattle.mb_home.specs.Contents.{Contents}
use Rattle.mb_register.specs.Registering.{LosesNoClaim, claims_of_actor}
use Rattle.mb_system.specs.Members.{OutsideSender, claims_taken, sender_caller}
use Rattle.mb_system.specs.declared.handle.WorkerHandle.{WorkerHandle}

-- The sender lost no claim: each that it got went into its run queue or, where the queue refused it, back to its actor.
abbrev pub SenderLosesNoClaim : OutsideSender → OutsideSender → Type 0
SenderLosesNoClaim old new =
    LosesNoClaim (sender_caller old.registrar).account (sender_caller new.registrar).account
    (pass_view old.registrar.pass) (pass_view new.registrar.pass)

module _ {A K : Type 0} where
  -- No claim is lost, and the handle has run each that it took, but these. Of each actor, it got as many claims as went into its run queue and as the
  -- queue refused; and it gave back as many as it took and ran, and as the queue refused.
  pub record RunsEachClaimBut (held : List (Claim (Box Contents))) (old new : WorkerHandle A K) : Type 0 where
    pub went : List (Claim (Box Contents))
    pub back : List (Claim (Box Contents))
    pub took : List (Claim (Box Contents))
    pub pushed : new.registrar.run_queue.pushed ≡ old.registrar.run_queue.pushed ++ went
    pub refused : new.registrar.run_queue.refused ≡ old.registrar.run_queue.refused ++ back
    pub taken : claims_taken new ≡ claims_taken old ++ took
    pub got : (actor : ℕ) → claims_got actor (pass_view new.registrar.pass)
        ≡ claims_got actor (pass_view old.registrar.pass) + (claims_of_actor actor went + claims_of_actor actor back)
    pub returned : (actor : ℕ) → claims_returned actor (pass_view new.registrar.pass) + claims_of_actor actor held
        ≡ claims_returned actor (pass_view old.registrar.pass) + (claims_of_actor actor took + claims_of_actor actor back)

  -- No claim is lost, and the handle has run each that it took.
  abbrev pub RunsEachClaim : WorkerHandle A K → WorkerHandle A K → Type 0
  RunsEachClaim = RunsEachClaimBut []

  -- So it is with each of these handles.
  abbrev pub RunEachClaim : List (WorkerHandle A K) → List (WorkerHandle A K) → Type 0
  RunEachClaim = AllZip RunsEachClaim
