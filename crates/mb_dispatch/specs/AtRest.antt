-- When a system is at rest (this project's own profile: Akka's dispatchers do not say when they have nothing to do).
use Rattle.std.specs.Prelude.{◌≡◌, ℕ, ◌<◌, All, List, [], ◌∷◌, ◌++◌, length, map}
use Rattle.std.specs.Global.{Box}
use Rattle.mb_ghost.specs.Shares.{IsWhole}
use Rattle.mb_ghost.specs.Summed.{total}
use Rattle.mb_gate.specs.Accessors.{actors_of, pass_view}
use Rattle.mb_gate.specs.ClaimCounts.{claims_got, claims_returned}
use Rattle.mb_gate.specs.NotRun.{shares_in}
use Rattle.mb_gate.specs.Together.{together}
use Rattle.mb_gate.specs.View.{View}
use Rattle.mb_gate.specs.declared.gates.Gates.{Gates}
use Rattle.mb_home.specs.Contents.{Contents}
use Rattle.mb_system.specs.Members.{OutsideSender, handle_caller, sender_caller}
use Rattle.mb_system.specs.Obligations.{AreDischargedOrOwed, HasNoObligationTo}
use Rattle.mb_system.specs.declared.handle.WorkerHandle.{WorkerHandle}
use Rattle.mb_system.specs.declared.system.System.{System}
use Rattle.mb_dispatch.specs.declared.job.Job.{Job}

-- What one party would know that had all that these have, the first and then each of the others.
abbrev pub all_together : View → List View → View
all_together v [] = v
all_together v (w ∷ ws) = all_together (together v w) ws

-- No claim is out, by all that these parties know: if they have the whole share together, they gave back each claim of an actor that they got, as
-- often as they got one.
abbrev pub NoClaimIsLeft : ℕ → List View → Type 0
NoClaimIsLeft actors views =
    IsWhole (shares_in views) → (actor : ℕ) → actor < actors → total (claims_got actor) views ≡ total (claims_returned actor) views

-- What these senders know.
abbrev pub views_of_senders : List OutsideSender → List View
views_of_senders = map (λ (s : OutsideSender). pass_view s.registrar.pass)

module _ {A K : Type 0} where
  -- What the senders of these jobs know.
  abbrev pub views_of_jobs : List (Job A K) → List View
  views_of_jobs = map (λ (j : Job A K). pass_view j.sender.registrar.pass)

  -- What these handles know, the senders of these jobs, and these senders.
  abbrev pub views_of : List (WorkerHandle A K) → List (Job A K) → List OutsideSender → List View
  views_of handles jobs senders =
      map (λ (e : WorkerHandle A K). pass_view e.registrar.pass) handles ++ (views_of_jobs jobs ++ views_of_senders senders)

  -- The system is at rest, where there are as many handles as it has workers, and as many senders as it has: no claim is out.
  abbrev pub IsAtRest : System A K → List (WorkerHandle A K) → List OutsideSender → Type 0
  IsAtRest system handles senders =
      length handles ≡ system.workers → length senders ≡ system.senders → NoClaimIsLeft (actors_of system.gates) (views_of handles [] senders)

  -- To each actor each of these handles, and each of these senders, owes nothing, or it has the actor in its set of owed looks. So it is in a new
  -- system, in which nobody owes anything.
  abbrev pub AllDischargedOrOwed : Gates (Box Contents) → List (WorkerHandle A K) → List OutsideSender → Type 0
  AllDischargedOrOwed gates handles senders =
      All (λ (e : WorkerHandle A K). AreDischargedOrOwed (actors_of gates) (handle_caller e.registrar)) handles
      × All (λ (s : OutsideSender). AreDischargedOrOwed (actors_of gates) (sender_caller s.registrar)) senders

  -- None of these handles, and none of these senders, owes an actor anything.
  abbrev pub NobodyOwes : Gates (Box Contents) → List (WorkerHandle A K) → List OutsideSender → Type 0
  NobodyOwes gates handles senders =
      All (λ (e : WorkerHandle A K). HasNoObligationTo (actors_of gates) (handle_caller e.registrar)) handles
      × All (λ (s : OutsideSender). HasNoObligationTo (actors_of gates) (sender_caller s.registrar)) senders

  -- A run with these handles and senders, as they were before and as they are now, came to rest: no claim is out; and nobody owes an actor anything, where
  -- before each party had in its set all to which it owed something.
  pub record ComesToRest (system : System A K) (handles_before : List (WorkerHandle A K)) (senders_before : List OutsideSender)
      (handles : List (WorkerHandle A K)) (senders : List OutsideSender) : Type 0 where
    pub no_claim : IsAtRest system handles senders
    pub no_obligation : AllDischargedOrOwed system.gates handles_before senders_before → NobodyOwes system.gates handles senders
