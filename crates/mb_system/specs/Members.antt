-- Which workers' handles and senders belong to a system (this project's own profile: in Akka a dispatcher has its threads to itself).
use Rattle.std.specs.Prelude.{◌≡◌, ℕ, ◌+◌, ◌<◌, false, List, All, drop, map, vec_len}
use Rattle.std.specs.Global.{Box}
use Rattle.std.specs.List.{AllZip}
use Rattle.mb_gate.specs.declared.claim.Claim.{Claim}
use Rattle.mb_gate.specs.declared.gates.Gates.{Gates}
use Rattle.mb_gate.specs.Accessors.{actors_of, first_home, pass_view}
use Rattle.mb_gate.specs.Rule.{IsPart}
use Rattle.mb_home.specs.Contents.{Contents}
use Rattle.mb_home.specs.Directory.{queues_of}
use Rattle.mb_pool.specs.Places.{PoolEndpoint, gates_of, ports_of}
use Rattle.mb_send.specs.Sends.{receiving_queues}
use Rattle.mb_send.specs.declared.sender.GatesSender.{GatesSender}
use Rattle.mb_register.specs.Caller.{Caller, caller_of, IsRegistrarOf}
use Rattle.mb_register.specs.ActorSet.{has_actor}
use Rattle.mb_register.specs.Views.{GivesBackUnchanged}
use Rattle.mb_register.specs.declared.registrar.Registrar.{Registrar}
use Rattle.mb_pool.specs.FeedPorts.{FeedPortView}
use Rattle.mb_pool.specs.PoolPorts.{pushed_first}
use Rattle.mb_pool.specs.WorkerPorts.{WorkerPortView}
use Rattle.mb_system.specs.declared.handle.WorkerHandle.{WorkerHandle}

-- The handle's pass and its port of the run queue are of these gates.
abbrev pub IsHandleOf : Gates (Box Contents) → Registrar (Box Contents) (WorkerPortView (Box Contents)) → Type 0
IsHandleOf gates registrar = IsRegistrarOf (λ (run_queue : WorkerPortView (Box Contents)). gates_of run_queue.handle) gates registrar

-- What a sender outside the actors has.
abbrev pub OutsideSender : Type 0
OutsideSender = GatesSender (Box Contents) (FeedPortView (Box Contents))

-- The sender's pass and its port of the run queue are of these gates; and it has a pass into the queue of each actor from number 1 on, in their
-- order.
pub record IsSenderOf (gates : Gates (Box Contents)) (sender : OutsideSender) : Type 0 where
  pub same_gates : IsRegistrarOf (λ (run_queue : FeedPortView (Box Contents)). gates_of run_queue.feed) gates sender.registrar
  pub all : vec_len sender.sends + 1 ≡ actors_of gates
  pub queues : receiving_queues sender.sends.items ≡ drop 1 (queues_of (first_home gates).value.directory)

-- The sender is of the gates still, and the same as before: its number, its log and its passes. It sent no system message, kept its share, gave each
-- cell back as it was taken, and still knows all that it saw.
pub record SendsNothing (gates : Gates (Box Contents)) (old new : OutsideSender) : Type 0 where
  pub same_gates : IsSenderOf gates new
  pub same_sender : new.send_log.by ≡ old.send_log.by
  pub same : ((pass_view new.registrar.pass).sent_system ≡ (pass_view old.registrar.pass).sent_system) × (new.send_log ≡ old.send_log)
      × (new.sends ≡ old.sends)
  pub share : (pass_view new.registrar.pass).share ≡ (pass_view old.registrar.pass).share
  pub gives_back : GivesBackUnchanged (pass_view old.registrar.pass) (pass_view new.registrar.pass)
  pub log_kept : IsPart (pass_view old.registrar.pass).log (pass_view new.registrar.pass).log

-- What a worker's handle knows and owes, with its account with the run queue.
abbrev pub handle_caller : Registrar (Box Contents) (WorkerPortView (Box Contents)) → Caller (Box Contents)
handle_caller registrar = caller_of (λ (run_queue : WorkerPortView (Box Contents)). run_queue.pushed)
    (λ (run_queue : WorkerPortView (Box Contents)). run_queue.refused) registrar

-- What a sender knows and owes, with its account with the run queue.
abbrev pub sender_caller : Registrar (Box Contents) (FeedPortView (Box Contents)) → Caller (Box Contents)
sender_caller registrar = caller_of (λ (run_queue : FeedPortView (Box Contents)). pushed_first (ports_of run_queue.feed))
    (λ (run_queue : FeedPortView (Box Contents)). run_queue.refused) registrar

-- The feeds of the pool that these senders have, in order.
abbrev pub pool_feeds_of : List OutsideSender → List (PoolEndpoint (Box Contents))
pool_feeds_of = map (λ (s : OutsideSender). s.registrar.run_queue.feed)

module _ {A K : Type 0} where
  -- The handle is of the gates still, with the same number, and still knows all that it saw.
  pub record IsSameHandle (gates : Gates (Box Contents)) (old new : WorkerHandle A K) : Type 0 where
    pub same_gates : IsHandleOf gates new.registrar
    pub number : new.number ≡ old.number
    pub log_kept : IsPart (pass_view old.registrar.pass).log (pass_view new.registrar.pass).log

  -- The claims that the handle took, in order.
  abbrev pub claims_taken : WorkerHandle A K → List (Claim (Box Contents))
  claims_taken handle = map (λ claim. claim.value) handle.taken

  -- The numbers of these handles.
  abbrev pub handle_numbers : List (WorkerHandle A K) → List ℕ
  handle_numbers = map (λ (e : WorkerHandle A K). e.number)

  -- The handles of the pool that these workers' handles have, in order.
  abbrev pub pool_handles_of : List (WorkerHandle A K) → List (PoolEndpoint (Box Contents))
  pool_handles_of = map (λ (e : WorkerHandle A K). e.registrar.run_queue.handle)

  -- All these handles are of the gates.
  abbrev pub AreHandlesOf : Gates (Box Contents) → List (WorkerHandle A K) → Type 0
  AreHandlesOf gates = All (λ (e : WorkerHandle A K). IsHandleOf gates e.registrar)

  -- Each of these handles still knows all that it saw before.
  abbrev pub StillSee : List (WorkerHandle A K) → List (WorkerHandle A K) → Type 0
  StillSee = AllZip (λ (old new : WorkerHandle A K). IsPart (pass_view old.registrar.pass).log (pass_view new.registrar.pass).log)

  -- None of these handles owes anybody a look.
  abbrev pub OweNobody : Gates (Box Contents) → List (WorkerHandle A K) → Type 0
  OweNobody gates = All (λ (e : WorkerHandle A K). (id : ℕ) → id < actors_of gates → has_actor e.registrar.owed id ≡ false)
