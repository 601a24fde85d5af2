-- A new system.
use Rattle.std.specs.Prelude.{◌≡◌, ◌≢◌, ℕ, ◌+◌, true, List, [], ◌∷◌, ◌++◌, All, length, slice_get, Some}
use Rattle.std.specs.Global.{Box}
use Rattle.mb_ghost.specs.Shares.{IsWhole}
use Rattle.mb_msg.specs.JournalMode.{retention_of}
use Rattle.mb_msg.specs.Limits.{most_actors}
use Rattle.mb_msg.specs.declared.system.SysMsg.TheVariants.{Create}
use Rattle.mb_core.specs.Actor.{nothing}
use Rattle.mb_actor.specs.Behaviour.{Moment, Reply}
use Rattle.mb_gate.specs.Accessors.{actors_of, first_home, pass_view}
use Rattle.mb_gate.specs.View.{Pushed, View, obligation_to}
use Rattle.mb_gate.specs.declared.gates.Gates.{Gates}
use Rattle.mb_msg.specs.declared.journal_mode.JournalMode.{JournalMode}
use Rattle.mb_msg.specs.declared.plan.Plan.{Plan}
use Rattle.mb_pool.specs.Made.{AreUnused as AreUnusedWays, IsOfKind}
use Rattle.mb_pool.specs.Places.{AreHandles, AreFeeds}
use Rattle.mb_msg.specs.declared.mailbox_type.MailboxType.{MailboxType}
use Rattle.mb_queue.specs.Passes.{Queue, SendPassView}
use Rattle.mb_home.specs.Contents.{Contents}
use Rattle.mb_build.specs.NewHomes.{AreNewHomes}
use Rattle.mb_build.specs.Planned.{actors_in}
use Rattle.mb_build.specs.Kinds.{AreKindsOf}
use Rattle.mb_send.specs.Sends.{AreRoutes, receiving_queues}
use Rattle.mb_register.specs.ActorSet.{IsNobody}
use Rattle.mb_system.specs.Members.{IsHandleOf, IsSenderOf, OutsideSender, pool_handles_of, pool_feeds_of}
use Rattle.mb_system.specs.Shares.{shares_of, views_of}
use Rattle.mb_system.specs.Belonging.{BelongsTogether}
use Rattle.mb_system.specs.declared.built.Built.{Built}
use Rattle.mb_system.specs.declared.handle.WorkerHandle.{WorkerHandle}
use Rattle.mb_startup.specs.NewActors.{AreNewActors}

-- A sender's passes: one into each of these queues, in order, for the sender of this number. Nothing was pushed by them.
pub record IsUnused (queues : List Queue) (actors number : ℕ) (sends : List SendPassView) : Type 0 where
  pub same_count : length sends + 1 ≡ actors
  pub queues_are : receiving_queues sends ≡ queues
  pub routes : AreRoutes number [] sends

-- The passes of each of these senders, which are numbered on from this one.
abbrev pub AreUnused : List Queue → ℕ → ℕ → List (List SendPassView) → Type 0
AreUnused queues actors number [] = Unit {0}
AreUnused queues actors number (sends ∷ rows) = IsUnused queues actors number sends × AreUnused queues actors (number + 1) rows

-- One Create was put into the guardian's list, and nothing else was seen or done.
abbrev pub IsCreated : View → Type 0
IsCreated view = (number : ℕ) × (view.log ≡ Pushed 0 number Create ∷ [])

-- This view owes nobody anything.
abbrev pub HasNoObligations : View → Type 0
HasNoObligations view = (id : ℕ) → obligation_to id view ≡ nothing

-- This view owes the guardian its first run, since the guardian has a system message, and nobody else anything.
abbrev pub OwesFirstRun : View → Type 0
OwesFirstRun view = (obligation_to 0 view ≡ record nothing { system = true }) × ((id : ℕ) → id ≢ 0 → obligation_to id view ≡ nothing)

-- No claim went into the handle's run queue, none was refused, and the handle took none.
abbrev pub HasNoClaims : {A K : Type 0} → WorkerHandle A K → Type 0
HasNoClaims e = (e.registrar.run_queue.pushed ≡ []) × (e.registrar.run_queue.refused ≡ []) × (e.taken ≡ [])

-- Each of these senders keeps of its dead letters what a journal of this mode keeps of its entries.
abbrev pub KeepLettersIn : JournalMode → List OutsideSender → Type 0
KeepLettersIn mode senders = All (λ (s : OutsideSender). s.send_log.dead.retention ≡ retention_of mode) senders

module _ (gates : Gates (Box Contents)) where
  -- A new sender of this number: it sent no envelope and no system message, was answered nothing, saw nothing, got no claim, gave no cell back, owes
  -- nobody anything, and pushes by these passes.
  pub record IsNewSender (number : ℕ) (sends : List SendPassView) (s : OutsideSender) : Type 0 where
    pub same_gates : IsSenderOf gates s
    pub by : s.send_log.by ≡ record { 0 = number }
    pub posted : s.send_log.posted ≡ []
    pub sends_are : s.sends.items ≡ sends
    pub nobody : IsNobody s.registrar.owed
    pub settled : HasNoObligations (pass_view s.registrar.pass)
    pub blank : (pass_view s.registrar.pass).log ≡ []
    pub sent_nothing : (pass_view s.registrar.pass).sent_system ≡ []
    pub unclaimed : (pass_view s.registrar.pass).got ≡ []
    pub none_released : (pass_view s.registrar.pass).releases ≡ []

  -- New senders, numbered on from this one.
  abbrev pub AreNewSenders : ℕ → List (List SendPassView) → List OutsideSender → Type 0
  AreNewSenders number [] [] = Unit {0}
  AreNewSenders number (sends ∷ rows) (s ∷ senders) = IsNewSender number sends s × AreNewSenders (number + 1) rows senders
  AreNewSenders number _ _ = ⊥

module _ {A K : Type 0} (gates : Gates (Box Contents)) where
  -- A new worker's handle of this number, which saw nothing, got and took no claim, gave no cell back and owes nobody anything. Nothing went into its run
  -- queue, and nothing was refused.
  pub record IsNewHandle (number : ℕ) (e : WorkerHandle A K) : Type 0 where
    pub same_gates : IsHandleOf gates e.registrar
    pub number_is : e.number ≡ number
    pub nobody : IsNobody e.registrar.owed
    pub settled : HasNoObligations (pass_view e.registrar.pass)
    pub blank : (pass_view e.registrar.pass).log ≡ []
    pub unclaimed : (pass_view e.registrar.pass).got ≡ []
    pub none_released : (pass_view e.registrar.pass).releases ≡ []
    pub no_claims : HasNoClaims e

  -- New handles, numbered on from this one.
  abbrev pub AreNewHandles : ℕ → List (WorkerHandle A K) → Type 0
  AreNewHandles number [] = Unit {0}
  AreNewHandles number (e ∷ handles) = IsNewHandle number e × AreNewHandles (number + 1) handles

  -- New handles, numbered on from 0. But the first put the Create into the guardian's list, and owes the guardian its first run.
  pub record AreFirstHandles (handles : List (WorkerHandle A K)) : Type 0 where
    pub handle : WorkerHandle A K
    pub others : List (WorkerHandle A K)
    pub handles_are : handles ≡ (handle ∷ others)
    pub others_are : AreNewHandles 1 others
    pub same_gates : IsHandleOf gates handle.registrar
    pub first_handle : (handle.number ≡ 0) × IsNobody handle.registrar.owed
    pub created : IsCreated (pass_view handle.registrar.pass)
    pub settled : OwesFirstRun (pass_view handle.registrar.pass)
    pub unclaimed : (pass_view handle.registrar.pass).got ≡ []
    pub none_released : (pass_view handle.registrar.pass).releases ≡ []
    pub no_claims : HasNoClaims handle

-- A new system of this plan. The actors' homes are as the plan says, its queues are of the plan's kinds and empty, and its pool is of the plan's
-- kind. Its handles and its senders are unused; they have the handles and feeds of that pool, by which nothing was pushed or taken. Its senders keep of their
-- dead letters what the plan says that journals keep. One Create, to the
-- guardian, is the only message that anybody put into a list: the first handle put it there, and owes the guardian its first run. Nobody got a claim,
-- gave a cell back or owes anything else, and there are no passes but those of these handles and senders. So each actor is new, in each state of the gates
-- in which these handles and senders know what they know.
pub record IsBegun {A K : Type 0} (gives : ℕ → Moment → Reply → Type 0) (plan : Plan) (built : Built A K) : Type 0 where
  pub together : BelongsTogether built
  pub kinds : List MailboxType
  pub kinds_are : AreKindsOf plan.actors.items kinds
  pub homes : List (Box Contents)
  pub outside : List (List SendPassView)
  pub homes_made : AreNewHomes gives (actors_in plan) kinds plan.senders homes outside
  pub first : slice_get homes 0 ≡ Some (first_home built.system.gates)
  pub actors : actors_of built.system.gates ≡ length homes
  pub senders : AreNewSenders built.system.gates most_actors outside built.senders.items
  pub keep_letters : KeepLettersIn plan.journal built.senders.items
  pub numbers : (built.system.workers ≡ plan.workers) × (built.system.senders ≡ plan.senders) × (built.system.throughput ≡ plan.throughput)
  pub pool : IsOfKind plan.pool built.system.pool
  pub of_pool : AreHandles built.system.pool (pool_handles_of built.handles.items) × AreFeeds built.system.pool (pool_feeds_of built.senders.items)
  pub unused : AreUnusedWays (pool_handles_of built.handles.items ++ pool_feeds_of built.senders.items)
  pub same_count : length built.handles.items ≡ plan.workers
  pub handle : WorkerHandle A K
  pub others : List (WorkerHandle A K)
  pub handles_are : built.handles.items ≡ (handle ∷ others)
  pub others_are : AreNewHandles built.system.gates 1 others
  pub first_handle : (handle.number ≡ 0) × IsNobody handle.registrar.owed
  pub created : IsCreated (pass_view handle.registrar.pass)
  pub settled : OwesFirstRun (pass_view handle.registrar.pass)
  pub unclaimed : (pass_view handle.registrar.pass).got ≡ []
  pub none_released : (pass_view handle.registrar.pass).releases ≡ []
  pub whole : IsWhole (shares_of built)
  pub new_actors : AreNewActors gives plan built.system.gates (views_of built)
