-- Why sending, and the run beside it or after it, is broken off (this project's own profile: in Akka a thread that fails leaves its dispatcher).
use Rattle.std.specs.Prelude.{◌≡◌, ◌≢◌, ◌⊎◌, ℕ, ◌+◌, ◌<◌, List, ◌∷◌, Option, Some, length, map, slice_get, take}
use Rattle.std.specs.Global.{Box}
use Rattle.std.specs.List.{AllZip}
use Rattle.mb_actor.specs.Behaviour.{Moment, Reply}
use Rattle.mb_gate.specs.Accessors.{pass_view}
use Rattle.mb_gate.specs.declared.gates.Gates.{Gates}
use Rattle.mb_home.specs.Contents.{Contents}
use Rattle.mb_msg.specs.declared.order.Order.{Order}
use Rattle.mb_msg.specs.declared.order.SenderOrder.{SenderOrder}
use Rattle.mb_source.specs.RecordedSource.{RecordedSource}
use Rattle.mb_system.specs.Members.{OutsideSender}
use Rattle.mb_system.specs.declared.built.Built.{Built}
use Rattle.mb_system.specs.declared.handle.WorkerHandle.{WorkerHandle}
use Rattle.mb_system.specs.declared.failure.RunError.{RunError}
use Rattle.mb_system.specs.declared.failure.RunError.TheVariants.{NoMemory}
use Rattle.mb_system.specs.declared.system.System.{System}
use Rattle.mb_dispatch.specs.Faults.{BreaksJob, BreaksQuietRun, BreaksRun, RunsOrBreaks}
use Rattle.mb_dispatch.specs.Paired.{pairs}
use Rattle.mb_dispatch.specs.Parallel.{FirstZip}
use Rattle.mb_dispatch.specs.Sources.{BreaksPair, BreaksRunFrom, IsPairDone}
use Rattle.mb_dispatch.specs.declared.job.Job.{Job}
use Rattle.heddleorange.specs.Orders.{lists_of, orders_of}
use Rattle.heddleorange.specs.Sent.{HasSentAndRetried, HaveSent}

-- Of senders that were to carry out these orders, a list for each, one after another, this one is broken off for this reason, as a job of its orders.
-- Each before it carried out its own, and those behind it did nothing.
pub record BreaksSender (gates : Gates (Box Contents)) (orders : List (List Order)) (old new : List OutsideSender) (error : RunError) : Type 0 where
  pub place : ℕ
  pub of : List Order
  pub before : OutsideSender
  pub after : OutsideSender
  pub ordered : slice_get orders place ≡ Some of
  pub was : slice_get old place ≡ Some before
  pub is : slice_get new place ≡ Some after
  pub breaks : BreaksJob gates of before after error
  pub earlier : (k : ℕ) (own : List Order) (a b : OutsideSender) → k < place → slice_get orders k ≡ Some own → slice_get old k ≡ Some a
      → slice_get new k ≡ Some b → HasSentAndRetried gates own a b
  pub later : (k : ℕ) → place < k → slice_get new k ≡ slice_get old k

-- Of senders that were to carry out the orders of this row, each in its turn, the one whose turn it is at this place is broken off for this reason, as
-- a job of its own orders up to there. Each other carried out its own before there, and nothing else.
pub record BreaksRow (gates : Gates (Box Contents)) (sends : List SenderOrder) (old new : List OutsideSender) (error : RunError) : Type 0 where
  pub place : ℕ
  pub send : SenderOrder
  pub before : OutsideSender
  pub after : OutsideSender
  pub ordered : slice_get sends place ≡ Some send
  pub was : slice_get old send.from ≡ Some before
  pub is : slice_get new send.from ≡ Some after
  pub breaks : BreaksJob gates (orders_of send.from (take (place + 1) sends)) before after error
  pub others : (k : ℕ) (a b : OutsideSender) → k ≢ send.from → slice_get old k ≡ Some a → slice_get new k ≡ Some b
      → HasSentAndRetried gates (orders_of k (take place sends)) a b

module _ {A K : Type 0} (gives : ℕ → Moment → Reply → Type 0) where
  -- The quiet run of the first of these handles of the system is broken off for this reason. The others did nothing.
  pub record BreaksFirst (system : System A K) (old new : List (WorkerHandle A K)) (error : RunError) : Type 0 where
    pub first : WorkerHandle A K
    pub first' : WorkerHandle A K
    pub others : List (WorkerHandle A K)
    pub were : old ≡ (first ∷ others)
    pub are : new ≡ (first' ∷ others)
    pub breaks : BreaksQuietRun gives system (pass_view first.registrar.pass) first' error

  -- On one thread sending is broken off, and no handle did anything; or all was sent, and then the quiet run of the first handle is broken off.
  abbrev pub BreaksHere : List (List Order) → Built A K → Built A K → RunError → Type 0
  BreaksHere orders old new error =
      (BreaksSender old.system.gates orders old.senders.items new.senders.items error × (new.handles ≡ old.handles))
      ⊎ (HaveSent old.system.gates orders old.senders.items new.senders.items × BreaksFirst old.system old.handles.items new.handles.items error)

  -- The same, where the orders of all these senders stand in one row.
  abbrev pub BreaksInOrder : List SenderOrder → Built A K → Built A K → RunError → Type 0
  BreaksInOrder sends old new error =
      (BreaksRow old.system.gates sends old.senders.items new.senders.items error × (new.handles ≡ old.handles))
      ⊎ (HaveSent old.system.gates (lists_of (length old.senders.items) sends) old.senders.items new.senders.items
      × BreaksFirst old.system old.handles.items new.handles.items error)

  -- A run of all handles beside a job for each sender, with its orders, is broken off: by the first handle that was, or else by the first job. The
  -- other handles too only made runs.
  pub record BreaksJobs (orders : List (List Order)) (old new : Built A K) (error : RunError) : Type 0 where
    pub before : List (Job A K)
    pub after : List (Job A K)
    pub senders_before : map (λ (j : Job A K). j.sender) before ≡ old.senders.items
    pub senders_after : map (λ (j : Job A K). j.sender) after ≡ new.senders.items
    pub sends : map (λ (j : Job A K). j.sends.items) before ≡ orders
    pub breaks : BreaksRun gives old.system old.handles.items new.handles.items before after error
    pub runs : AllZip (λ o n. RunsOrBreaks gives old.system (pass_view o.registrar.pass) n) old.handles.items new.handles.items

  -- On threads memory was refused for the jobs, and no handle did anything; or the run is broken off.
  abbrev pub BreaksTogether : List (List Order) → Built A K → Built A K → RunError → Type 0
  BreaksTogether orders old new error = ((error ≡ NoMemory) × (new.handles ≡ old.handles)) ⊎ BreaksJobs orders old new error

module _ {A K S : Type 0} (gives : ℕ → Moment → Reply → Type 0) (source_gives : S → Option Order → S → Type 0)
    (takes_back : S → Order → S → Type 0) where
  -- On one thread the first sender is broken off that was, at what its source gave, and no handle did anything; or all that sources gave was sent, and
  -- then the quiet run of the first handle is broken off.
  abbrev pub BreaksHereFrom : List (RecordedSource S) → List (RecordedSource S) → Built A K → Built A K → RunError → Type 0
  BreaksHereFrom was is old new error =
      (FirstZip (IsPairDone old.system.gates source_gives takes_back) (λ o n. BreaksPair old.system.gates o n error)
      (pairs old.senders.items was) (pairs new.senders.items is) × (new.handles ≡ old.handles))
      ⊎ (AllZip (IsPairDone old.system.gates source_gives takes_back) (pairs old.senders.items was) (pairs new.senders.items is)
      × BreaksFirst gives old.system old.handles.items new.handles.items error)

  -- On threads the run of all handles beside the senders is broken off: by the first handle that was, or else by the first sender. The other handles
  -- too only made runs.
  pub record BreaksTogetherFrom (was is : List (RecordedSource S)) (old new : Built A K) (error : RunError) : Type 0 where
    pub breaks : BreaksRunFrom old.system.gates source_gives takes_back gives old.system old.handles.items new.handles.items
        (pairs old.senders.items was) (pairs new.senders.items is) error
    pub runs : AllZip (λ o n. RunsOrBreaks gives old.system (pass_view o.registrar.pass) n) old.handles.items new.handles.items
