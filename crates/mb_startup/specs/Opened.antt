-- The workers' handles and the senders of a new system: what they are made of, and what they are once they are made.
use Rattle.std.specs.Prelude.{◌≡◌, ◌≤◌, List, [], All, Some, drop, length, map}
use Rattle.std.specs.Global.{Box, Vec}
use Rattle.mb_ghost.specs.Shares.{IsWhole}
use Rattle.mb_msg.specs.Limits.{most_actors}
use Rattle.mb_msg.specs.declared.journal_mode.JournalMode.{JournalMode}
use Rattle.mb_gate.specs.Accessors.{actors_of, first_home, gates_id, pass_id, pass_view}
use Rattle.mb_gate.specs.Untouched.{origin_of}
use Rattle.mb_gate.specs.View.{View}
use Rattle.mb_gate.specs.declared.gates.Gates.{Gates}
use Rattle.mb_gate.specs.declared.pass.Pass.{Pass}
use Rattle.mb_queue.specs.Passes.{SendPassView}
use Rattle.mb_home.specs.Contents.{Contents}
use Rattle.mb_home.specs.Directory.{queues_of}
use Rattle.mb_pool.specs.Places.{PoolEndpoint, gates_of}
use Rattle.mb_startup.specs.Begun.{AreFirstHandles, AreNewSenders, AreUnused, IsCreated, KeepLettersIn, OwesFirstRun}
use Rattle.mb_system.specs.Members.{OutsideSender, pool_feeds_of, pool_handles_of}
use Rattle.mb_system.specs.declared.handle.WorkerHandle.{WorkerHandle}

-- The pass is the only one of these gates. Nothing was seen by it, no claim was got, nobody is owed anything, and no cell was given back.
pub record IsOnlyPass {H : Type 0} (gates : Gates H) (pass : Pass H) : Type 0 where
  pub same_gates : pass_id pass ≡ gates_id gates
  pub nothing_done : ((pass_view pass).log ≡ []) × ((pass_view pass).got ≡ []) × ((pass_view pass).obligations ≡ []) × ((pass_view pass).releases ≡ [])
  pub whole : IsWhole (pass_view pass).share

-- One Create was put into the guardian's list, and nothing else was done: the guardian is owed its first run, nobody else is owed anything, no claim was
-- got, and no cell was given back.
pub record HasStarted (view : View) : Type 0 where
  pub created : IsCreated view
  pub settled : OwesFirstRun view
  pub unclaimed : view.got ≡ []
  pub none_released : view.releases ≡ []

-- Senders outside can be made of these: there are as many feeds of a pool as rows of passes, and at most 16. The feeds are of the gates. Each row has a
-- pass into the queue of each actor from number 1 on, by which nothing was pushed.
pub record AreForSenders (gates : Gates (Box Contents)) (pool_feeds : List (PoolEndpoint (Box Contents))) (rows : List (Vec SendPassView)) : Type 0 where
  pub feeds : All (λ (f : PoolEndpoint (Box Contents)). gates_of f ≡ Some (origin_of gates)) pool_feeds
  pub same_count : (length pool_feeds ≡ length rows) × (length pool_feeds ≤ 16)
  pub outside : AreUnused (drop 1 (queues_of (first_home gates).value.directory)) (actors_of gates) most_actors
      (map (λ (row : Vec SendPassView). row.items) rows)

-- These senders were made of these feeds and rows, in order. Each is new, and of its dead letters it keeps what a journal of this mode keeps.
pub record AreOpenedSenders (gates : Gates (Box Contents)) (journal : JournalMode) (pool_feeds : List (PoolEndpoint (Box Contents)))
    (rows : List (Vec SendPassView)) (opened : List OutsideSender) : Type 0 where
  pub senders : AreNewSenders gates most_actors (map (λ (row : Vec SendPassView). row.items) rows) opened
  pub keep_letters : KeepLettersIn journal opened
  pub ports : pool_feeds_of opened ≡ pool_feeds

-- These workers' handles were made of these handles of a pool, in order. They are new, but the first put the Create into the guardian's list.
pub record AreOpenedHandles {A K : Type 0} (gates : Gates (Box Contents)) (pool_handles : List (PoolEndpoint (Box Contents)))
    (opened : List (WorkerHandle A K)) : Type 0 where
  pub same_count : length opened ≡ length pool_handles
  pub handles : AreFirstHandles gates opened
  pub ports : pool_handles_of opened ≡ pool_handles
