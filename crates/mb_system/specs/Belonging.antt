-- What belongs to a system.
use Rattle.std.specs.Prelude.{◌≢◌, ℕ, ◌+◌, ◌-◌, ◌<◌, ◌≤◌, List, All, AllPairs, map}
use Rattle.mb_msg.specs.Limits.{most_actors}
use Rattle.mb_system.specs.Members.{IsHandleOf, IsSenderOf, OutsideSender}
use Rattle.mb_system.specs.declared.built.Built.{Built}
use Rattle.mb_system.specs.declared.handle.WorkerHandle.{WorkerHandle}

-- The numbers of these senders, counted from 0.
abbrev pub senders_numbers : List OutsideSender → List ℕ
senders_numbers = map (λ (s : OutsideSender). s.send_log.by.0 - most_actors)

module _ {A K : Type 0} where
  -- All handles and senders are of the system's gates. Each sender is there at most once, with a number that the system gave.
  pub record BelongsTogether (built : Built A K) : Type 0 where
    pub handles : All (λ (e : WorkerHandle A K). IsHandleOf built.system.gates e.registrar) built.handles.items
    pub senders : All (λ (s : OutsideSender). IsSenderOf built.system.gates s) built.senders.items
    pub once : AllPairs (λ a b. a ≢ b) (senders_numbers built.senders.items)
    pub numbered : All (λ (s : OutsideSender). (most_actors ≤ s.send_log.by.0) × (s.send_log.by.0 < most_actors + built.system.senders))
        built.senders.items
