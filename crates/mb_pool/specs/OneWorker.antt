-- The order in which a worker that is alone takes its claims (in Akka the queue of an executor with one thread is first in, first out).
use Rattle.std.specs.Prelude.{◌≡◌, List, [], ◌∷◌, ◌++◌, All}
use Rattle.mb_gate.specs.declared.claim.Claim.{Claim}
use Rattle.mb_pool.specs.Account.{ClaimAccount}
use Rattle.mb_pool.specs.Ledger.{indexed}
use Rattle.mb_pool.specs.Places.{PoolEndpoint, PoolPort, ports_of}
use Rattle.mb_pool.specs.WorkerPorts.{WorkerPortView}

module _ {H : Type 0} where
  -- No other handle and no feed has a port of the queues in which this handle looks: it is that of the only worker, and there are no senders outside.
  abbrev pub IsAlone : PoolEndpoint H → Type 0
  IsAlone handle = All (λ (port : PoolPort H). port.ledger.shares ≡ port.ledger.members) (ports_of handle)

  -- Nothing was pushed or taken through these ports.
  abbrev pub AreUnused : List (PoolPort H) → Type 0
  AreUnused = All (λ (port : PoolPort H). (port.ledger.pushed ≡ []) × (port.ledger.taken ≡ []))

  -- These were pushed through the port and not taken through it, in order: what was taken are the first that were pushed.
  pub record HasLeft (ledger : ClaimAccount H) (left : List (Claim H)) : Type 0 where
    pub gone : List (Claim H)
    pub pushed : ledger.pushed ≡ indexed (gone ++ left)
    pub taken : ledger.taken ≡ indexed gone

  -- All that was pushed is, in this order, what the worker took, what is kept for it, and what is left in the queue to which the handle pushes. Nothing is
  -- left in another.
  pub record IsInOrder (port : WorkerPortView H) : Type 0 where
    pub own : PoolPort H
    pub others : List (PoolPort H)
    pub ports : ports_of port.handle ≡ own ∷ others
    pub left : List (Claim H)
    pub has_left : HasLeft own.ledger left
    pub none_left : All (λ (other : PoolPort H). HasLeft other.ledger []) others
    pub pushed : port.pushed ≡ port.taken ++ (port.next ++ left)

  -- Of the claims that were pushed and not taken, this one was pushed first.
  abbrev pub IsEarliest : WorkerPortView H → Claim H → Type 0
  IsEarliest port claim = (later : List (Claim H)) × (port.pushed ≡ port.taken ++ claim ∷ later)
