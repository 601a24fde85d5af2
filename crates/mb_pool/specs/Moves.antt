-- What the calls of a handle or a feed guarantee (the run queue of the executor of
-- `akka.dispatch.ExecutorServiceConfigurator`; that a full one gives the claim back is this project's own profile: in Akka
-- it throws).
use Rattle.std.specs.Prelude.{◌≡◌, ℕ, List, [], ◌∷◌, ◌++◌, length, All, Option, Some, None}
use Rattle.mb_gate.specs.declared.claim.Claim.{Claim}
use Rattle.mb_gate.specs.Untouched.{Origin}
use Rattle.mb_pool.specs.Account.{ClaimAccount}
use Rattle.mb_pool.specs.Rule.{QueueMoment, PutsLast, TakesFirst}
use Rattle.mb_pool.specs.Places.{PoolPort, PoolEndpoint, ports_of}
use Rattle.mb_pool.specs.declared.claim_refused.ClaimRefused.{ClaimRefused}
use Rattle.mb_pool.specs.declared.claim_refused.ClaimRefused.TheVariants.{Full, NoMemory}

-- the claim that comes back
abbrev pub given_back : {H : Type 0} → ClaimRefused H → Claim H
given_back (Full c) = c
given_back (NoMemory c) = c

module _ {H : Type 0} (IsFit : Option (Origin H) → Claim H → Type 0) where
  -- at one moment the queue was empty
  abbrev pub WasEmpty : PoolPort H → Type 0
  WasEmpty pool_port = QueueMoment IsFit pool_port.ledger []

  -- at one moment the queue was full: it held this many claims
  abbrev pub WasFull : ℕ → ClaimAccount H → Type 0
  WasFull most ledger = (items : List (Claim H)) × (length items ≡ most) × QueueMoment IsFit ledger items

  -- the claim was pushed into the queue of the first of these ports
  pub record PutsFirst (old : List (PoolPort H)) (c : Claim H) (new : List (PoolPort H)) : Type 0 where
    pub pool_port : PoolPort H
    pub rest : List (PoolPort H)
    pub after : ClaimAccount H
    pub found : old ≡ pool_port ∷ rest
    pub last : PutsLast IsFit pool_port.ledger c after
    pub then' : new ≡ record pool_port { ledger = after } ∷ rest

  -- the claim was the first of one of these queues, and each queue before that was empty at a moment of the call
  pub record TakesOne (old : List (PoolPort H)) (c : Claim H) (new : List (PoolPort H)) : Type 0 where
    pub before : List (PoolPort H)
    pub pool_port : PoolPort H
    pub rest : List (PoolPort H)
    pub after : ClaimAccount H
    pub found : old ≡ before ++ pool_port ∷ rest
    pub empty : All WasEmpty before
    pub first : TakesFirst IsFit pool_port.ledger c after
    pub then' : new ≡ before ++ record pool_port { ledger = after } ∷ rest

  -- the queue to which it pushes was empty at a moment
  pub record FindsOwnEmpty (old : List (PoolPort H)) : Type 0 where
    pub pool_port : PoolPort H
    pub rest : List (PoolPort H)
    pub found : old ≡ pool_port ∷ rest
    pub empty : WasEmpty pool_port

  -- the claim was the first of the queue to which it pushes
  pub record TakesOwn (old : List (PoolPort H)) (c : Claim H) (new : List (PoolPort H)) : Type 0 where
    pub pool_port : PoolPort H
    pub rest : List (PoolPort H)
    pub after : ClaimAccount H
    pub found : old ≡ pool_port ∷ rest
    pub first : TakesFirst IsFit pool_port.ledger c after
    pub then' : new ≡ record pool_port { ledger = after } ∷ rest

  -- the claim was pushed into the queue that the handle or the feed pushes to
  abbrev pub Pushes : PoolEndpoint H → Claim H → PoolEndpoint H → Type 0
  Pushes old c new = PutsFirst (ports_of old) c (ports_of new)

  -- the claim was the first of a queue in which the take looked
  abbrev pub Takes : PoolEndpoint H → Claim H → PoolEndpoint H → Type 0
  Takes old c new = TakesOne (ports_of old) c (ports_of new)

  -- why a push was refused: by a queue with a bound only since it was full, and by one without only since memory was
  -- refused
  abbrev pub IsRefusal : PoolPort H → ClaimRefused H → Type 0
  IsRefusal pool_port (Full c) = (most : ℕ) × (pool_port.queue.capacity ≡ Some most) × WasFull most pool_port.ledger
  IsRefusal pool_port (NoMemory c) = pool_port.queue.capacity ≡ None

  -- the first port that a push goes to refused it, and the claim came back
  abbrev pub IsRefusedBy : PoolEndpoint H → ClaimRefused H → Type 0
  IsRefusedBy w refused = (pool_port : PoolPort H) × (rest : List (PoolPort H)) × (ports_of w ≡ pool_port ∷ rest) × IsRefusal pool_port refused
