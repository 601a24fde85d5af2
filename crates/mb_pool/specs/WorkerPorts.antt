-- What contracts see of a worker's way into the pool, and what its calls do (this project's own profile: a thread of Akka's `ForkJoinPool` runs a
-- task next that it forked while its deque was empty).
use Rattle.std.specs.Prelude.{◌≡◌, ◌⊎◌, ◌≢◌, Bool, true, false, List, [], ◌∷◌, ◌++◌, Option}
use Rattle.mb_gate.specs.declared.claim.Claim.{Claim}
use Rattle.mb_gate.specs.Untouched.{Origin}
use Rattle.mb_pool.specs.Moves.{FindsOwnEmpty, Pushes, Takes, TakesOwn}
use Rattle.mb_pool.specs.Places.{PoolEndpoint, ports_of}
use Rattle.mb_pool.specs.PoolPorts.{IsRefusedByPool}

-- Its handle of the pool; the claim that it keeps for its worker, or none; the claims that it was given and did not give back; those that the pool
-- refused; and those that its worker took. The lists are in order.
pub record WorkerPortView (H : Type 0) : Type 0 where
  pub handle : PoolEndpoint H
  pub next : List (Claim H)
  pub pushed : List (Claim H)
  pub refused : List (Claim H)
  pub taken : List (Claim H)

module _ {H : Type 0} (IsFit : Option (Origin H) → Claim H → Type 0) where
  -- What becomes of a claim. It goes behind all claims of the queue to which the handle pushes. Only at the end of a run, where no claim is kept, a look
  -- into that queue says which claim the worker takes next: if it is empty, this one, which is kept; else the first one there.
  pub data PutsClaim (at_run_end : Bool) (old : WorkerPortView H) (claim : Claim H) (new : WorkerPortView H) : Type 0 where
    kept : at_run_end ≡ true → old.next ≡ [] → FindsOwnEmpty IsFit (ports_of old.handle) → new.next ≡ claim ∷ [] → new.handle ≡ old.handle
        → PutsClaim at_run_end old claim new
    behind : (first : Claim H) (mid : PoolEndpoint H) → at_run_end ≡ true → old.next ≡ [] → TakesOwn IsFit (ports_of old.handle) first (ports_of mid)
        → Pushes IsFit mid claim new.handle → new.next ≡ first ∷ [] → PutsClaim at_run_end old claim new
    pooled : (at_run_end ≡ false) ⊎ (old.next ≢ []) → Pushes IsFit old.handle claim new.handle → new.next ≡ old.next → PutsClaim at_run_end old claim new

  -- The queue refused the claim. Before that, at the end of a run, its first claim may have become the one that the worker takes next.
  pub data RefusesClaim (at_run_end : Bool) (old : WorkerPortView H) (claim : Claim H) (new : WorkerPortView H) : Type 0 where
    behind : (first : Claim H) → at_run_end ≡ true → old.next ≡ [] → TakesOwn IsFit (ports_of old.handle) first (ports_of new.handle)
        → IsRefusedByPool IsFit new.handle claim → new.next ≡ first ∷ [] → RefusesClaim at_run_end old claim new
    pooled : IsRefusedByPool IsFit old.handle claim → new.handle ≡ old.handle → new.next ≡ old.next → RefusesClaim at_run_end old claim new

  -- The claim was kept and no longer is; or none was kept, and it was taken out of the pool.
  pub data TakesClaim (old : WorkerPortView H) (claim : Claim H) (new : WorkerPortView H) : Type 0 where
    kept : old.next ≡ claim ∷ [] → new ≡ record old { next = []; taken = old.taken ++ claim ∷ [] } → TakesClaim old claim new
    pooled : old.next ≡ [] → Takes IsFit old.handle claim new.handle → new ≡ record old { handle = new.handle; taken = old.taken ++ claim ∷ [] }
        → TakesClaim old claim new
