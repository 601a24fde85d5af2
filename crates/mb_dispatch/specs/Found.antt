-- What a worker found when it last looked for a claim (this project's own profile).
use Rattle.std.specs.Prelude.{◌≡◌, ℕ, List, [], All}
use Rattle.mb_actor.specs.Behaviour.{Moment, Reply}
use Rattle.mb_pool.specs.Moves.{WasEmpty}
use Rattle.mb_pool.specs.Places.{ports_of}
use Rattle.mb_home.specs.Fresh.{IsFreshClaim}
use Rattle.mb_system.specs.declared.handle.WorkerHandle.{WorkerHandle}

module _ {A K : Type 0} (gives : ℕ → Moment → Reply → Type 0) where
  -- The last look of the handle gave it nothing: it keeps no claim, and each place in which it looks was empty at some moment, as the handle knows the
  -- place.
  abbrev pub FoundPoolEmpty : WorkerHandle A K → Type 0
  FoundPoolEmpty handle = (handle.registrar.run_queue.next ≡ []) × All (WasEmpty (IsFreshClaim gives)) (ports_of handle.registrar.run_queue.handle)

  -- The last look of each of these handles gave it nothing.
  abbrev pub AllFoundPoolEmpty : List (WorkerHandle A K) → Type 0
  AllFoundPoolEmpty = All FoundPoolEmpty
