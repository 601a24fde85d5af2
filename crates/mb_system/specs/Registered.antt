-- How the actors of a system are registered (`Dispatcher.registerForExecution`).
use Rattle.std.specs.Prelude.{ℕ, ◌+◌, Bool}
use Rattle.mb_register.specs.Caller.{Caller}
use Rattle.mb_register.specs.Registering.{HandsClaimOn}

-- From the first caller on, the actors of so many numbers from 0 on were registered in this order, each once. No claim was lost: one that was got went
-- into the run queue or, where the queue refused it, back to its actor.
pub data AreRegistered {H : Type 0} (first : Caller H) : ℕ → Caller H → Type 0 where
  nobody : AreRegistered first 0 first
  one_more : (id : ℕ) (before after : Caller H) (went : Bool) → AreRegistered first id before
      → HandsClaimOn id before.account after.account before.view after.view went → AreRegistered first (id + 1) after
