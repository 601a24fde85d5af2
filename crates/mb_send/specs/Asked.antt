-- What a sender gives to the run queue (`Dispatcher.registerForExecution`).
use Rattle.std.specs.Prelude.{ℕ, Bool}
use Rattle.mb_register.specs.Registering.{QueueAccount, IsRegistered}

module _ {H : Type 0} where
  -- At most one claim was given to the run queue, a claim of this actor. It went in, or the queue refused it, and then a look is owed to the actor
  -- besides those before. Where none was given, no look more is owed.
  abbrev pub RegistersAtMost : ℕ → QueueAccount H → QueueAccount H → Type 0
  RegistersAtMost id old new = (went : Bool) × IsRegistered id old new went
