-- An envelope between its queue and the cell (`akka.dispatch.Mailbox.processMailbox` takes it and calls the actor in one step).
use Rattle.std.specs.Prelude.{◌≡◌, [], ◌∷◌, ◌++◌, Contains, Some}
use Rattle.mb_msg.specs.declared.envelope.Envelope.{Envelope}
use Rattle.mb_queue.specs.Takes.{IsTake}
use Rattle.mb_home.specs.Contents.{Contents}
use Rattle.mb_home.specs.Steps.{IsSamePass}

-- The envelope came out of the actor's queue. One of the queue's senders had sent it, to this actor.
pub record TakesOut (old new : Contents) (envelope : Envelope) : Type 0 where
  pub took : new.take.taken ≡ old.take.taken ++ envelope ∷ []
  pub follows_discipline : IsTake old.take.discipline old.take (Some envelope) new.take
  pub pass : IsSamePass old.take new.take
  pub sender : Contains old.take.queue.senders envelope.by.0
  pub addressed : envelope.to.0 ≡ old.take.queue.to
  pub same : new ≡ record old { take = new.take }
