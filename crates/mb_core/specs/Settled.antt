-- Nothing is stranded: where an actor has to be scheduled, some party owes it that.
use Rattle.std.specs.Prelude.{◌≡◌, ◌<◌, Bool, not, ◌&&◌, ◌||◌, nat_lt, IsTrue, IsFalse, All, Any}
use Rattle.mb_status.specs.Mailbox.{can_schedule}
use Rattle.mb_core.specs.Actor.{MachineActor, nothing, has_work}

-- An actor that a worker should take: nobody holds it, and its mailbox is worth scheduling for the system work that is
-- listed or the envelopes that are counted as waiting (`canBeScheduledForExecution`, with those as its hints).
abbrev pub is_runnable : MachineActor → Bool
is_runnable x = not x.mailbox.scheduled && can_schedule x.mailbox (nat_lt 0 x.waiting) (has_work x.system)

-- some party owes the actor a check of its system work (this project's own profile, as all that is owed)
abbrev pub IsOwedSystem : MachineActor → Type 0
IsOwedSystem x = Any (λ obligation. IsTrue obligation.system) x.owed

-- some party owes it a wake-up for an envelope
abbrev pub IsOwedMessage : MachineActor → Type 0
IsOwedMessage x = Any (λ obligation. IsTrue (obligation.message || obligation.sending)) x.owed

-- nobody owes it anything
abbrev pub IsOwedNothing : MachineActor → Type 0
IsOwedNothing x = All (λ obligation. obligation ≡ nothing) x.owed

-- Nothing is stranded at an actor that is neither closed nor scheduled: with system work it is owed a check of that, and
-- where it is not suspended and envelopes are counted as waiting it is owed a wake-up.
pub record IsSettled (x : MachineActor) : Type 0 where
  pub system :
      IsFalse x.mailbox.closed → IsFalse x.mailbox.scheduled → IsTrue (has_work x.system) → IsOwedSystem x
  pub message :
      IsFalse x.mailbox.closed → IsFalse x.mailbox.scheduled → x.mailbox.count ≡ 0 → 0 < x.waiting → IsOwedMessage x
