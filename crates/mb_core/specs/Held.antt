-- Who holds an actor, and which mailbox it has. Neither fact is about what is owed.
use Rattle.std.specs.Prelude.{◌≡◌, ℕ, ◌<◌, IsTrue, IsFalse, IsSome, IsNone, Some, length}
use Rattle.mb_status.specs.Mailbox.{is_possible, is_valid, word_of}
use Rattle.mb_core.specs.Actor.{MachineActor}

-- A scheduled actor has exactly one holder, a closed one at most one, every other none; and a holder is a party that
-- exists. There is never more than one holder: the state has room for one.
pub record IsHeldRightly (x : MachineActor) : Type 0 where
  pub scheduled : IsTrue x.mailbox.scheduled → IsSome x.holder
  pub free : IsFalse x.mailbox.closed → IsFalse x.mailbox.scheduled → IsNone x.holder
  pub present : (party : ℕ) → x.holder ≡ Some party → party < length x.owed

-- the mailbox is a possible one, and so its word a valid one
pub record HasPossibleMailbox (x : MachineActor) : Type 0 where
  pub possible : IsTrue (is_possible x.mailbox)
  pub word_valid : IsTrue (is_valid (word_of x.mailbox))
