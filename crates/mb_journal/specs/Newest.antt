-- What the newest of some entries or effects says: a search from the newest on.
use Rattle.std.specs.Prelude.{ℕ, Bool, true, false, List, [], ◌∷◌, count_by}
use Rattle.mb_msg.specs.declared.id.ActorId.{ActorId}
use Rattle.mb_msg.specs.declared.system.SysMsg.TheVariants as system
use Rattle.mb_actor.specs.ActorList.{is_same}
use Rattle.mb_journal.specs.Entry.{Entry}
use Rattle.mb_journal.specs.Entry.Entry.{System}
use Rattle.mb_journal.specs.Entry.Outcome.{Applied}

-- what is said of an actor: that it joins, that it leaves, or nothing
pub data Membership : Type 0 where
  Joins : Membership
  Leaves : Membership
  Unchanged : Membership

-- it says that the actor joins
abbrev pub joins : Membership → Bool
joins Joins = true
joins _ = false

-- it says that the actor leaves
abbrev pub leaves : Membership → Bool
leaves Leaves = true
leaves _ = false

-- it is said, where the test holds
abbrev pub said_if : Bool → Membership → Membership
said_if true m = m
said_if false m = Unchanged

-- the first of the two that says something
abbrev pub or_older : Membership → Membership → Membership
or_older Unchanged older = older
or_older m older = m

-- what the newest of them that says something says; the newest is the first in the list
abbrev pub newest : {A : Type 0} → (A → Membership) → List A → Membership
newest says [] = Unchanged
newest says (a ∷ older) = or_older (says a) (newest says older)

-- how often the actor is in the list
abbrev pub times_in : List ActorId → ActorId → ℕ
times_in list x = count_by (is_same x) list

-- once where the test holds, and else not at all
abbrev pub once_if : Bool → ℕ
once_if true = 1
once_if false = 0

-- an entry says of a watcher that it joins by an applied Watch, and that it leaves by an applied Unwatch
abbrev pub watcher_says : ActorId → Entry → Membership
watcher_says x (System number (system.Watch w) (Applied answer effects)) = said_if (is_same x w) Joins
watcher_says x (System number (system.Unwatch w) (Applied answer effects)) = said_if (is_same x w) Leaves
watcher_says x _ = Unchanged
