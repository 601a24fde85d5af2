-- Who an actor is, which never changes.
use Rattle.std.specs.Prelude.{ℕ, ℤ, Bool, is_none, List, Option}
use Rattle.mb_msg.specs.JournalMode.{Retention}
use Rattle.mb_msg.specs.declared.id.ActorId.{ActorId}
use Rattle.mb_msg.specs.declared.supervision.Directive.{Directive}
use Rattle.mb_msg.specs.declared.strategy.Pattern.{Pattern}

-- its number; its parent, which the guardian alone does not have (Akka's `ActorContext.parent`); how many actors there are;
-- the children that it may start, in order; its supervision strategy, how often a child may be restarted, and whether a
-- directive is for all children (Akka's `OneForOneStrategy` and `AllForOneStrategy` with `maxNrOfRetries`); how many
-- entries its journal may have; and how much of them its journal keeps, so that they can be read
pub record Identity : Type 0 where
  pub this : ActorId
  pub parent : Option ActorId
  pub actors : ℕ
  pub prepared : List ActorId
  pub strategy : List (Pattern × Directive)
  pub retries : ℤ
  pub all_for_one : Bool
  pub limit : ℕ
  pub retention : Retention

-- the actor is the guardian (Akka's user guardian), which is above all others and is not an object of the user's
abbrev pub is_guardian : Identity → Bool
is_guardian who = is_none who.parent
