-- What a source gave, and what became of it (this project's own profile: in Akka whoever has a reference sends).
use Rattle.std.specs.Prelude.{◌≡◌, ◌⊎◌, ℕ, not, Bool, true, false, List, ◌++◌, Option, Some, None, drop, filter, length}
use Rattle.std.specs.Iterator.{Yields}
use Rattle.mb_msg.specs.declared.order.Order.{Order}
use Rattle.mb_source.specs.Receivers.{has_nobody}
use Rattle.mb_source.specs.RecordedSource.{RecordedSource}

-- Of these orders, those that are carried out: all that can go to one of so many actors, in order.
abbrev pub sendable : ℕ → List Order → List Order
sendable actors = filter (λ (o : Order). not (has_nobody actors o))

-- The orders that the source gave between these two times, in order.
abbrev pub given_since : {S : Type 0} → RecordedSource S → RecordedSource S → List Order
given_since old new = drop (length old.given) new.given

module _ {S : Type 0} (gives : S → Option Order → S → Type 0) (takes_back : S → Order → S → Type 0) (actors : ℕ) where
  -- What becomes of an order as soon as it was given: it comes back to the source where it can go to no actor.
  abbrev pub Returns : Bool → S → Order → S → Type 0
  Returns true asked order left = takes_back asked order left
  Returns false asked order left = asked ≡ left

  -- The source was asked once: it gave an order, which came back to it where it can go to none of so many actors, or none.
  abbrev pub WasAsked : S → Option Order → S → Type 0
  WasAsked old (Some order) new = (asked : S) × gives old (Some order) asked × Returns (has_nobody actors order) asked order new
  WasAsked old None new = gives old None new

  -- The source was asked for one order after another, and these are all that it gave.
  pub record GaveSome (old new : RecordedSource S) : Type 0 where
    pub more : new.given ≡ old.given ++ given_since old new
    pub one_by_one : Yields WasAsked old.source (given_since old new) new.source

  -- The same, and when it was asked last it had no more.
  pub record GaveAll (old new : RecordedSource S) : Type 0 where
    pub more : new.given ≡ old.given ++ given_since old new
    pub last : S
    pub one_by_one : Yields WasAsked old.source (given_since old new) last
    pub no_more : WasAsked last None new.source

  -- The source was asked until it had no more, or asking it was broken off before.
  abbrev pub Gave : RecordedSource S → RecordedSource S → Type 0
  Gave old new = GaveAll old new ⊎ GaveSome old new
