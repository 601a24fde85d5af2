-- Which entries may come next in an order, and the order that goes by the lowest actor.
use Rattle.std.specs.Prelude.{◌≡◌, ℕ, ◌<◌, ◌≤◌, List, [], ◌∷◌, length, ⊤}
use Rattle.mb_msg.specs.declared.order.SenderOrder.{SenderOrder}
use Rattle.mb_journal.specs.Identity.{Identity}
use Rattle.mb_report.specs.declared.report.ActorReport.{ActorReport}
use Rattle.mb_causal_order.specs.Merged.{AreInOrder, IsNext}
use Rattle.mb_causal_order.specs.Places.{entries_placed, journal_of}
use Rattle.mb_causal_order.specs.declared.place.Place.{Place}

-- where the next entry of the actor of this number stands
abbrev pub next_place : ℕ → List Place → Place
next_place a before = record { actor = a; index = entries_placed a before }

-- the actor of this number has another entry, which may come after those before
pub record MayCome (who : List Identity) (orders : List SenderOrder) (actors : List ActorReport) (before : List Place) (a : ℕ) : Type 0 where
  pub has_more : entries_placed a before < length (journal_of actors a)
  pub is_next : IsNext who orders actors before (next_place a before)

-- each place is that of the actor of the lowest number whose next entry may come
unfoldable pub IsByLowest : List Identity → List SenderOrder → List ActorReport → List Place → Type 0
IsByLowest who orders actors [] = ⊤
IsByLowest who orders actors (p ∷ before) = ((b : ℕ) → b < p.actor → MayCome who orders actors before b → ⊥) × IsByLowest who orders actors before

-- of each actor no more entries stand in the first order than in the second
pub record AreFewer (before order : List Place) : Type 0 where
  pub each : (b : ℕ) → entries_placed b before ≤ entries_placed b order

-- after the entries of the first order, of which each stands in the second too, the actor's next entry may come, and it is the next in both
pub record MayComeBehind (who : List Identity) (orders : List SenderOrder) (actors : List ActorReport) (before order : List Place) (a : ℕ) : Type 0 where
  pub in_order : AreInOrder who orders actors before
  pub fewer : AreFewer before order
  pub same : entries_placed a before ≡ entries_placed a order
  pub may : MayCome who orders actors before a
