-- A quantity that messages carry between actors, as money or tokens (this project's own profile: Akka knows no such thing).
use Rattle.std.specs.Prelude.{◌≡◌, ℤ, pos, ◌+ℤ◌, Bool, true, List, [], ◌∷◌, ◌++◌, Option, Some, None}
use Rattle.mb_actor.specs.Behaviour.{Moment, Reply}
use Rattle.mb_actor.specs.declared.call.Call.{Call}
use Rattle.mb_actor.specs.declared.call.Call.TheVariants.{Start, Receive, Restart, Stop}
use Rattle.mb_actor.specs.declared.effect.Effect.{Effect}
use Rattle.mb_actor.specs.declared.effect.Effect.TheVariants as effect
use Rattle.mb_actor.specs.declared.message.Message.{Message}
use Rattle.mb_actor.specs.declared.message.Message.TheVariants.{User, Control}

-- What these are worth together.
abbrev pub sum_of : {X : Type 0} → (X → ℤ) → List X → ℤ
sum_of worth [] = pos 0
sum_of worth (x ∷ xs) = worth x +ℤ sum_of worth xs

-- What the message that an effect sends is worth. An effect that sends none is worth nothing.
abbrev pub sent_worth : (Message → ℤ) → Effect → ℤ
sent_worth worth (effect.Tell to kind value) = worth (User kind value)
sent_worth worth (effect.Control to kind value) = worth (Control kind value)
sent_worth worth (effect.Watch who) = pos 0
sent_worth worth (effect.Unwatch who) = pos 0
sent_worth worth (effect.Stop who) = pos 0
sent_worth worth (effect.Spawn who) = pos 0

-- What all messages that these effects send are worth together.
abbrev pub all_sent : (Message → ℤ) → List Effect → ℤ
all_sent worth effects = sum_of (λ e. sent_worth worth e) effects

-- What an actor holds of the quantity: so much after these messages since its last start or restart; and whether it books a message that comes after
-- them.
pub record Holding : Type 0 where
  pub held : List Message → ℤ
  pub books : List Message → Message → Bool

-- Each of these messages was booked, after those before it.
abbrev pub AllBooked : Holding → List Message → Type 0
AllBooked holding messages = (before : List Message) (message : Message) (rest : List Message) → messages ≡ before ++ message ∷ rest
    → holding.books before message ≡ true

-- A call with these effects, after these messages, loses nothing of what the actor holds: if it books a message, it holds as much more as that is worth,
-- less what it sends. No other call sends any of it.
abbrev pub LosesNothing : (Message → ℤ) → Holding → List Message → Call → List Effect → Type 0
LosesNothing worth holding before (Receive message) effects = holding.books before message ≡ true
    → holding.held (before ++ message ∷ []) +ℤ all_sent worth effects ≡ holding.held before +ℤ worth message
LosesNothing worth holding before Start effects = all_sent worth effects ≡ pos 0
LosesNothing worth holding before (Restart cause) effects = all_sent worth effects ≡ pos 0
LosesNothing worth holding before Stop effects = all_sent worth effects ≡ pos 0

-- An actor whose calls give this holds nothing: in each call it gives with its messages as much as it takes with them.
abbrev pub SendsEvenly : (Message → ℤ) → (Moment → Reply → Type 0) → Type 0
SendsEvenly worth gives = (moment : Moment) (reply : Reply) → gives moment reply → all_sent worth reply.effects ≡ pos 0

-- An actor whose calls give this holds what it books.
abbrev pub HoldsWhatItBooks : (Message → ℤ) → Holding → (Moment → Reply → Type 0) → Type 0
HoldsWhatItBooks worth holding gives = (moment : Moment) (reply : Reply) → gives moment reply
    → LosesNothing worth holding moment.messages moment.call reply.effects

-- An actor with this content after messages, whose calls give this, holds nothing, or has what it holds as its content.
abbrev pub Conserves : (Message → ℤ) → Option Holding → (List Message → ℤ) → (Moment → Reply → Type 0) → Type 0
Conserves worth None after gives = SendsEvenly worth gives
Conserves worth (Some holding) after gives = (after ≡ holding.held) × HoldsWhatItBooks worth holding gives

-- Each of these actors does so, with what is at its place.
abbrev pub AllConserve : {A : Type 0} → (A → List Message → ℤ) → (A → Moment → Reply → Type 0) → (Message → ℤ) → List (Option Holding) → List A → Type 0
AllConserve after gives worth [] [] = Unit {0}
AllConserve after gives worth [] (actor ∷ actors) = ⊥
AllConserve after gives worth (holding ∷ holdings) [] = ⊥
AllConserve after gives worth (holding ∷ holdings) (actor ∷ actors) =
    Conserves worth holding (after actor) (gives actor) × AllConserve after gives worth holdings actors
