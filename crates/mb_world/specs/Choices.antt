-- The steps that are possible in a running system.
use Rattle.std.specs.Prelude.{◌≡◌, ◌≢◌, ◌<◌, ℕ, List, ◌++◌, Some, length, map, slice_get}
use Rattle.std.specs.List.{All, AllPairs, Contains}
use Rattle.mb_world.specs.World.{Sender, WorldView}
use Rattle.mb_world.specs.declared.choice.Choice.{Choice}
use Rattle.mb_world.specs.declared.choice.Choice.TheVariants.{Send, Run}

-- there is a sender outside of this number, and an order of it is left
abbrev pub HasLeft : List Sender → ℕ → Type 0
HasLeft senders number = (s : Sender) × (slice_get senders number ≡ Some s) × (s.place < length s.orders)

-- A sender outside can send if an order of it is left. The mailbox of an actor can be run if the actor is registered for execution.
abbrev pub IsPossible : WorldView → Choice → Type 0
IsPossible world (Send sender) = HasLeft world.senders sender
IsPossible world (Run actor) = Contains world.registered actor

-- these are the sends that are possible, each once, by the numbers of the senders
pub record AreSends (senders : List Sender) (choices : List Choice) : Type 0 where
  pub numbers : List ℕ
  pub are : choices ≡ map Send numbers
  pub increasing : AllPairs (λ (m n : ℕ). m < n) numbers
  pub possible : All (HasLeft senders) numbers
  pub each : (n : ℕ) → HasLeft senders n → Contains numbers n

-- These are the steps that are possible, and no others, each once. The sends come first, by the numbers of the senders, and then the runs, in the order
-- in which the actors were registered.
pub record AreChoices (world : WorldView) (choices : List Choice) : Type 0 where
  pub possible : All (IsPossible world) choices
  pub each : (c : Choice) → IsPossible world c → Contains choices c
  pub once : AllPairs (λ (a b : Choice). a ≢ b) choices
  pub sends : List Choice
  pub by_number : AreSends world.senders sends
  pub in_order : choices ≡ sends ++ map Run world.registered
