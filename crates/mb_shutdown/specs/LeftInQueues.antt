-- What is left in the queues of receivers.
use Rattle.std.specs.Prelude.{◌≡◌, ℕ, ◌<◌, List, [], ◌∷◌, ◌++◌, All, Some, length, map, slice_get, vec_capacity, vec_len}
use Rattle.std.specs.Global.{Vec}
use Rattle.mb_msg.specs.declared.envelope.Envelope.{Envelope}
use Rattle.mb_queue.specs.Fates.{AllJoined}
use Rattle.mb_queue.specs.Passes.{IsOfQueue, SendPassView, TakePassView, control_first}
use Rattle.mb_shutdown.specs.AllArrived.{AllArrived}
use Rattle.mb_shutdown.specs.Joined.{AreOfAllSenders, AreOfDifferent, column, joined_by}
use Rattle.mb_shutdown.specs.Parts.{IsControlsFirst}

-- This was left for the receiver, and nothing more is in its queue. With what the receiver took before it is of its queue. Whichever passes the
-- receiver had taken in, of different senders, all that they pushed is among what it took before and what was left. Of a control-aware queue, all of
-- whose senders' passes were taken in, control messages are left before all others.
pub record IsRest (take : TakePassView) (left : List Envelope) : Type 0 where
  pub known : All (IsOfQueue take.queue) (take.taken ++ left)
  pub came : (before : TakePassView) (passes : List SendPassView) → take ≡ joined_by before passes → AreOfDifferent passes
      → All (AllArrived before.discipline (before.taken ++ left)) passes
  pub controls_first : take.discipline ≡ control_first → AllJoined take → IsControlsFirst left

-- This was left for each of these receivers.
abbrev pub AreRests : List TakePassView → List (List Envelope) → Type 0
AreRests [] [] = Unit {0}
AreRests (take ∷ takes) (left ∷ lefts) = IsRest take left × AreRests takes lefts
AreRests [] (left ∷ lefts) = ⊥
AreRests (take ∷ takes) [] = ⊥

-- More was left for the receiver than the room holds.
pub record IsMoreThan (take : TakePassView) (room : Vec Envelope) : Type 0 where
  pub left : List Envelope
  pub rest : IsRest take left
  pub over : vec_capacity room < length left

-- More was left for the receiver at this place than its room holds.
pub record IsOver (place : ℕ) (takes : List TakePassView) (rooms : List (Vec Envelope)) : Type 0 where
  pub take : TakePassView
  pub room : Vec Envelope
  pub present : slice_get takes place ≡ Some take
  pub lies : slice_get rooms place ≡ Some room
  pub more : IsMoreThan take room

-- This was left for a receiver. With what it took before it is of its queue alone, and all that these passes pushed is among it.
pub record WasLeft (take : TakePassView) (send_passes : List SendPassView) (left : List Envelope) : Type 0 where
  pub known : All (IsOfQueue take.queue) (take.taken ++ left)
  pub came : All (AllArrived take.discipline (take.taken ++ left)) send_passes

-- More was left for the receiver at this place, by the passes to it of all rows, than its room holds.
pub record IsOverfull (takes : List TakePassView) (rows : List (List SendPassView)) (rooms : List (Vec Envelope)) (place : ℕ) : Type 0 where
  pub take : TakePassView
  pub room : Vec Envelope
  pub left : List Envelope
  pub present : slice_get takes place ≡ Some take
  pub lies : slice_get rooms place ≡ Some room
  pub was : WasLeft take (column place rows) left
  pub over : vec_capacity room < length left

-- The room of the receiver at this place is full.
abbrev pub IsFullAt : ℕ → List (Vec Envelope) → Type 0
IsFullAt place rooms =
    slice_get (map (λ (room : Vec Envelope). vec_len room) rooms) place ≡ slice_get (map (λ (room : Vec Envelope). vec_capacity room) rooms) place

-- This was left for these receivers, once each had taken in the passes to it of all rows. At each place all that the passes pushed is among what the
-- receiver took before and what was left, and all of that is of its queue. Where each sender of a control-aware mailbox brought its pass, control messages
-- are left before all others.
pub record AreAllCollected (takes : List TakePassView) (rows : List (List SendPassView)) (lefts : List (List Envelope)) : Type 0 where
  pub came : (place : ℕ) (take : TakePassView) (left : List Envelope) → slice_get takes place ≡ Some take → slice_get lefts place ≡ Some left
      → All (AllArrived take.discipline (take.taken ++ left)) (column place rows)
  pub known : (place : ℕ) (take : TakePassView) (left : List Envelope) → slice_get takes place ≡ Some take → slice_get lefts place ≡ Some left
      → All (IsOfQueue take.queue) (take.taken ++ left)
  pub ordered : (place : ℕ) (take : TakePassView) (left : List Envelope) → slice_get takes place ≡ Some take → slice_get lefts place ≡ Some left
      → take.discipline ≡ control_first → AreOfAllSenders take.queue (column place rows) → IsControlsFirst left

-- More was left for the receiver at this place, by the passes to it of all rows, than its room holds. The room is full then.
pub record IsTooManyFor (takes : List TakePassView) (rows : List (List SendPassView)) (old new : List (Vec Envelope)) (place : ℕ) : Type 0 where
  pub place_is : place < length takes
  pub overfull : IsOverfull takes rows old place
  pub full : IsFullAt place new
