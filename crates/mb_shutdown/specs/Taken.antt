-- What is left for actors, taken out of their queues.
use Rattle.std.specs.Prelude.{◌≡◌, ℕ, ◌+◌, List, [], ◌++◌, All, Some, length, slice_get}
use Rattle.mb_msg.specs.declared.envelope.Envelope.{Envelope}
use Rattle.mb_queue.specs.Passes.{IsOfQueue, SendPassView, TakePassView, control_first}
use Rattle.mb_shutdown.specs.AllArrived.{AllArrived}
use Rattle.mb_shutdown.specs.Joined.{AreOfAllSenders, column}
use Rattle.mb_shutdown.specs.Parts.{IsControlsFirst}

-- This was left for each actor, and nothing for the first, the guardian. With what was taken before it is of the actor's queue alone; and of each
-- sender all that it pushed to the actor, by a pass of its row, is among that. Where all senders of a control-aware queue brought a pass, control
-- messages are left before all others. The rows have no passes to the guardian.
pub record AreTaken (takes : List TakePassView) (rows : List (List SendPassView)) (lefts : List (List Envelope)) : Type 0 where
  pub same_count : length lefts ≡ length takes
  pub none_first : (left : List Envelope) → slice_get lefts 0 ≡ Some left → left ≡ []
  pub known : (place : ℕ) (take : TakePassView) (left : List Envelope) → slice_get takes place ≡ Some take → slice_get lefts place ≡ Some left
      → All (IsOfQueue take.queue) (take.taken ++ left)
  pub came : (place : ℕ) (take : TakePassView) (left : List Envelope) → slice_get takes (place + 1) ≡ Some take
      → slice_get lefts (place + 1) ≡ Some left → All (AllArrived take.discipline (take.taken ++ left)) (column place rows)
  pub ordered : (place : ℕ) (take : TakePassView) (left : List Envelope) → slice_get takes (place + 1) ≡ Some take
      → slice_get lefts (place + 1) ≡ Some left → take.discipline ≡ control_first → AreOfAllSenders take.queue (column place rows) → IsControlsFirst left
