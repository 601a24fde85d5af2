-- How a run takes from its actor's queue (`akka.dispatch.Mailbox.processMailbox` and `cleanUp` take until none is there).
use Rattle.std.specs.Prelude.{◌≡◌, true, ◌⊎◌, List, [], ◌∷◌, ◌++◌, Option, None, option_to_list}
use Rattle.mb_msg.specs.declared.envelope.Envelope.{Envelope}
use Rattle.mb_queue.specs.Passes.{TakePassView}
use Rattle.mb_queue.specs.Takes.{IsTake}
use Rattle.mb_home.specs.Steps.{IsSamePass}
use Rattle.mb_mailbox.specs.RunState.{RunState}

-- One take, with this answer, by the discipline of the pass.
pub record TakesOnce (old : TakePassView) (answer : Option Envelope) (new : TakePassView) : Type 0 where
  pub gave : new.taken ≡ old.taken ++ option_to_list answer
  pub follows_discipline : IsTake old.discipline old answer new
  pub pass : IsSamePass old new

-- TakesOnce one after another, with these answers.
abbrev pub TakesAll : TakePassView → List (Option Envelope) → TakePassView → Type 0
TakesAll old [] new = new ≡ old
TakesAll old (answer ∷ answers) new = (next : TakePassView) × TakesOnce old answer next × TakesAll next answers new

-- TakesOnce one after another, or none.
pub record TakesOn (old new : TakePassView) : Type 0 where
  pub answers : List (Option Envelope)
  pub takes : TakesAll old answers new

-- TakesOnce one after another, of which the last found no envelope.
pub record FindsNoMore (old new : TakePassView) : Type 0 where
  pub answers : List (Option Envelope)
  pub takes : TakesAll old (answers ++ None ∷ []) new

-- These envelopes came out, in order, and the last take found none.
pub record IsEmptied (pass : TakePassView) (envelopes : List Envelope) : Type 0 where
  pub left : TakePassView
  pub gave : left.taken ≡ pass.taken ++ envelopes
  pub empty : FindsNoMore pass left

-- If the mailbox is closed at the end, its queue was emptied; or it was closed before, and nothing was taken.
abbrev pub IsCleared : RunState → RunState → Type 0
IsCleared old new = new.status.closed ≡ true
    → ((old.status.closed ≡ true) × (new.home.take ≡ old.home.take)) ⊎ FindsNoMore old.home.take new.home.take
