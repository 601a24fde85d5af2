-- What became of the envelopes of a queue: what each sender pushed, by its account, once its pass was joined, and what was
-- given of it.
use Rattle.std.specs.Prelude.{◌≡◌, ℕ, List, [], Option, Some, IsSome, Contains}
use Rattle.mb_msg.specs.declared.envelope.Envelope.{Envelope}
use Rattle.mb_queue.specs.Ledger.{account, sent_by}
use Rattle.mb_queue.specs.Passes.{TakePassView, Discipline, first_in_first_out}
use Rattle.mb_queue.specs.Takes.{EachOnce}

-- all that a sender pushed, where its pass was joined
abbrev pub pushed_by : TakePassView → ℕ → Option (List Envelope)
pushed_by t sender = account t.accounts sender

-- what was given of a sender
abbrev pub given_of_sender : TakePassView → ℕ → List Envelope
given_of_sender t sender = sent_by sender t.taken

-- the pass of each sender was joined
abbrev pub AllJoined : TakePassView → Type 0
AllJoined t = (sender : ℕ) → Contains t.queue.senders sender → IsSome (pushed_by t sender)

-- of each sender whose pass was joined, what it pushed is what was given of it, in its order
abbrev pub InOrder : TakePassView → Type 0
InOrder t = (sender : ℕ) (pushed : List Envelope) → pushed_by t sender ≡ Some pushed → pushed ≡ given_of_sender t sender

-- Nothing is left: the pass of each sender was joined, each envelope that was pushed was given exactly once, and none is held.
abbrev pub NothingLeft : TakePassView → Type 0
NothingLeft t = AllJoined t × EachOnce t × (t.waiting ≡ [])

-- All that a joined pass pushed was given: each envelope once, and by the discipline first in, first out, in its order. Where the passes of all
-- senders were joined nothing is left.
pub record HasGivenAll (discipline : Discipline) (t : TakePassView) : Type 0 where
  pub each_once : EachOnce t
  pub in_order : discipline ≡ first_in_first_out → InOrder t
  pub emptied : AllJoined t → NothingLeft t
