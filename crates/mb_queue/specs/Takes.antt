-- What a take gives, by the kind of the queue.
use Rattle.std.specs.Prelude.{◌≡◌, ℕ, ◌+◌, ◌≤◌, ◌⊎◌, Bool, MatchBool, List, [], ◌∷◌, ◌++◌, length, count_by}
use Rattle.std.specs.Prelude.{All, Option, Some, None, IsPermutation}
use Rattle.mb_msg.specs.declared.envelope.Envelope.{Envelope}
use Rattle.mb_queue.specs.declared.ledger.Account.{Account}
use Rattle.mb_queue.specs.Ledger.{account, is_control, sent_by}
use Rattle.mb_msg.specs.declared.mailbox_type.RankRow.{RankRow}
use Rattle.mb_queue.specs.declared.waiting.Arrival.{Arrival}
use Rattle.mb_queue.specs.Arrival.{IsBehind}
use Rattle.mb_queue.specs.Rank.{rank_of}
use Rattle.mb_queue.specs.Parts.{controls, others, whole}
use Rattle.mb_queue.specs.Passes.{TakePassView, Discipline, first_in_first_out, control_first, by_rank}

-- of each sender whose account came back, all of this part was taken, in its order: nothing of it is left
abbrev pub AllOut : (List Envelope → List Envelope) → List Account → List Envelope → Type 0
AllOut part accounts out = (sender : ℕ) (pushed : List Envelope) → account accounts sender ≡ Some pushed → part pushed ≡ sent_by sender (part out)

-- of each sender whose account came back, this part begins with what was taken, in its order
abbrev pub AllBegin : (List Envelope → List Envelope) → List Account → List Envelope → Type 0
AllBegin part accounts out = (sender : ℕ) (pushed : List Envelope) → account accounts sender ≡ Some pushed
    → (rest : List Envelope) × (part pushed ≡ sent_by sender (part out) ++ rest)

-- the same envelopes, each as often, in any order (as multisets)
abbrev pub IsSameBag : List Envelope → List Envelope → Type 0
IsSameBag xs ys = (test : Envelope → Bool) → count_by test xs ≡ count_by test ys

-- of each sender whose account came back, each envelope that it pushed was given exactly once
abbrev pub EachOnce : TakePassView → Type 0
EachOnce t = (sender : ℕ) (pushed : List Envelope) → account t.accounts sender ≡ Some pushed → IsSameBag pushed (sent_by sender t.taken)

-- the envelopes as arrivals: numbered from the given number, each with its rank
abbrev pub arrivals_from : List RankRow → ℕ → ℕ → List Envelope → List Arrival
arrivals_from rows other number [] = []
arrivals_from rows other number (e ∷ es) =
    record { rank = rank_of rows other e.body; number = number; envelope = e } ∷ arrivals_from rows other (number + 1) es

-- first in, first out: None only if the queue was empty at a moment, else the envelope that was pushed first
abbrev pub TakesFirst : TakePassView → Option Envelope → TakePassView → Type 0
TakesFirst old None new = AllOut whole old.accounts old.taken
TakesFirst old (Some e) new = AllBegin whole old.accounts new.taken

-- control messages first: None only if each of the parts was empty at a moment, another message only if the part of control
-- messages was, and each part first in, first out
abbrev pub TakesControlFirst : TakePassView → Option Envelope → TakePassView → Type 0
TakesControlFirst old None new = AllOut controls old.accounts old.taken × AllOut others old.accounts old.taken
TakesControlFirst old (Some e) new =
    MatchBool (is_control e) (AllBegin controls old.accounts new.taken) (AllOut controls old.accounts old.taken
    × AllBegin others old.accounts new.taken)

-- of those held the first is given, or none where none is held
abbrev pub Chooses : List Arrival → Option Envelope → List Arrival → Type 0
Chooses held None rest = (held ≡ []) × (rest ≡ [])
Chooses held (Some e) rest = (first : Arrival) × (first.envelope ≡ e) × IsPermutation held (first ∷ rest) × All (IsBehind first) rest

-- By rank. Arrivals are taken from the fifo, in their order, until 1,024 are held (never more) or the fifo was empty at a
-- moment. Of those held the first by rank, and then by arrival, is given: all that stay are behind it. None only if none is
-- held.
pub record TakesByRank (rows : List RankRow) (other : ℕ) (old : TakePassView) (result : Option Envelope) (new : TakePassView) : Type 0 where
  pub fresh : List Envelope
  pub held : List Arrival
  pub arrived : new.arrived ≡ old.arrived ++ fresh
  pub arrivals : IsPermutation (old.waiting ++ arrivals_from rows other (length old.arrived) fresh) held
  pub room : length held ≤ 1024
  pub enough : (length held ≡ 1024) ⊎ AllOut whole old.accounts new.arrived
  pub next : (fresh ≡ []) ⊎ AllBegin whole old.accounts new.arrived
  pub choice : Chooses held result new.waiting

-- the kinds that hold nothing: all that was taken from the fifos was given
abbrev pub HoldsNothing : TakePassView → Type 0
HoldsNothing t = (t.arrived ≡ t.taken) × (t.waiting ≡ [])

-- one take by the discipline of the queue
abbrev pub IsTake : Discipline → TakePassView → Option Envelope → TakePassView → Type 0
IsTake first_in_first_out old result new = HoldsNothing new × TakesFirst old result new
IsTake control_first old result new = HoldsNothing new × TakesControlFirst old result new
IsTake (by_rank rows other) old result new = TakesByRank rows other old result new
