-- What does not agree at the end of a system, and of which actor.
use Rattle.std.specs.Prelude.{◌≡◌, ◌≢◌, ◌⊎◌, ℕ, zero, suc, ◌<◌, true, List, [], ◌++◌, Option, Some, None, length, map, slice_get, vec_capacity}
use Rattle.std.specs.Global.{Box, Vec}
use Rattle.mb_msg.specs.declared.envelope.Envelope.{Envelope}
use Rattle.mb_actor.specs.declared.phase.Phase.TheVariants.{Ended as EndedPhase}
use Rattle.mb_journal.specs.Life.{phase}
use Rattle.mb_journal.specs.Suspension.{count}
use Rattle.mb_cell.specs.CellView.{CellView}
use Rattle.mb_queue.specs.Passes.{SendPassView, TakePassView}
use Rattle.mb_shutdown.specs.Joined.{column}
use Rattle.mb_shutdown.specs.LeftInQueues.{WasLeft}
use Rattle.mb_gate.specs.declared.returned_actor.ReturnedActor.{ReturnedActor}
use Rattle.mb_home.specs.Contents.{Contents}
use Rattle.mb_home.specs.Steps.{HasNext}
use Rattle.mb_shutdown.specs.declared.mismatch.Mismatch.{Mismatch}
use Rattle.mb_shutdown.specs.declared.mismatch.Mismatch.TheVariants.{Held, List as Listed, Waiting}
use Rattle.mb_shutdown.specs.declared.room.Ended.{Ended}

-- The actor of which something does not agree.
abbrev pub of_whom : Mismatch → ℕ
of_whom (Held id) = id.0
of_whom (Listed id) = id.0
of_whom (Waiting id) = id.0

-- System messages to the actor are left: some in its list, or one beside its cell that is to be applied.
abbrev pub HasSystemLeft : ReturnedActor (Box Contents) → Type 0
HasSystemLeft l = (l.listed ≡ true) ⊎ HasNext l.home.value

-- The actor's home did not come back, since a claim of it is out; or it came back, and system messages are left.
abbrev pub IsUnopened : Option (ReturnedActor (Box Contents)) → ℕ → Mismatch → Type 0
IsUnopened left id (Held whom) = (whom.0 ≡ id) × (left ≡ None)
IsUnopened left id (Listed whom) = (whom.0 ≡ id) × ((l : ReturnedActor (Box Contents)) × (left ≡ Some l) × HasSystemLeft l)
IsUnopened left id (Waiting whom) = ⊥

-- This is so of one actor, by what the gates gave back of each.
abbrev pub IsNotReturned : List (Option (ReturnedActor (Box Contents))) → Mismatch → Type 0
IsNotReturned all what = (left : Option (ReturnedActor (Box Contents))) × (slice_get all (of_whom what) ≡ Some left) × IsUnopened left (of_whom what) what

-- The actor can handle an envelope: it has not ended and is not suspended.
abbrev pub CanHandle : CellView → Type 0
CanHandle cell = (phase cell.who cell.journal ≢ EndedPhase) × (count cell.who cell.journal ≡ 0)

-- The actor has ended, or is suspended.
abbrev pub CannotHandle : CellView → Type 0
CannotHandle cell = (phase cell.who cell.journal ≡ EndedPhase) ⊎ (0 < count cell.who cell.journal)

-- The passes into the queue of this actor. Nobody has one into that of the first actor, the guardian.
abbrev pub passes_to : ℕ → List (List SendPassView) → List SendPassView
passes_to zero rows = []
passes_to (suc place) rows = column place rows

-- This was left for this actor; and the actor is the guardian, which nobody may send to, or its room does not hold so much.
pub record IsTooMuchFor (takes : List TakePassView) (rows : List (List SendPassView)) (rooms : List (Vec Envelope)) (id : ℕ) : Type 0 where
  pub take : TakePassView
  pub left : List Envelope
  pub present : slice_get takes id ≡ Some take
  pub was : WasLeft take (passes_to id rows) left
  pub over : ((id ≡ 0) × (left ≢ [])) ⊎ ((room : Vec Envelope) × (slice_get rooms id ≡ Some room) × (vec_capacity room < length left))

-- The answer names an actor for which more was left than its room holds, or the guardian, for which something was left.
abbrev pub IsTooMuch : List TakePassView → List (List SendPassView) → List (Vec Envelope) → Mismatch → Type 0
IsTooMuch takes rows rooms (Waiting whom) = IsTooMuchFor takes rows rooms whom.0
IsTooMuch takes rows rooms (Held whom) = ⊥
IsTooMuch takes rows rooms (Listed whom) = ⊥

-- What was left for this actor is not as many envelopes as were counted as waiting for it, or the actor can handle it.
pub record DiffersFromCountFor {A K : Type 0} (ended : List (Ended A K)) (lefts : List (List Envelope)) (waiting : List ℕ) (id : ℕ) : Type 0 where
  pub end : Ended A K
  pub left : List Envelope
  pub count : ℕ
  pub present : slice_get ended id ≡ Some end
  pub lies : slice_get lefts id ≡ Some left
  pub counted : slice_get waiting id ≡ Some count
  pub differs : (length left ≢ count) ⊎ ((left ≢ []) × CanHandle end.cell)

-- The answer names an actor for which not as many envelopes were left as were counted, or which can handle what was left.
abbrev pub DiffersFromCount : {A K : Type 0} → List (Ended A K) → List (List Envelope) → List ℕ → Mismatch → Type 0
DiffersFromCount ended lefts waiting (Waiting whom) = DiffersFromCountFor ended lefts waiting whom.0
DiffersFromCount ended lefts waiting (Held whom) = ⊥
DiffersFromCount ended lefts waiting (Listed whom) = ⊥

-- All homes came back, and this was left in the queue of this actor: not as many envelopes as were counted as waiting for it; or some that it can
-- handle, or that went to the guardian, which nobody may send to. The rows are the passes of the senders outside.
pub record IsMiscounted (all : List (Option (ReturnedActor (Box Contents)))) (outside : List (List SendPassView)) (waiting : List ℕ) (id : ℕ) : Type 0 where
  pub lefts : List (ReturnedActor (Box Contents))
  pub are : all ≡ map (λ (l : ReturnedActor (Box Contents)). Some l) lefts
  pub one : ReturnedActor (Box Contents)
  pub count : ℕ
  pub left : List Envelope
  pub present : slice_get lefts id ≡ Some one
  pub counted : slice_get waiting id ≡ Some count
  pub was : WasLeft one.home.value.take (passes_to id (map (λ (l : ReturnedActor (Box Contents)). l.home.value.sends) lefts ++ outside)) left
  pub differs : (length left ≢ count) ⊎ ((left ≢ []) × ((id ≡ 0) ⊎ CanHandle one.home.value.cell))

-- What does not agree, by what the gates gave back of each actor, by the passes of the senders outside, and by how many envelopes were counted as
-- waiting: the actor's home did not come back, since a claim of it is out; system messages to the actor are left; or what was left in its queue is
-- not what was counted.
abbrev pub IsMismatch : List (Option (ReturnedActor (Box Contents))) → List (List SendPassView) → List ℕ → Mismatch → Type 0
IsMismatch all outside waiting (Held whom) = slice_get all whom.0 ≡ Some None
IsMismatch all outside waiting (Listed whom) = (l : ReturnedActor (Box Contents)) × (slice_get all whom.0 ≡ Some (Some l)) × HasSystemLeft l
IsMismatch all outside waiting (Waiting whom) = IsMiscounted all outside waiting whom.0
