-- What the mailboxes of all actors gave to their cells.
use Rattle.std.specs.Prelude.{◌≡◌, ℕ, List, [], ◌∷◌, ◌++◌, Some, map, slice_get, slice_set}
use Rattle.mb_msg.specs.declared.envelope.Envelope.{Envelope}
use Rattle.mb_msg.specs.declared.id.ActorId.{ActorId}
use Rattle.mb_journal.specs.Fates.{begun}
use Rattle.mb_cell.specs.CellView.{CellView}
use Rattle.mb_world.specs.MailboxView.{MailboxView}

-- an actor, and the envelopes that its mailbox gave to its cell, in order
abbrev pub mark_of : MailboxView → ActorId × List Envelope
mark_of m = (m.actor, m.given)

-- those of each, by number
abbrev pub marks_of : List MailboxView → List (ActorId × List Envelope)
marks_of = map mark_of

-- an actor, and the envelopes that its cell has begun, in order
abbrev pub cell_mark : CellView → ActorId × List Envelope
cell_mark c = (c.who.this, begun c.journal)

-- one more envelope, to the actor at this place, was given to its cell, and to no other cell
pub record GivesTo (old new : List (ActorId × List Envelope)) (place : ℕ) (envelope : Envelope) : Type 0 where
  pub actor : ActorId
  pub before : List Envelope
  pub was : slice_get old place ≡ Some (actor, before)
  pub is : new ≡ slice_set old place (actor, before ++ envelope ∷ [])
  pub addressed : envelope.to ≡ actor
