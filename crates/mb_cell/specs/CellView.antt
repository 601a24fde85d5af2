-- What contracts see of a cell.
use Rattle.std.specs.Prelude.{◌≡◌, ℕ, List, [], ◌∷◌, Bool, false, IsTrue}
use Rattle.mb_msg.specs.declared.envelope.Envelope.{Envelope}
use Rattle.mb_msg.specs.declared.system.SysMsg.{SysMsg}
use Rattle.mb_journal.specs.Acts.{Act, acts}
use Rattle.mb_journal.specs.Entry.{Entry, Outcome}
use Rattle.mb_journal.specs.Entry.Entry.{Handled, System, Dropped}
use Rattle.mb_journal.specs.Identity.{Identity}
use Rattle.mb_journal.specs.Lawful.{IsNumbered}
use Rattle.mb_journal.specs.Life.{closed}

-- a cell: who its actor is; its journal, the newest entry first; the acts that are still to be carried out, in order; and
-- whether there is room for one more message. All else is a query of the journal (`akka.actor.ActorCell`; the journal is
-- this project's own profile)
pub record CellView : Type 0 where
  pub who : Identity
  pub journal : List Entry
  pub acts : List Act
  pub is_ready : Bool

-- the cell with an entry more, whose acts are to be carried out
abbrev pub with_entry : CellView → Entry → CellView
with_entry cell e = record { who = cell.who; journal = e ∷ cell.journal; acts = acts cell.who cell.journal e; is_ready = false }

-- the cell may be given this system message: there is room, no act is left, its actor has not ended, and the number is the
-- one that is due
pub record MayTake (cell : CellView) (number : ℕ) (m : SysMsg) : Type 0 where
  pub ready : IsTrue cell.is_ready
  pub carried_out : cell.acts ≡ []
  pub not_ended : closed cell.who cell.journal ≡ false
  pub numbered : IsNumbered cell.who cell.journal number m

-- a system message was taken: its entry was added, whatever became of it, and its acts are to be carried out
pub record TakesSystem (old new : CellView) (number : ℕ) (m : SysMsg) : Type 0 where
  pub outcome : Outcome
  pub adds : new ≡ with_entry old (System number m outcome)

-- an entry of an envelope, handled at this reading or dropped
abbrev pub IsOf : Envelope → ℕ → Entry → Type 0
IsOf envelope reading (Handled e r outcome) = (e ≡ envelope) × (r ≡ reading)
IsOf envelope reading (System number m outcome) = ⊥
IsOf envelope reading (Dropped e) = e ≡ envelope

-- an envelope was taken: its entry was added, and its acts are to be carried out; room for one more message may be left
pub record TakesEnvelope (old new : CellView) (envelope : Envelope) (reading : ℕ) : Type 0 where
  pub entry : Entry
  pub of_it : IsOf envelope reading entry
  pub adds : new ≡ record (with_entry old entry) { is_ready = new.is_ready }
