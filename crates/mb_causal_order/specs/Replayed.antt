-- What is kept to replay the journals.
use Rattle.std.specs.Prelude.{◌≡◌, ℕ, ◌+◌, ◌≤◌, ◌<◌, if◌then◌else◌, Bool, true, List, [], count_by, get_or, length, reverse, set, slice_get, sum_by, Option, Some, None}
use Rattle.mb_msg.specs.declared.id.ActorId.{ActorId}
use Rattle.mb_msg.specs.declared.order.SenderOrder.{SenderOrder}
use Rattle.mb_msg.specs.declared.system.SysMsg.{SysMsg}
use Rattle.mb_msg.specs.declared.system.SysMsg.TheVariants as system
use Rattle.mb_journal.specs.Acts.{acts}
use Rattle.mb_journal.specs.Aside.{next_number}
use Rattle.mb_journal.specs.Entry.{Entry}
use Rattle.mb_journal.specs.Entry.Entry.{System}
use Rattle.mb_journal.specs.Identity.{Identity}
use Rattle.mb_cell.specs.CellView.{CellView, with_entry}
use Rattle.mb_report.specs.declared.report.ActorReport.{ActorReport}
use Rattle.mb_causal_order.specs.Merged.{AreInOrder, IsCaused}
use Rattle.mb_causal_order.specs.Places.{earliest, journal_of, entries_placed}
use Rattle.mb_causal_order.specs.SystemMessages.{Covers, HasAnswered, is_of_new, messages_come, messages_sent, sends, sent_from_outside}
use Rattle.mb_causal_order.specs.declared.outstanding.Row.{Row}
use Rattle.mb_causal_order.specs.declared.place.Place.{Place}

-- the cell has an entry more, whose acts are to be carried out
pub record AddsEntry (old new : CellView) : Type 0 where
  pub entry : Entry
  pub adds : new ≡ with_entry old entry

-- the cell is that of this actor after these entries, and no act is left
pub record IsReplayed (who : Option Identity) (before : List Entry) (cell : CellView) : Type 0 where
  pub same_actor : who ≡ Some cell.who
  pub journal : cell.journal ≡ before
  pub carried_out : cell.acts ≡ []

-- how many messages of a row pass the test
abbrev pub passing : (ℕ → SysMsg → Bool) → Row → ℕ
passing test row = if test row.to row.message then row.count else 0

-- how many messages that are outstanding pass the test
abbrev pub outstanding : (ℕ → SysMsg → Bool) → List Row → ℕ
outstanding test rows = sum_by (passing test) rows

-- these are the cells of the actors, by whose parents a test is passed by what a Died may answer
pub record AnswersByCells (cells : List CellView) (test : ℕ → SysMsg → Bool) : Type 0 where
  pub watch : (a x : ActorId) → test a.0 (system.Died x) ≡ true → test x.0 (system.Watch a) ≡ true
  pub create : (a x : ActorId) (d : CellView) → x.0 < length cells → (get_or cells x.0 d).who.parent ≡ Some a → test a.0 (system.Died x) ≡ true
      → test x.0 system.Create ≡ true

-- the second test is passed by what passes the first, and by each Died that may answer it, by the parents of these cells
pub record CoversByCells (cells : List CellView) (test covering : ℕ → SysMsg → Bool) : Type 0 where
  pub same : (to : ℕ) (m : SysMsg) → test to m ≡ true → covering to m ≡ true
  pub watch : (a x : ActorId) → test x.0 (system.Watch a) ≡ true → covering a.0 (system.Died x) ≡ true
  pub create : (a x : ActorId) (d : CellView) → x.0 < length cells → (get_or cells x.0 d).who.parent ≡ Some a → test x.0 system.Create ≡ true
      → covering a.0 (system.Died x) ≡ true

-- no such message to the actor of this number is outstanding
abbrev pub HasNoRow : List Row → ℕ → SysMsg → Type 0
HasNoRow rows to message = (place : ℕ) (d : Row) → place < length rows → (get_or rows place d).to ≡ to → (get_or rows place d).message ≡ message
    → (get_or rows place d).count ≡ 0

-- nothing is outstanding by which the message may come to the actor of this number: neither the message itself, nor what a Died may answer
pub record IsMissing (cells : List CellView) (rows : List Row) (to : ℕ) (message : SysMsg) : Type 0 where
  pub itself : HasNoRow rows to message
  pub watch : (x : ActorId) → message ≡ system.Died x → HasNoRow rows x.0 (system.Watch (record { 0 = to }))
  pub create : (x : ActorId) (d : CellView) → message ≡ system.Died x → x.0 < length cells → (get_or cells x.0 d).who.parent ≡ Some (record { 0 = to })
      → HasNoRow rows x.0 system.Create

-- the entry is of a new system message by which nothing that is outstanding comes
abbrev pub IsUnsent : List CellView → List Row → ℕ → List Entry → Entry → Type 0
IsUnsent cells rows to before (System number message outcome) = (number ≡ next_number before) × IsMissing cells rows to message
IsUnsent cells rows to before _ = ⊥

-- the actor of this number has an entry more, of which no act is left; a message that came by it is no longer outstanding, or what it answers is
-- not, and those that it sent are
pub record AppliesEntry (a : ℕ) (e : Entry) (old new : List CellView) (before after : List Row) : Type 0 where
  pub cells : (d : CellView) → new ≡ set old a (record (with_entry (get_or old a d) e) { acts = [] })
  pub kept : (d : CellView) (test covering : ℕ → SysMsg → Bool) → CoversByCells old test covering →
      outstanding test before + count_by (sends test) (acts (get_or old a d).who (get_or old a d).journal e)
      ≤ outstanding test after + (if is_of_new (covering a) (get_or old a d).journal (Some e) then 1 else 0)
  pub outstanding : (d : CellView) (test : ℕ → SysMsg → Bool) → AnswersByCells old test →
      outstanding test after + (if is_of_new (test a) (get_or old a d).journal (Some e) then 1 else 0)
      ≤ outstanding test before + count_by (sends test) (acts (get_or old a d).who (get_or old a d).journal e)

-- the order is right, each cell has the entries of its actor in it, and the messages are outstanding that were sent and have not come, nor been answered
-- by a Died
pub record IsAccounted (who : List Identity) (orders : List SenderOrder) (actors : List ActorReport) (order : List Place) (cells : List CellView)
    (rows : List Row) : Type 0 where
  pub in_order : AreInOrder who orders actors order
  pub as_many : length cells ≡ length actors
  pub within : (a : ℕ) → entries_placed a order ≤ length (journal_of actors a)
  pub each : (a : ℕ) (d : CellView) → a < length cells
      → IsReplayed (slice_get who a) (earliest (entries_placed a order) (journal_of actors a)) (get_or cells a d)
  pub sent : (test : ℕ → SysMsg → Bool) → HasAnswered who test
      → outstanding test rows + messages_come actors test order ≤ messages_sent who actors test order + sent_from_outside orders test
  pub all_sent : (test covering : ℕ → SysMsg → Bool) → Covers who test covering
      → messages_sent who actors test order + sent_from_outside orders test ≤ outstanding test rows + messages_come actors covering order
  pub no_others : (x : ℕ) → length actors ≤ x → slice_get who x ≡ None

-- with the system message that comes by the actor's next entry, no more have come than were sent
abbrev pub IsSentFor : List Identity → List SenderOrder → List ActorReport → List Place → ℕ → Type 0
IsSentFor who orders actors order a =
    (test : ℕ → SysMsg → Bool) → HasAnswered who test
    → messages_come actors test order
    + (if is_of_new (test a) (earliest (entries_placed a order) (journal_of actors a)) (slice_get (reverse (journal_of actors a)) (entries_placed a order)) then 1 else 0)
    ≤ messages_sent who actors test order + sent_from_outside orders test

-- the next entry of the actor of this number may come next
pub record IsReady (who : List Identity) (orders : List SenderOrder) (actors : List ActorReport) (order : List Place) (a : ℕ) : Type 0 where
  pub an_actor : a < length actors
  pub has_more : entries_placed a order < length (journal_of actors a)
  pub caused : (e : Entry) → slice_get (reverse (journal_of actors a)) (entries_placed a order) ≡ Some e → IsCaused who actors order e
  pub sent : IsSentFor who orders actors order a
