-- What a run conserves of a quantity that messages carry.
use Rattle.std.specs.Prelude.{◌≡◌, ℕ, suc, ℤ, pos, ◌+ℤ◌, List, [], ◌∷◌, ◌++◌, map, Option, Some, None, slice_get}
use Rattle.mb_actor.specs.declared.message.Message.{Message}
use Rattle.mb_actor.specs.declared.message.Message.TheVariants.{User, Control, Terminated}
use Rattle.mb_journal.specs.Fates.{begun}
use Rattle.mb_msg.specs.Limits.{most_actors}
use Rattle.mb_msg.specs.declared.envelope.Body.{Body}
use Rattle.mb_msg.specs.declared.envelope.Body.TheVariants as body
use Rattle.mb_msg.specs.declared.envelope.Envelope.{Envelope}
use Rattle.mb_msg.specs.declared.order.Order.{Order}
use Rattle.mb_quantity.specs.Quantity.{AllBooked, Holding, sum_of}
use Rattle.mb_report.specs.Counts.{restarts_of}
use Rattle.mb_report.specs.declared.report.ActorReport.{ActorReport}
use Rattle.mb_report.specs.declared.report.Report.{Report}
use Rattle.heddleorange.specs.Ledger.{all_cleaned, all_left, all_refused, ordered_from}
use Rattle.heddleorange.specs.Reading.{entries_in, handled_messages, state_in}

-- What a body is worth: what its message is. A PoisonPill and a Kill are no messages, and worth nothing.
abbrev pub body_worth : (Message → ℤ) → Body → ℤ
body_worth worth (body.User kind value) = worth (User kind value)
body_worth worth (body.Control kind value) = worth (Control kind value)
body_worth worth (body.Terminated who) = worth (Terminated who)
body_worth worth body.PoisonPill = pos 0
body_worth worth body.Kill = pos 0

-- What these envelopes are worth together.
abbrev pub worth_of : (Message → ℤ) → List Envelope → ℤ
worth_of worth envelopes = sum_of (λ (e : Envelope). body_worth worth e.body) envelopes

-- The numbers of the actors that hold some of the quantity. The first of these actors has this number.
abbrev pub holders : ℕ → List (Option Holding) → List ℕ
holders number [] = []
holders number (None ∷ rest) = holders (suc number) rest
holders number (Some holding ∷ rest) = number ∷ holders (suc number) rest

-- What they hold before any message has come to them.
abbrev pub held_at_first : List (Option Holding) → ℤ
held_at_first [] = pos 0
held_at_first (None ∷ rest) = held_at_first rest
held_at_first (Some holding ∷ rest) = holding.held [] +ℤ held_at_first rest

-- The holder of this number was not restarted, which would have it begin anew, and booked all messages that it handled.
abbrev pub HasBookedAll : Report → ℕ → Holding → Type 0
HasBookedAll report number holding = (actor : ActorReport) → slice_get report.actors.items number ≡ Some actor
    → (restarts_of actor ≡ 0) × AllBooked holding (handled_messages actor.journal.entries)

-- Each holder has.
abbrev pub HaveBookedAll : Report → ℕ → List (Option Holding) → Type 0
HaveBookedAll report number [] = Unit {0}
HaveBookedAll report number (None ∷ rest) = HaveBookedAll report (suc number) rest
HaveBookedAll report number (Some holding ∷ rest) = HasBookedAll report number holding × HaveBookedAll report (suc number) rest

-- The envelopes that were taken from mailboxes by actors that hold nothing.
abbrev pub taken_by_others : Report → ℕ → List (Option Holding) → List Envelope
taken_by_others report number [] = []
taken_by_others report number (None ∷ rest) = begun (entries_in report number) ++ taken_by_others report (suc number) rest
taken_by_others report number (Some holding ∷ rest) = taken_by_others report (suc number) rest

-- The envelopes that no holder took: others took them, or they were cleaned up, left or refused.
abbrev pub not_booked : Report → List (Option Holding) → List Envelope
not_booked report holdings = taken_by_others report 1 holdings ++ all_cleaned report ++ all_left report ++ all_refused report

-- Unless a holder was restarted or did not book a message, what the report shows of the holders, with what the envelopes are worth that no holder took, is
-- what the holders held at first, with what the senders outside sent. The first actor has number 1.
abbrev pub IsConserved : (Message → ℤ) → List (Option Holding) → List (List Order) → Report → Type 0
IsConserved worth holdings orders report = HaveBookedAll report 1 holdings
    → (held : List ℤ) × (map (λ id. state_in report id) (holders 1 holdings) ≡ map Some held)
    × (sum_of (λ n. n) held +ℤ worth_of worth (not_booked report holdings)
    ≡ held_at_first holdings +ℤ worth_of worth (ordered_from most_actors orders))
