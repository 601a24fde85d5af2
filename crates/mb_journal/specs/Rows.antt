-- What the rows of a journal say: most entries stand in the row itself, the others in a list beside the rows.
use Rattle.std.specs.Prelude.{ℕ, ◌+◌, List, Option, None, Some, get_or}
use Rattle.mb_msg.specs.declared.envelope.Body.{Body}
use Rattle.mb_msg.specs.declared.envelope.Envelope.{Envelope}
use Rattle.mb_msg.specs.declared.system.SysMsg.TheVariants.{Create}
use Rattle.mb_actor.specs.declared.answer.Answer.{Answer}
use Rattle.mb_actor.specs.declared.answer.Answer.TheVariants as answer
use Rattle.mb_journal.specs.declared.entry.Received.{Received}
use Rattle.mb_journal.specs.declared.entry.Received.TheVariants as arrival
use Rattle.mb_journal.specs.declared.row.ShortAnswer.{ShortAnswer}
use Rattle.mb_journal.specs.declared.row.ShortAnswer.TheVariants as short
use Rattle.mb_journal.specs.declared.row.Row.{Row}
use Rattle.mb_journal.specs.declared.row.Row.TheVariants as row

-- what a row says: what came, without its effects, and where those end
pub record WholeRow : Type 0 where
  pub arrival : Received
  pub end : ℕ

-- the answer that a short one stands for
abbrev pub answer_of : ShortAnswer → Option Answer
answer_of short.NotCalled = None
answer_of short.Handled = Some answer.Handled
answer_of short.Unhandled = Some answer.Unhandled
answer_of (short.Failed error) = Some (answer.Failed error)

-- the error of an answer; 0 where it has none
abbrev pub error_of : Option Answer → ℕ
error_of (Some (answer.Failed error)) = error
error_of _ = 0

-- the envelope with these numbers
abbrev pub envelope_of : ℕ → ℕ → ℕ → Body → Envelope
envelope_of by to number body = record { by = record { 0 = by }; to = record { 0 = to }; number = number; body = body }

-- what a row says, by itself or by the list of the entries beside the rows. (The default is for places outside of the list, which no row of a
-- journal names.)
abbrev pub whole : List Received → Row → WholeRow
whole wide (row.Handled by to answer reading number end body) =
    record { arrival = arrival.Handled (answer_of answer) (envelope_of by to number body) reading; end = end }
whole wide (row.System answer number end message) = record { arrival = arrival.System (answer_of answer) number message; end = end }
whole wide (row.SetAside number end message) = record { arrival = arrival.SetAside number message; end = end }
whole wide (row.Dropped by to number end body) = record { arrival = arrival.Dropped (envelope_of by to number body); end = end }
whole wide (row.Wide place end) = record { arrival = get_or wide place (arrival.SetAside 0 Create); end = end }

-- how many entries beside the rows there have to be, so that what a row says is there
abbrev pub needs : Row → ℕ
needs (row.Wide place end) = place + 1
needs _ = 0
