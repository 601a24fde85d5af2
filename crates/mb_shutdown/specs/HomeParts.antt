-- The parts of a system's homes at its end.
use Rattle.std.specs.Prelude.{◌≡◌, ℕ, ◌+◌, ◌%◌, ◌^◌, false, List, All, map, Option, Some}
use Rattle.std.specs.Global.{Box}
use Rattle.mb_msg.specs.JournalMode.{Retention}
use Rattle.mb_msg.specs.declared.dead_letter.DeadLetter.{DeadLetter}
use Rattle.mb_msg.specs.declared.envelope.Envelope.{Envelope}
use Rattle.mb_cell.specs.CellView.{CellView}
use Rattle.mb_queue.specs.Passes.{SendPassView, TakePassView}
use Rattle.mb_gate.specs.declared.returned_actor.ReturnedActor.{ReturnedActor}
use Rattle.mb_home.specs.Contents.{Contents}
use Rattle.mb_home.specs.Steps.{HasNoBacklog}
use Rattle.mb_home.specs.declared.home.HomeParts.{HomeParts}
use Rattle.mb_report.specs.declared.report.SenderReport.{SenderReport}
use Rattle.mb_shutdown.specs.declared.room.Ended.{Ended}

-- The cell of a home that was taken apart, with what was cleaned up, how many system messages are dead, and whether all that was cleaned up is kept.
abbrev pub ended_of : {A K : Type 0} → Ended A K → CellView × List Envelope × ℕ × Retention
ended_of e = (e.cell, e.cleaned.items, e.dead_system, e.cleaned.retention)

-- What a home has at its end: its cell, what was cleaned up, and how many system messages are dead, modulo 2^64. All that was cleaned up is kept exactly
-- where the journal keeps all entries.
abbrev pub end_of : Contents → CellView × List Envelope × ℕ × Retention
end_of h = (h.cell, h.cleaned, (h.aside_dead + h.dropped) % 2 ^ 64, h.cell.who.retention)

-- How many envelopes a sender sent, which of them are dead letters, and whether all these are kept.
abbrev pub sent_of : SenderReport → ℕ × List DeadLetter × Retention
sent_of s = (s.sent, s.dead.items, s.dead.retention)

-- How many envelopes a home's actor sent, and its dead letters. All these are kept exactly where the journal keeps all entries.
abbrev pub sent_in : Contents → ℕ × List DeadLetter × Retention
sent_in h = (h.sent, h.dead, h.cell.who.retention)

-- No system message is left for the actor: none beside its cell that is to be applied, and none in its list.
abbrev pub HasNoSystemLeft : ReturnedActor (Box Contents) → Type 0
HasNoSystemLeft l = HasNoBacklog l.home.value × (l.listed ≡ false)

-- The home came back, no system message was left for its actor, and these are its parts.
pub record IsOpened {A K : Type 0} (left : Option (ReturnedActor (Box Contents))) (parts : HomeParts A K) : Type 0 where
  pub one : ReturnedActor (Box Contents)
  pub is : left ≡ Some one
  pub done : HasNoSystemLeft one
  pub end : ◌≡◌ {A = CellView × List Envelope × ℕ × Retention} (parts.cell, parts.cleaned.items, parts.dead_system, parts.cleaned.retention)
      (end_of one.home.value)
  pub take : parts.take ≡ one.home.value.take
  pub sends : parts.sends.items ≡ one.home.value.sends
  pub sent : ◌≡◌ {A = ℕ × List DeadLetter × Retention} (parts.sent, parts.dead.items, parts.dead.retention) (sent_in one.home.value)

-- The homes were taken apart, with no system message left for any actor: into the cells; the passes of the queues; the passes by which the actors
-- sent; and what each actor sent.
pub record AreApart {A K : Type 0} (all : List (Option (ReturnedActor (Box Contents)))) (ended : List (Ended A K)) (takes : List TakePassView) (rows : List (List SendPassView))
    (senders : List SenderReport) : Type 0 where
  pub lefts : List (ReturnedActor (Box Contents))
  pub are : all ≡ map (λ (l : ReturnedActor (Box Contents)). Some l) lefts
  pub done : All HasNoSystemLeft lefts
  pub ended_are : map ended_of ended ≡ map (λ (l : ReturnedActor (Box Contents)). end_of l.home.value) lefts
  pub takes_are : takes ≡ map (λ (l : ReturnedActor (Box Contents)). l.home.value.take) lefts
  pub rows_are : rows ≡ map (λ (l : ReturnedActor (Box Contents)). l.home.value.sends) lefts
  pub senders_are : map sent_of senders ≡ map (λ (l : ReturnedActor (Box Contents)). sent_in l.home.value) lefts
