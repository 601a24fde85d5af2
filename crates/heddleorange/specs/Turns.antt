-- The turns of a quiet run (`akka.dispatch.Mailbox.processMailbox`: a run of a mailbox handles at most as many messages as the dispatcher's
-- throughput; that turns are told is this project's own profile).
use Rattle.std.specs.Prelude.{◌≡◌, ℕ, ◌+◌, ◌<◌, ◌≤◌, ◌==◌, ◌++◌, All, List, [], ◌∷◌, Some, drop, filter, length, reverse, slice_get, take}
use Rattle.mb_journal.specs.Entry.{Entry}
use Rattle.mb_journal.specs.Run.{most_envelopes}
use Rattle.mb_mailbox.specs.Ran.{systems_in}
use Rattle.mb_mailbox.specs.declared.turn.Turn.{Turn}
use Rattle.mb_msg.specs.declared.plan.Plan.{Plan}
use Rattle.mb_report.specs.declared.report.ActorReport.{ActorReport}
use Rattle.mb_report.specs.declared.report.Report.{Report}

-- The turn is of one of so many actors, and began at most as many envelopes as this throughput says, of which 0 counts as 1.
pub record IsTurnOf (actors throughput : ℕ) (turn : Turn) : Type 0 where
  pub actor : turn.actor.0 < actors
  pub at_most : turn.envelopes ≤ most_envelopes throughput

-- Each turn is of the guardian or of an actor of the plan, and began at most as many envelopes as the plan's throughput says.
abbrev pub AreTurnsOf : Plan → List Turn → Type 0
AreTurnsOf plan turns = All (IsTurnOf (length plan.actors.items + 1) plan.throughput) turns

-- A stretch of this journal, entries one after another, has as many entries of system messages as the turn says, and one more for each of its
-- envelopes.
pub record IsStretch (journal : List Entry) (turn : Turn) : Type 0 where
  pub newer : List Entry
  pub entries : List Entry
  pub older : List Entry
  pub journal_is : journal ≡ newer ++ entries ++ older
  pub system : systems_in entries ≡ turn.system
  pub all : length entries ≡ turn.system + turn.envelopes

-- The entries of each turn are a stretch of its actor's journal in the report.
abbrev pub AreStretches : Report → List Turn → Type 0
AreStretches report turns =
    All (λ (turn : Turn). (a : ActorReport) → slice_get report.actors.items turn.actor.0 ≡ Some a → IsStretch a.journal.entries turn) turns

-- The turns of the actor of this number, in order.
abbrev pub turns_of : ℕ → List Turn → List Turn
turns_of actor turns = filter (λ (t : Turn). t.actor.0 == actor) turns

-- How many entries the turn has: one for each system message, and one for each envelope.
abbrev pub entry_count : Turn → ℕ
entry_count turn = turn.system + turn.envelopes

-- These entries are those of this turn: as many as it has, and as many of them of system messages as it says.
abbrev pub AreOfTurn : Turn → List Entry → Type 0
AreOfTurn turn entries = (length entries ≡ entry_count turn) × (systems_in entries ≡ turn.system)

-- These entries, the oldest first, are those of these turns: one turn's after another's, with none before, between or after them.
abbrev pub AreOfTurns : List Turn → List Entry → Type 0
AreOfTurns [] entries = entries ≡ []
AreOfTurns (turn ∷ turns) entries = AreOfTurn turn (take (entry_count turn) entries) × AreOfTurns turns (drop (entry_count turn) entries)

-- The entries of the journal are those of the turns of the actor of this number.
abbrev pub IsOfTurns : List Turn → ℕ → List Entry → Type 0
IsOfTurns turns actor journal = AreOfTurns (turns_of actor turns) (reverse journal)

-- The journal of each actor of the report has the entries of its turns.
abbrev pub HaveTheirTurns : Report → List Turn → Type 0
HaveTheirTurns report turns =
    (actor : ℕ) (a : ActorReport) → slice_get report.actors.items actor ≡ Some a → IsOfTurns turns actor a.journal.entries

-- Each turn is of an actor of the report, and the journal of each actor has the entries of its turns and no others, turn after turn.
pub record CoverJournals (report : Report) (turns : List Turn) : Type 0 where
  pub known : All (λ (t : Turn). t.actor.0 < length report.actors.items) turns
  pub all : HaveTheirTurns report turns
