-- Whether the turns of a quiet run have the entries of the journals (this project's own profile: Akka keeps no journal).
use Rattle.std.specs.Prelude.{ℕ, ◌≡◌, ◌<◌, All, List, length}
use Rattle.mb_causal_order.specs.Places.{journal_of}
use Rattle.mb_report.specs.declared.report.ActorReport.{ActorReport}
use Rattle.mb_trace.specs.Text.{entries_in}
use Rattle.mb_trace.specs.declared.trace.TurnLength.{TurnLength}

-- the turns have as many entries of each actor as its journal has, and none is of an actor that is not among these
pub record CoverJournals (turns : List TurnLength) (actors : List ActorReport) : Type 0 where
  pub all : (a : ℕ) → entries_in a turns ≡ length (journal_of actors a)
  pub known : All (λ (t : TurnLength). t.actor.0 < length actors) turns
