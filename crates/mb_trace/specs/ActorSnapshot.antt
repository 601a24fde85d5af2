-- What an entry changed of how its actor stands, as it is printed (this project's own profile).
use Rattle.std.specs.Prelude.{ℕ, ℤ, ◌==◌, if◌then◌else◌, List, [], ◌++◌, codes, Option, Some, None}
use Rattle.std.specs.Fmt.{decimal, signed_decimal}
use Rattle.mb_actor.specs.declared.phase.Phase.{Phase}
use Rattle.mb_journal.specs.Phase.{phase_is}
use Rattle.mb_report.specs.Lines.{phase_text}
use Rattle.mb_trace.specs.declared.actor_snapshot.ActorSnapshot.{ActorSnapshot}

-- The phase, where it is another.
unfoldable pub phase_change_text : Phase → Phase → List ℕ
phase_change_text before after = if phase_is before after then [] else codes ", " ++ phase_text after

-- How often the mailbox is suspended, where that is another number.
unfoldable pub suspension_change_text : ℕ → ℕ → List ℕ
suspension_change_text before after = if before == after then [] else codes ", suspended " ++ decimal after

-- The state; the guardian has none.
unfoldable pub state_now_text : Option ℤ → List ℕ
state_now_text None = []
state_now_text (Some number) = codes ", state " ++ signed_decimal number

-- The phase and the suspensions where they are others, and the state after the entry.
unfoldable pub change_text : ActorSnapshot → ActorSnapshot → List ℕ
change_text before after = phase_change_text before.phase after.phase ++ suspension_change_text before.suspended after.suspended
    ++ state_now_text after.state
