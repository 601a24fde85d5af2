-- How an actor stands, as JSON (this project's own profile).
use Rattle.std.specs.Prelude.{ℕ, ℤ, ◌^◌, nat_lt, if◌then◌else◌, codes, Option, Some, None}
use Rattle.serde_json.specs.Data.{Data, null, number, string, object, unsigned, member, no_members}
use Rattle.serde_json.specs.Find.{of_integer}
use Rattle.mb_report.specs.Lines.{phase_text}
use Rattle.mb_trace.specs.declared.actor_snapshot.ActorSnapshot.{ActorSnapshot}

-- The number, or the greatest of 64 bits where it is greater.
abbrev pub within_64_bits : ℕ → ℕ
within_64_bits n = if nat_lt n (2 ^ 64) then n else 18446744073709551615

-- The state; null of the guardian, which has none.
abbrev pub state_data : Option ℤ → Data
state_data None = null
state_data (Some state) = number (of_integer state)

-- The phase of the actor's life, its state, and how often its mailbox is suspended.
abbrev pub snapshot_data : ActorSnapshot → Data
snapshot_data s = object
    (member (codes "phase") (string (phase_text s.phase))
    (member (codes "state") (state_data s.state)
    (member (codes "suspended") (number (unsigned (within_64_bits s.suspended))) no_members)))
