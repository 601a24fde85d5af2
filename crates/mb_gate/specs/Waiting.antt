-- The waiting count as an account of what all seats did (this project's own profile: Akka asks the queue).
use Rattle.std.specs.Prelude.{◌≡◌, ℕ, ◌+◌, ◌%◌, ◌^◌, ◌==◌, if◌then◌else◌, List}
use Rattle.mb_ghost.specs.Summed.{total}
use Rattle.mb_gate.specs.View.{View, Observation, Sent, Unsent, Took}

-- How many envelopes of this actor an observation counted as waiting.
abbrev pub counted_on : ℕ → Observation → ℕ
counted_on actor (Sent a n) = if a == actor then n else 0
counted_on actor _ = 0

-- How many envelopes of this actor an observation counted off: those that were taken back since they were refused, and those that were taken.
abbrev pub counted_off : ℕ → Observation → ℕ
counted_off actor (Unsent a n) = if a == actor then n else 0
counted_off actor (Took a n) = if a == actor then n else 0
counted_off actor _ = 0

-- How many envelopes of the actor a seat counted as waiting in all.
abbrev pub on_by : ℕ → View → ℕ
on_by actor v = total (counted_on actor) v.log

-- How many envelopes of the actor a seat counted off in all.
abbrev pub off_by : ℕ → View → ℕ
off_by actor v = total (counted_off actor) v.log

-- So many envelopes are counted as waiting: together with all that were counted off they are all that were counted on, by all seats, modulo 2^64.
abbrev pub IsBalance : ℕ → ℕ → List View → Type 0
IsBalance actor waiting vs = (waiting + total (off_by actor) vs) % 2 ^ 64 ≡ total (on_by actor) vs % 2 ^ 64
