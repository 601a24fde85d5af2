-- Which actors a sender has seen closed (this project's own profile: Akka's dead letters give no reason).
use Rattle.std.specs.Prelude.{◌==◌, ◌&&◌, ℕ, Bool, true, false, List}
use Rattle.std.specs.List.{list_any, list_all}
use Rattle.mb_msg.specs.declared.dead_letter.DeadLetter.{DeadLetter}
use Rattle.mb_msg.specs.declared.dead_letter.DeadLetterReason.{DeadLetterReason}
use Rattle.mb_msg.specs.declared.dead_letter.DeadLetterReason.TheVariants as why
use Rattle.mb_gate.specs.View.{Observation, Read, Saw, Counted, Looked, Sent, Unsent, Took, Pushed, Drained, Ended}

-- This is a reading of the actor's status that said that it is closed.
abbrev pub finds_closed : ℕ → Observation → Bool
finds_closed id (Read actor word) = actor == id && word == 1
finds_closed id (Saw actor journal) = false
finds_closed id (Counted actor waiting) = false
finds_closed id (Looked actor has_work) = false
finds_closed id (Sent actor n) = false
finds_closed id (Unsent actor n) = false
finds_closed id (Took actor n) = false
finds_closed id (Pushed actor number message) = false
finds_closed id (Drained actor given) = false
finds_closed id (Ended actor given) = false

-- The actor was seen closed.
abbrev pub has_seen_closed : List Observation → ℕ → Bool
has_seen_closed log id = list_any (finds_closed id) log

-- An envelope may be dead for this reason: as closed only if its receiver was seen closed.
abbrev pub may_be_dead : Bool → DeadLetterReason → Bool
may_be_dead seen why.Closed = seen
may_be_dead seen why.Full = true
may_be_dead seen why.NoMemory = true
may_be_dead seen why.Cleaned = true

-- Each of these dead letters that says that its receiver is closed is to an actor that was seen closed.
abbrev pub were_seen_closed : List Observation → List DeadLetter → Bool
were_seen_closed log dead = list_all (λ (d : DeadLetter). may_be_dead (has_seen_closed log d.envelope.to.0) d.why) dead
