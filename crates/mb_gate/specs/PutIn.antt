-- What was put into an actor's list as an account of what all seats log (this project's own profile: Akka's mailboxes keep no such account). A list of
-- messages is told by its sums: for each measure of a numbered message, the sum of the measure over all.
use Rattle.std.specs.Prelude.{◌≡◌, ℕ, ◌==◌, if◌then◌else◌, List}
use Rattle.mb_msg.specs.declared.system.SysMsg.{SysMsg}
use Rattle.mb_syslist.specs.MessageList.{numbered}
use Rattle.mb_ghost.specs.Summed.{total}
use Rattle.mb_gate.specs.View.{View, Observation, Pushed}

-- The measure of what an observation put into this actor's list.
abbrev pub put_in : ℕ → (ℕ × SysMsg → ℕ) → Observation → ℕ
put_in actor measure (Pushed a n m) = if a == actor then measure (n, m) else 0
put_in actor measure _ = 0

-- The measure of all that a seat put into the actor's list.
abbrev pub put_by : ℕ → (ℕ × SysMsg → ℕ) → View → ℕ
put_by actor measure v = total (put_in actor measure) v.log

-- What all seats put into the actor's list is these messages, each with the number of its place, modulo 2^64.
abbrev pub IsAllPut : ℕ → List SysMsg → List View → Type 0
IsAllPut actor pushed vs = (measure : ℕ × SysMsg → ℕ) → total (put_by actor measure) vs ≡ total measure (numbered 0 pushed)
