-- The status of a mailbox, and what each transition does to it (`akka.dispatch.Mailbox`).
use Rattle.std.specs.Prelude.{ℕ, ◌+◌, ◌-◌, ◌*◌, ◌/◌, ◌%◌, ◌==◌, nat_le, nat_lt, Bool, true, false, not, ◌&&◌, ◌||◌, if◌then◌else◌, Option}
use Rattle.std.specs.Prelude.{Some, None}

-- A mailbox may be closed, which is for good, or scheduled, which says that there is a claim of its actor;
-- and it counts the suspensions that are not undone. A closed mailbox has neither of the other two.
pub record Mailbox : Type 0 where
  pub closed : Bool
  pub scheduled : Bool
  pub count : ℕ

-- the most suspensions that a mailbox counts (this project's own limit)
abbrev pub most_suspensions : ℕ
most_suspensions = 1152921504606846976

-- a possible mailbox: a closed one is neither scheduled nor suspended, and no count is past the limit
abbrev pub is_possible : Mailbox → Bool
is_possible m = if m.closed then not m.scheduled && m.count == 0 else nat_le m.count most_suspensions

-- the word of a mailbox: 1 if closed, else four times the count, and 2 if scheduled
abbrev pub word_of : Mailbox → ℕ
word_of m = if m.closed then 1 else 4 * m.count + (if m.scheduled then 2 else 0)

-- the words of possible mailboxes: 1, or an even number whose count is within the limit
abbrev pub is_valid : ℕ → Bool
is_valid word = word == 1 || (word % 2 == 0 && nat_le (word / 4) most_suspensions)

-- the mailbox of a word
abbrev pub mailbox_of : ℕ → Mailbox
mailbox_of word = record { closed = word == 1; scheduled = word / 2 % 2 == 1; count = word / 4 }

-- the mailbox that an actor begins with: not started yet, so suspended once (this project's own profile)
abbrev pub fresh : Mailbox
fresh = record { closed = false; scheduled = false; count = 1 }

-- the closed mailbox: neither scheduled nor suspended
abbrev pub closed_mailbox : Mailbox
closed_mailbox = record { closed = true; scheduled = false; count = 0 }

-- suspended at least once
abbrev pub suspended : Mailbox → Bool
suspended m = nat_lt 0 m.count

-- envelopes may be handled: neither closed nor suspended
abbrev pub should_process : Mailbox → Bool
should_process m = not m.closed && not (suspended m)

-- only a mailbox that is neither closed nor scheduled can be scheduled
abbrev pub with_scheduled : Mailbox → Option Mailbox
with_scheduled m = if m.closed || m.scheduled then None else Some (record m { scheduled = true })

-- the mailbox, no longer scheduled
abbrev pub idle : Mailbox → Mailbox
idle m = record m { scheduled = false }

-- one suspension more, but not of a closed mailbox
abbrev pub suspend : Mailbox → Mailbox
suspend m = if m.closed then m else record m { count = m.count + 1 }

-- one suspension less, where there is one
abbrev pub resume : Mailbox → Mailbox
resume m = record m { count = m.count - 1 }

-- it is worth scheduling: for system messages unless closed, for envelopes if they may be handled
abbrev pub can_schedule : Mailbox → Bool → Bool → Bool
can_schedule m messages system = not m.closed && (system || (messages && not (suspended m)))
