-- The word of a list's gate: what it shows, and what each call makes of it (`akka.dispatch.SystemMessageQueue.systemEnqueue`, `systemDrain`; that a
-- list has a gate is this project's own profile).
use Rattle.std.specs.Prelude.{ℕ, ◌+◌, ◌*◌, ◌/◌, ◌%◌, ◌==◌, Bool, not, if◌then◌else◌}

-- By the word of a list's gate, a seat has the list out.
abbrev pub is_locked : ℕ → Bool
is_locked word = word % 2 == 1

-- By the word of a list's gate, the list is ended.
abbrev pub is_ended : ℕ → Bool
is_ended word = word / 8 % 2 == 1

-- By the word of a list's gate, no seat has the list out, nothing is listed, and the last drain gave nothing.
abbrev pub is_drained : ℕ → Bool
is_drained word = word % 8 == 0

-- By the word of a list's gate there is system work: something is listed, or the last drain gave something.
abbrev pub shows_work : ℕ → Bool
shows_work word = not (word / 2 % 4 == 0)

-- The gate's word once a message is listed.
abbrev pub with_listed : ℕ → ℕ
with_listed word = if word / 2 % 2 == 0 then word + 2 else word

-- The gate's word after a drain: nothing is listed, and the word says whether the drain gave something.
abbrev pub with_drained : ℕ → Bool → ℕ
with_drained word is_empty = word / 8 % 2 * 8 + (if is_empty then 0 else 4)

-- The gate's word once the list is ended: nothing is listed any more.
abbrev pub with_ended : ℕ → ℕ
with_ended word = word / 4 % 2 * 4 + 8
