-- A list of system messages, as contracts see it.
use Rattle.std.specs.Prelude.{ℕ, ◌+◌, ◌%◌, ◌^◌, Bool, true, List, [], ◌∷◌, ◌++◌, length}
use Rattle.mb_msg.specs.declared.system.SysMsg.{SysMsg}

-- The messages that are listed, the earliest first; how many were given so far, modulo 2^64; and whether the list is
-- closed. Akka keeps the latest first (`LatestFirstSystemMessageList`), and turns the list as it is drained
-- (`EarliestFirstSystemMessageList`); the count is this project's own profile.
pub record MessageList : Type 0 where
  pub messages : List SysMsg
  pub given : ℕ
  pub closed : Bool

-- the messages, each with its number: the first has this one, and they go on from it, modulo 2^64
abbrev pub numbered : ℕ → List SysMsg → List (ℕ × SysMsg)
numbered number [] = []
numbered number (message ∷ later) = (number, message) ∷ numbered ((number + 1) % 2 ^ 64) later

-- how many messages were pushed so far, modulo 2^64: those that were given and those that are listed
abbrev pub pushed : MessageList → ℕ
pushed list = (list.given + length list.messages) % 2 ^ 64

-- what is listed, the earliest first, with the numbers: a message's number is how many were pushed before it
abbrev pub listed : MessageList → List (ℕ × SysMsg)
listed list = numbered list.given list.messages

-- the list once this message is pushed
abbrev pub with_last : MessageList → SysMsg → MessageList
with_last list message = record list { messages = list.messages ++ message ∷ [] }

-- the list once everything listed is given (Akka's `systemDrain` that leaves an empty list)
abbrev pub drained : MessageList → MessageList
drained list = record list { messages = []; given = pushed list }

-- the list once everything listed is given, for good (Akka's `systemDrain` that leaves no list)
abbrev pub ended : MessageList → MessageList
ended list = record (drained list) { closed = true }
