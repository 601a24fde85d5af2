-- The lines at the end of a trace (this project's own profile).
use Rattle.std.specs.Prelude.{ℕ, List, ◌++◌, codes}
use Rattle.std.specs.Fmt.{decimal}
use Rattle.mb_msg.specs.declared.dead_letter.DeadLetterReason.{DeadLetterReason}
use Rattle.mb_msg.specs.declared.dead_letter.DeadLetterReason.TheVariants as why
use Rattle.mb_msg.specs.declared.envelope.Envelope.{Envelope}
use Rattle.mb_msg.specs.declared.system.SysMsg.{SysMsg}
use Rattle.mb_trace.specs.Words.{envelope_text, name_of, system_text}

-- Why an envelope is a dead letter.
abbrev pub why_text : DeadLetterReason → List ℕ
why_text why.Closed = codes "closed"
why_text why.Full = codes "full"
why_text why.NoMemory = codes "no memory"
why_text why.Cleaned = codes "cleaned"

-- An envelope, and for whom it was.
unfoldable pub addressed_text : List (List ℕ) → Envelope → List ℕ
addressed_text names e = envelope_text names e ++ codes " to " ++ name_of names e.to.0

-- A dead letter, with its reason.
abbrev pub letter_text : List (List ℕ) → Envelope → DeadLetterReason → List ℕ
letter_text names e reason = codes "dead " ++ addressed_text names e ++ codes ": " ++ why_text reason ++ codes "\n"

-- An envelope that is left in its receiver's queue.
abbrev pub left_text : List (List ℕ) → Envelope → List ℕ
left_text names e = codes "left " ++ addressed_text names e ++ codes "\n"

-- A system message that is set aside, with its number, at the actor of this number.
abbrev pub aside_text : List (List ℕ) → ℕ → ℕ → SysMsg → List ℕ
aside_text names actor number message =
    codes "aside system #" ++ decimal number ++ codes " " ++ system_text names message ++ codes " to " ++ name_of names actor ++ codes "\n"
