-- What no entry of a journal has, as JSON (this project's own profile).
use Rattle.std.specs.Prelude.{ℕ, List, codes}
use Rattle.serde_json.specs.Data.{Data, number, string, object, unsigned, member, no_members}
use Rattle.mb_msg.specs.declared.dead_letter.DeadLetter.{DeadLetter}
use Rattle.mb_msg.specs.declared.dead_letter.DeadLetterReason.{DeadLetterReason}
use Rattle.mb_msg.specs.declared.dead_letter.DeadLetterReason.TheVariants as why
use Rattle.mb_msg.specs.declared.envelope.Envelope.{Envelope}
use Rattle.mb_msg.specs.declared.system.SysMsg.{SysMsg}
use Rattle.mb_trace_json.specs.Messages.{body_data, system_data}
use Rattle.mb_trace_json.specs.Names.{name_data}
use Rattle.mb_trace_json.specs.Version.{version_data}

-- Why an envelope is dead.
abbrev pub why_text : DeadLetterReason → List ℕ
why_text why.Closed = codes "closed"
why_text why.Full = codes "full"
why_text why.NoMemory = codes "no memory"
why_text why.Cleaned = codes "cleaned"

-- A dead letter.
abbrev pub letter_data : List (List ℕ) → DeadLetter → Data
letter_data names letter = object
    (member (codes "actor") (name_data names letter.envelope.to.0)
    (member (codes "line") (string (codes "dead letter"))
    (member (codes "message") (body_data names letter.envelope.body)
    (member (codes "number") (number (unsigned letter.envelope.number))
    (member (codes "sender") (name_data names letter.envelope.by.0)
    (member (codes "version") version_data
    (member (codes "why") (string (why_text letter.why)) no_members)))))))

-- An envelope that is left in its receiver's mailbox.
abbrev pub left_data : List (List ℕ) → Envelope → Data
left_data names e = object
    (member (codes "actor") (name_data names e.to.0)
    (member (codes "line") (string (codes "left"))
    (member (codes "message") (body_data names e.body)
    (member (codes "number") (number (unsigned e.number))
    (member (codes "sender") (name_data names e.by.0)
    (member (codes "version") version_data no_members))))))

-- A system message that is set aside at the end, its number, and at which actor.
abbrev pub aside_data : List (List ℕ) → ℕ → ℕ → SysMsg → Data
aside_data names actor n message = object
    (member (codes "actor") (name_data names actor)
    (member (codes "line") (string (codes "set aside"))
    (member (codes "message") (system_data names message)
    (member (codes "number") (number (unsigned n))
    (member (codes "version") version_data no_members)))))
