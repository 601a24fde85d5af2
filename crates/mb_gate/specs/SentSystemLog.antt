-- What a claim's record remembers (this project's own profile).
use Rattle.mb_gate.specs.declared.sent_system_log.SentMessage.{SentMessage}
use Rattle.mb_gate.specs.View.{SentSystem}

-- what was said, as contracts see it
abbrev pub sent_system_of : SentMessage → SentSystem
sent_system_of s = record { to = s.to.0; message = s.message; was_ended = s.was_ended }
