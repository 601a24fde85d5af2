-- The messages that the actor was given to handle since its last start or restart.
use Rattle.std.specs.Prelude.{if◌then◌else◌, List, [], ◌∷◌, ◌++◌}
use Rattle.mb_msg.specs.declared.envelope.Body.{Body}
use Rattle.mb_msg.specs.declared.envelope.Body.TheVariants as body
use Rattle.mb_actor.specs.declared.message.Message.{Message}
use Rattle.mb_actor.specs.declared.message.Message.TheVariants as message
use Rattle.mb_journal.specs.Entry.{Entry}
use Rattle.mb_journal.specs.Entry.Entry.{Handled}
use Rattle.mb_journal.specs.Identity.{Identity}
use Rattle.mb_journal.specs.Life.{is_beginning}

-- the message that an envelope gives the actor to handle, if any: a PoisonPill and a Kill are handled by its cell
-- (`ActorCell.autoReceiveMessage`)
abbrev pub body_messages : Body → List Message
body_messages (body.User kind value) = message.User kind value ∷ []
body_messages (body.Control kind value) = message.Control kind value ∷ []
body_messages (body.Terminated x) = message.Terminated x ∷ []
body_messages _ = []

-- what an entry gives the actor to handle: the message of an envelope that was handled
abbrev pub entry_messages : Entry → List Message
entry_messages (Handled envelope reading outcome) = body_messages envelope.body
entry_messages _ = []

-- the incarnation's messages, the earliest first: those of the handled envelopes after the newest start or restart
-- (an incarnation is Akka's word for an actor between two restarts)
unfoldable pub messages : Identity → List Entry → List Message
messages who [] = []
messages who (e ∷ before) = if is_beginning who e before then [] else messages who before ++ entry_messages e
