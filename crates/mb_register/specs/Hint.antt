-- What a caller hints at as it registers an actor (`akka.dispatch.Dispatcher.registerForExecution`).
use Rattle.std.specs.Prelude.{Bool, true, false}
use Rattle.mb_register.specs.declared.hint.Hint.{Hint}
use Rattle.mb_register.specs.declared.hint.Hint.TheVariants as hint

-- `hasMessageHint`: envelopes wait for the actor
abbrev pub has_message_hint : Hint → Bool
has_message_hint hint.None = false
has_message_hint hint.Message = true
has_message_hint hint.System = false

-- `hasSystemMessageHint`: system messages wait for the actor
abbrev pub has_system_message_hint : Hint → Bool
has_system_message_hint hint.None = false
has_system_message_hint hint.Message = false
has_system_message_hint hint.System = true
