-- What messages are for an actor that is told commands of its own type.
use Rattle.std.specs.Prelude.{◌≡◌, ℤ, List, [], Option, Some, None}
use Rattle.std.specs.List.{filter_map}
use Rattle.mb_actor.specs.Behaviour.{Moment, Reply}
use Rattle.mb_actor.specs.declared.answer.Answer.TheVariants.{Unhandled}
use Rattle.mb_actor.specs.declared.call.Call.{Call}
use Rattle.mb_actor.specs.declared.call.Call.TheVariants as untyped
use Rattle.mb_actor.specs.declared.message.Message.{Message}
use Rattle.mb_actor.specs.declared.message.Message.TheVariants as message
use Rattle.mb_typed.specs.TypedBehaviour.{TypedMoment}
use Rattle.mb_typed.specs.declared.incoming.Incoming.{Incoming}
use Rattle.mb_typed.specs.declared.incoming.Incoming.TheVariants as incoming
use Rattle.mb_typed.specs.declared.packed.Packed.{Packed}
use Rattle.mb_typed.specs.declared.typed_call.TypedCall.{TypedCall}
use Rattle.mb_typed.specs.declared.typed_call.TypedCall.TheVariants as call

module _ {C : Type 0} where
  -- a command, if there is one
  abbrev pub command_or_none : Option C → Option (Incoming C)
  command_or_none (Some command) = Some (incoming.Command command)
  command_or_none None = None

  -- what a message is, given which commands there are: a command, also where it was sent as a control message; the end of a watched
  -- actor; or none of its commands
  abbrev pub decoded : (Packed → Option C) → Message → Option (Incoming C)
  decoded unpacked (message.User kind value) = command_or_none (unpacked (record { kind = kind; value = value }))
  decoded unpacked (message.Control kind value) = command_or_none (unpacked (record { kind = kind; value = value }))
  decoded unpacked (message.Terminated who) = Some (incoming.Terminated who)

  -- what a typed actor got of these messages: what is no command of its type is left out
  abbrev pub all_decoded : (Packed → Option C) → List Message → List (Incoming C)
  all_decoded unpacked messages = filter_map (decoded unpacked) messages

  -- the call that a typed actor gets where it gets this, if any
  abbrev pub call_with : Option (Incoming C) → Option (TypedCall C)
  call_with (Some got) = Some (call.Receive got)
  call_with None = None

  -- the call that a typed actor gets for a call of the actor that it is: none where a message is no command of its type
  abbrev pub call_of : (Packed → Option C) → Call → Option (TypedCall C)
  call_of unpacked untyped.Start = Some call.Start
  call_of unpacked (untyped.Receive m) = call_with (decoded unpacked m)
  call_of unpacked (untyped.Restart cause) = Some (call.Restart cause)
  call_of unpacked untyped.Stop = Some call.Stop

  -- the content after messages as they travel: that of what the typed actor got of them
  abbrev pub after_decoded : (Packed → Option C) → (List (Incoming C) → ℤ) → List Message → ℤ
  after_decoded unpacked after messages = after (all_decoded unpacked messages)

  -- what may be given at a moment where the typed actor gets this call, if any: what it may give itself, and without a call
  -- the answer that the message is not handled, and no effect (`Actor.unhandled`)
  abbrev pub gives_at : (TypedMoment C → Reply → Type 0) → List (Incoming C) → Moment → Option (TypedCall C) → Reply → Type 0
  gives_at gives got moment (Some typed) reply =
      gives (record { messages = got; call = typed; actors = moment.actors; unspawned = moment.unspawned }) reply
  gives_at gives got moment None reply = (reply.answer ≡ Some Unhandled) × (reply.effects ≡ [])

  -- what a call may give, as the typed actor says
  abbrev pub gives_decoded : (Packed → Option C) → (TypedMoment C → Reply → Type 0) → Moment → Reply → Type 0
  gives_decoded unpacked gives moment reply =
      gives_at gives (all_decoded unpacked moment.messages) moment (call_of unpacked moment.call) reply
