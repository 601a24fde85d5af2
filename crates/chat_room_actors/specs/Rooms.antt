-- What a chat room does.
use Rattle.std.specs.Prelude.{◌≡◌, ℕ, ℤ, ◌^◌, ◌==◌, ◌&&◌, not, nat_lt, bit_and, bit_or, Bool, if◌then◌else◌, List, [], ◌∷◌, fold, Option, Some, None}
use Rattle.mb_msg.specs.declared.id.ActorId.{ActorId}
use Rattle.mb_actor.specs.Behaviour.{Moment, Reply}
use Rattle.mb_actor.specs.OutboxView.{OutboxView, added, refusal}
use Rattle.mb_actor.specs.declared.answer.Answer.{Answer}
use Rattle.mb_actor.specs.declared.answer.Answer.TheVariants.{Handled, Unhandled}
use Rattle.mb_actor.specs.declared.call.Call.{Call}
use Rattle.mb_actor.specs.declared.call.Call.TheVariants.{Start, Receive, Restart, Stop}
use Rattle.mb_actor.specs.declared.effect.Effect.{Effect}
use Rattle.mb_actor.specs.declared.effect.Effect.TheVariants.{Tell, Watch, Spawn}
use Rattle.mb_actor.specs.declared.message.Message.{Message}
use Rattle.mb_actor.specs.declared.message.Message.TheVariants.{User, Control, Terminated}

-- the members
abbrev pub members : List ActorId
members = record { 0 = 2 } ∷ record { 0 = 3 } ∷ record { 0 = 4 } ∷ []

-- the bit of an actor: 2 to the power of its number, if that is below 32
abbrev pub bit_of : ActorId → ℕ
bit_of id = if nat_lt id.0 32 then 2 ^ id.0 else 0

-- whether an actor is among those that have stopped
abbrev pub has_gone : ℕ → ActorId → Bool
has_gone gone id = not (bit_and gone (bit_of id) == 0)

-- which members have stopped, with one message more
abbrev pub gone_with : ℕ → Message → ℕ
gone_with gone (Terminated who) = bit_or gone (bit_of who)
gone_with gone _ = gone

-- which members have stopped after these messages
abbrev pub gone_after : List Message → ℕ
gone_after messages = fold gone_with 0 messages

-- an effect is asked for; if it is refused, it is left out
abbrev pub asked : OutboxView → Effect → OutboxView
asked tray effect = added (refusal tray effect) effect tray

-- all members are spawned, and then watched
abbrev pub opened : OutboxView → OutboxView
opened tray = fold (λ so_far member. asked so_far (Watch member)) (fold (λ so_far member. asked so_far (Spawn member)) tray members) members

-- whether a line is passed on to a member: another says it, and the member has not stopped
abbrev pub is_for : ℕ → ℕ → ActorId → Bool
is_for gone kind member = not (kind == member.0) && not (has_gone gone member)

-- a member is told a line that is passed on to it
abbrev pub told : ℕ → ℕ → ℤ → OutboxView → ActorId → OutboxView
told gone kind value tray member =
    record tray { effects = if is_for gone kind member then (asked tray (Tell member kind value)).effects else tray.effects }

-- the answer to a call
abbrev pub room_answer : Call → Option Answer
room_answer Start = Some Handled
room_answer (Receive (User kind value)) = Some Handled
room_answer (Receive (Control kind value)) = Some Unhandled
room_answer (Receive (Terminated who)) = Some Handled
room_answer (Restart cause) = Some Handled
room_answer Stop = None

-- the effects of a call while these have stopped
abbrev pub room_effects : ℕ → OutboxView → Call → List Effect
room_effects gone tray Start = (opened tray).effects
room_effects gone tray (Receive (User kind value)) = (fold (told gone kind value) tray members).effects
room_effects gone tray (Receive _) = []
room_effects gone tray (Restart cause) = (opened tray).effects
room_effects gone tray Stop = []

-- a call of a room gives exactly that answer and these effects
abbrev pub room_gives : Moment → Reply → Type 0
room_gives moment reply =
    (reply.answer ≡ room_answer moment.call)
    × (reply.effects ≡ room_effects (gone_after moment.messages)
    (record { effects = []; actors = moment.actors; unspawned = moment.unspawned }) moment.call)
