-- What a member of a chat room does.
use Rattle.std.specs.Prelude.{◌≡◌, ℕ, ℤ, pos, ◌+ℤ◌, ◌==◌, if◌then◌else◌, List, [], fold, Option, Some, None}
use Rattle.std.specs.Int.{w64, saturate_signed}
use Rattle.std.specs.Ordering.{int_eq}
use Rattle.mb_msg.specs.declared.id.ActorId.{ActorId}
use Rattle.mb_actor.specs.Behaviour.{Moment, Reply}
use Rattle.mb_actor.specs.OutboxView.{OutboxView, added, refusal}
use Rattle.mb_actor.specs.declared.answer.Answer.{Answer}
use Rattle.mb_actor.specs.declared.answer.Answer.TheVariants.{Handled, Unhandled, Failed}
use Rattle.mb_actor.specs.declared.call.Call.{Call}
use Rattle.mb_actor.specs.declared.call.Call.TheVariants.{Start, Receive, Restart, Stop}
use Rattle.mb_actor.specs.declared.effect.Effect.{Effect}
use Rattle.mb_actor.specs.declared.effect.Effect.TheVariants.{Tell}
use Rattle.mb_actor.specs.declared.message.Message.{Message}
use Rattle.mb_actor.specs.declared.message.Message.TheVariants.{User}

-- the sum with one message more, held at the ends of 64 bits
abbrev pub sum_with : ℤ → Message → ℤ
sum_with sum (User kind value) = saturate_signed w64 (sum +ℤ value)
sum_with sum _ = sum

-- the sum of what was said and heard
abbrev pub sum_of : List Message → ℤ
sum_of = fold sum_with (pos 0)

-- a member's answer to a line: it fails where it is to say 0 itself
abbrev pub answer_to : ActorId → ℕ → ℤ → Answer
answer_to id kind value = if kind == id.0 then (if int_eq value (pos 0) then Failed 1 else Handled) else Handled

-- the answer to a call
abbrev pub member_answer : ActorId → Call → Option Answer
member_answer id Start = Some Handled
member_answer id (Receive (User kind value)) = Some (answer_to id kind value)
member_answer id (Receive _) = Some Unhandled
member_answer id (Restart cause) = Some Handled
member_answer id Stop = None

-- an effect is asked for from an outbox without any; if it is refused, there is none
abbrev pub alone : OutboxView → Effect → List Effect
alone tray effect = (added (refusal tray effect) effect tray).effects

-- the effects of a line: the room, which is actor 1, is told what the member says itself
abbrev pub effects_of : ActorId → OutboxView → ℕ → ℤ → List Effect
effects_of id tray kind value =
    if kind == id.0 then (if int_eq value (pos 0) then [] else alone tray (Tell (record { 0 = 1 }) kind value)) else []

-- the effects of a call
abbrev pub member_effects : ActorId → OutboxView → Call → List Effect
member_effects id tray (Receive (User kind value)) = effects_of id tray kind value
member_effects id tray _ = []

-- a call of a member gives exactly that answer and these effects
abbrev pub member_gives : ActorId → Moment → Reply → Type 0
member_gives id moment reply =
    (reply.answer ≡ member_answer id moment.call)
    × (reply.effects ≡ member_effects id (record { effects = []; actors = moment.actors; unspawned = moment.unspawned }) moment.call)
