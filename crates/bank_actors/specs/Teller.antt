-- What a teller does.
use Rattle.std.specs.Prelude.{◌≡◌, ℕ, ℤ, pos, ◌==◌, ◌&&◌, not, nat_lt, Bool, if◌then◌else◌, List, [], ◌∷◌, fold, Option, Some, None}
use Rattle.std.specs.Ordering.{int_eq}
use Rattle.mb_msg.specs.declared.id.ActorId.{ActorId}
use Rattle.mb_actor.specs.Behaviour.{Moment, Reply}
use Rattle.mb_actor.specs.OutboxView.{OutboxView, added, refusal}
use Rattle.mb_actor.specs.declared.answer.Answer.{Answer}
use Rattle.mb_actor.specs.declared.answer.Answer.TheVariants.{Handled, Unhandled, Failed}
use Rattle.mb_actor.specs.declared.call.Call.{Call}
use Rattle.mb_actor.specs.declared.call.Call.TheVariants.{Start, Receive, Restart, Stop}
use Rattle.mb_actor.specs.declared.effect.Effect.{Effect}
use Rattle.mb_actor.specs.declared.effect.Effect.TheVariants.{Tell, Watch, Spawn}
use Rattle.mb_actor.specs.declared.message.Message.{Message}
use Rattle.mb_actor.specs.declared.message.Message.TheVariants.{User, Control, Terminated}
use Rattle.bank_actors.specs.Failures.{no_account}
use Rattle.bank_actors.specs.Money.{deposit, transfer, withdraw}

-- whether one of a teller's accounts has ended, as a number
abbrev pub closed_with : ℤ → Message → ℤ
closed_with closed (User kind value) = closed
closed_with closed (Control kind value) = closed
closed_with closed (Terminated who) = pos 1

-- the same after these messages
abbrev pub closed_after : List Message → ℤ
closed_after messages = fold closed_with (pos 0) messages

-- the number is an actor's, and not the guardian's
abbrev pub is_there : ℕ → ActorId → Bool
is_there actors id = not (id.0 == 0) && nat_lt id.0 actors

-- an effect is asked for; if it is refused, it is left out
abbrev pub asked : OutboxView → Effect → OutboxView
asked tray effect = added (refusal tray effect) effect tray

-- both accounts are spawned and watched
abbrev pub opened : ActorId → ActorId → OutboxView → OutboxView
opened from to tray = asked (asked (asked (asked tray (Spawn from)) (Spawn to)) (Watch from)) (Watch to)

-- as much is taken from one account as is given to the other; if there is no such other, the first gets it back; if there is
-- no such first, nothing is done
abbrev pub moved : ActorId → ActorId → ℕ → ℤ → List Effect
moved from to actors amount =
    if is_there actors from
    then Tell from withdraw amount ∷ Tell (if is_there actors to then to else from) deposit amount ∷ []
    else []

-- the answer to a transfer
abbrev pub answer_of_transfer : ActorId → ActorId → ℕ → Answer
answer_of_transfer from to actors = if is_there actors from && is_there actors to then Handled else Failed no_account

-- a transfer that is carried out: while none of the accounts has ended
abbrev pub is_transfer : ℤ → ℕ → Bool
is_transfer closed kind = kind == transfer && int_eq closed (pos 0)

-- the answer to a call
abbrev pub teller_answer : ActorId → ActorId → ℕ → ℤ → Call → Option Answer
teller_answer from to actors closed Start = Some Handled
teller_answer from to actors closed (Receive (User kind value)) =
    Some (if is_transfer closed kind then answer_of_transfer from to actors else Unhandled)
teller_answer from to actors closed (Receive (Control kind value)) = Some Unhandled
teller_answer from to actors closed (Receive (Terminated who)) = Some Handled
teller_answer from to actors closed (Restart cause) = Some Handled
teller_answer from to actors closed Stop = None

-- the effects that a call asks for, from an empty outbox
abbrev pub teller_effects : ActorId → ActorId → OutboxView → ℤ → Call → List Effect
teller_effects from to tray closed Start = (opened from to tray).effects
teller_effects from to tray closed (Receive (User kind value)) =
    if is_transfer closed kind then moved from to tray.actors value else []
teller_effects from to tray closed (Receive (Control kind value)) = []
teller_effects from to tray closed (Receive (Terminated who)) = []
teller_effects from to tray closed (Restart cause) = (opened from to tray).effects
teller_effects from to tray closed Stop = []

-- a call of a teller gives exactly that answer and these effects
abbrev pub teller_gives : ActorId → ActorId → Moment → Reply → Type 0
teller_gives from to moment reply =
    (reply.answer ≡ teller_answer from to moment.actors (closed_after moment.messages) moment.call)
    × (reply.effects ≡ teller_effects from to (record { effects = []; actors = moment.actors; unspawned = moment.unspawned })
    (closed_after moment.messages) moment.call)
