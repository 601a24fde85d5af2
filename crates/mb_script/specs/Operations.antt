-- What the operations of a script do, one after another (this project's own profile: in Akka it is the actor's own code).
use Rattle.std.specs.Prelude.{ℕ, ℤ, ◌+ℤ◌, List, [], ◌∷◌, fold, Option, Some, None}
use Rattle.std.specs.Int.{w64, saturate_signed}
use Rattle.mb_actor.specs.OutboxView.{OutboxView, added, refusal}
use Rattle.mb_actor.specs.declared.answer.Answer.{Answer}
use Rattle.mb_actor.specs.declared.answer.Answer.TheVariants.{Handled, Failed}
use Rattle.mb_actor.specs.declared.effect.Effect.{Effect}
use Rattle.mb_actor.specs.declared.effect.Effect.TheVariants as effect
use Rattle.mb_script.specs.declared.operation.Operation.{Operation}
use Rattle.mb_script.specs.declared.operation.Operation.TheVariants.{Add, Fail, Tell, Control, Watch, Unwatch, Stop, Spawn}

-- the operations that are done: those before the first `fail`
abbrev pub done : List Operation → List Operation
done [] = []
done (Fail number ∷ operations) = []
done (operation ∷ operations) = operation ∷ done operations

-- the number of the first `fail`
abbrev pub failure : List Operation → Option ℕ
failure [] = None
failure (Fail number ∷ operations) = Some number
failure (operation ∷ operations) = failure operations

abbrev pub answer_by : Option ℕ → Answer
answer_by None = Handled
answer_by (Some number) = Failed number

-- what is answered: the failure, where there is one
abbrev pub answer_after : List Operation → Answer
answer_after operations = answer_by (failure operations)

-- the state after one operation: `add` adds the message's value, saturating at the ends of 64 bits
abbrev pub after_operation : ℤ → ℤ → Operation → ℤ
after_operation value state Add = saturate_signed w64 (state +ℤ value)
after_operation value state _ = state

-- the state after the operations of a row
abbrev pub grown : ℤ → ℤ → List Operation → ℤ
grown value state operations = fold (after_operation value) state (done operations)

-- the effect that an operation asks for, if any
abbrev pub effect_of : ℤ → Operation → Option Effect
effect_of value (Tell to kind) = Some (effect.Tell to kind value)
effect_of value (Control to kind) = Some (effect.Control to kind value)
effect_of value (Watch x) = Some (effect.Watch x)
effect_of value (Unwatch x) = Some (effect.Unwatch x)
effect_of value (Stop x) = Some (effect.Stop x)
effect_of value (Spawn x) = Some (effect.Spawn x)
effect_of value _ = None

-- the outbox once an effect was asked for: one that it refuses is left out
abbrev pub asked : Option Effect → OutboxView → OutboxView
asked None tray = tray
asked (Some e) tray = added (refusal tray e) e tray

-- the outbox once the operations are done
abbrev pub asked_by : ℤ → OutboxView → List Operation → OutboxView
asked_by value tray operations = fold (λ t operation. asked (effect_of value operation) t) tray (done operations)
