-- What a script does with the calls of its actor (this project's own profile: in Akka it is the actor's own code).
use Rattle.std.specs.Prelude.{◌≡◌, ℕ, ℤ, pos, List, [], ◌∷◌, ◌==◌, fold, Option, Some, None, option_map, if◌then◌else◌}
use Rattle.mb_actor.specs.Behaviour.{Moment, Reply}
use Rattle.mb_actor.specs.OutboxView.{OutboxView}
use Rattle.mb_actor.specs.declared.answer.Answer.{Answer}
use Rattle.mb_actor.specs.declared.answer.Answer.TheVariants.{Unhandled}
use Rattle.mb_actor.specs.declared.call.Call.{Call}
use Rattle.mb_actor.specs.declared.call.Call.TheVariants.{Start, Receive, Restart, Stop}
use Rattle.mb_actor.specs.declared.effect.Effect.{Effect}
use Rattle.mb_actor.specs.declared.message.Message.{Message}
use Rattle.mb_actor.specs.declared.message.Message.TheVariants.{User, Control, Terminated}
use Rattle.mb_script.specs.Operations.{answer_after, asked_by, grown}
use Rattle.mb_script.specs.declared.operation.Operation.{Operation}
use Rattle.mb_script.specs.declared.operation.Row.{Row}

-- a row of a script: what is done, in order, with a message of this kind
pub record RowData : Type 0 where
  pub kind : ℕ
  pub operations : List Operation

-- a row of the code, as contracts see it
abbrev pub row_data : Row → RowData
row_data row = record { kind = row.kind; operations = row.operations.items }

-- a script: where the state begins; what is done at a start, a restart and a stop, and at the end of an actor that is
-- watched, if that is handled; and the rows
pub record ScriptData : Type 0 where
  pub initial : ℤ
  pub start : List Operation
  pub restart : List Operation
  pub stop : List Operation
  pub terminated : Option (List Operation)
  pub rows : List RowData

-- an actor that runs a script, and its state now
pub record Scripted : Type 0 where
  pub script : ScriptData
  pub state : ℤ

-- the first row for messages of this kind
abbrev pub row_for : ℕ → List RowData → Option RowData
row_for kind [] = None
row_for kind (row ∷ rows) = if row.kind == kind then Some row else row_for kind rows

-- the work of a call: the operations, and their value
pub record Work : Type 0 where
  pub operations : List Operation
  pub value : ℤ

-- the work of performing these operations with this value
abbrev pub work_with : ℤ → List Operation → Work
work_with value operations = record { operations = operations; value = value }

-- what a script does with a message of a kind: what the first row of the kind says, if there is one
abbrev pub work_of_kind : List RowData → ℕ → ℤ → Option Work
work_of_kind rows kind value = option_map (λ (row : RowData). work_with value row.operations) (row_for kind rows)

-- what a script does with each call, if it handles it; the value of a Terminated is the number of the actor that died
abbrev pub work_for : ScriptData → Call → Option Work
work_for script Start = Some (work_with (pos 0) script.start)
work_for script (Restart cause) = Some (work_with (pos 0) script.restart)
work_for script Stop = Some (work_with (pos 0) script.stop)
work_for script (Receive (User kind value)) = work_of_kind script.rows kind value
work_for script (Receive (Control kind value)) = work_of_kind script.rows kind value
work_for script (Receive (Terminated who)) = option_map (work_with (pos who.0)) script.terminated

-- the answer to a call that answers: a message for which there is no work is not handled
abbrev pub answer_with : Option Work → Answer
answer_with None = Unhandled
answer_with (Some work) = answer_after work.operations

abbrev pub answer_to : ScriptData → Call → Option Answer
answer_to script Stop = None
answer_to script call = Some (answer_with (work_for script call))

-- the outbox once the work is done
abbrev pub asked_with : Option Work → OutboxView → OutboxView
asked_with None tray = tray
asked_with (Some work) tray = asked_by work.value tray work.operations

-- the effects that a call asks for, from an empty outbox
abbrev pub effects_with : Moment → Option Work → List Effect
effects_with moment work = (asked_with work (record { effects = []; actors = moment.actors; unspawned = moment.unspawned })).effects

-- a call gives exactly that answer and these effects
abbrev pub gives_of : ScriptData → Moment → Reply → Type 0
gives_of script moment reply =
    (reply.answer ≡ answer_to script moment.call) × (reply.effects ≡ effects_with moment (work_for script moment.call))

-- the state after the messages of a kind are handled: their adds alone change it
abbrev pub after_work : ℤ → Option Work → ℤ
after_work state None = state
after_work state (Some work) = grown work.value state work.operations

abbrev pub after_message : List RowData → ℤ → Message → ℤ
after_message rows state (User kind value) = after_work state (work_of_kind rows kind value)
after_message rows state (Control kind value) = after_work state (work_of_kind rows kind value)
after_message rows state (Terminated who) = state

-- the state after these messages, in order, since it was last `initial`
abbrev pub after_of : ℤ → List RowData → List Message → ℤ
after_of initial rows messages = fold (after_message rows) initial messages
