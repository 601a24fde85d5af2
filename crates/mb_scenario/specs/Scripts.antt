-- The scripts of a document that passes all checks (this project's own profile).
use Rattle.std.specs.Prelude.{ℕ, pos, List, codes, Option, Some, None, option_map}
use Rattle.toml.specs.Data.{Data}
use Rattle.mb_schema.specs.Check.{items_in}
use Rattle.mb_schema.specs.Context.{ActorEntryData}
use Rattle.mb_schema.specs.Operation.{OpData, add, ignore, fail, about, op_of}
use Rattle.mb_schema.specs.Value.{text_of}
use Rattle.mb_schema.specs.declared.operation.Verb.{Verb}
use Rattle.mb_schema.specs.declared.operation.Verb.TheVariants as verb
use Rattle.mb_msg.specs.declared.id.ActorId.{ActorId}
use Rattle.mb_script.specs.Script.{RowData, ScriptData, Scripted}
use Rattle.mb_script.specs.declared.operation.Operation.{Operation}
use Rattle.mb_script.specs.declared.operation.Operation.TheVariants.{Add, Ignore, Fail, Tell, Control, Watch, Unwatch, Stop, Spawn}
use Rattle.mb_scenario.specs.Fields.{field, id_of, integer_or, map_items, number_or}

-- what is done to an actor
abbrev pub operation_on : ActorId → ℕ → Verb → Operation
operation_on to number verb.Tell = Tell to number
operation_on to number verb.Control = Control to number
operation_on to number verb.Watch = Watch to
operation_on to number verb.Unwatch = Unwatch to
operation_on to number verb.Stop = Stop to
operation_on to number verb.Spawn = Spawn to

-- the operation that a text names, among these actors
abbrev pub operation_of : List ActorEntryData → Option OpData → Operation
operation_of actor_entries None = Ignore
operation_of actor_entries (Some add) = Add
operation_of actor_entries (Some ignore) = Ignore
operation_of actor_entries (Some (fail number)) = Fail number
operation_of actor_entries (Some (about verb name number)) = operation_on (id_of actor_entries name) number verb

-- the operations of an array of texts
abbrev pub operations_in : List ActorEntryData → Option Data → List Operation
operations_in actor_entries found = map_items (λ d. operation_of actor_entries (op_of (text_of d))) (items_in found)

-- the row of a script that a table of `on` describes
abbrev pub scripted_row : List ActorEntryData → Data → RowData
scripted_row actor_entries d = record { kind = number_or 0 (field (codes "kind") d); operations = operations_in actor_entries (field (codes "do") d) }

abbrev pub script_of : List ActorEntryData → Data → ScriptData
script_of actor_entries d = record {
  initial = integer_or (pos 0) (field (codes "initial") d);
  start = operations_in actor_entries (field (codes "start") d);
  restart = operations_in actor_entries (field (codes "restart") d);
  stop = operations_in actor_entries (field (codes "stop") d);
  terminated = option_map (λ t. operations_in actor_entries (Some t)) (field (codes "terminated") d);
  rows = map_items (scripted_row actor_entries) (items_in (field (codes "on") d));
}

-- a script as it begins
abbrev pub scripted_of : List ActorEntryData → Data → Scripted
scripted_of actor_entries d = record { script = script_of actor_entries d; state = integer_or (pos 0) (field (codes "initial") d) }
