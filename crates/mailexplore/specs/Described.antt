-- The system that a text describes.
use Rattle.std.specs.Prelude.{◌≡◌, ℕ, ℤ, ◌-◌, ◌==◌, pos, List, [], Option, Some, None, filter, map, option_map, slice_get}
use Rattle.std.specs.List.{range_with_len}
use Rattle.std.specs.Option.{option_map_or}
use Rattle.mb_actor.specs.Behaviour.{Moment, Reply}
use Rattle.mb_actor.specs.declared.message.Message.{Message}
use Rattle.mb_msg.specs.declared.order.Order.{Order}
use Rattle.mb_msg.specs.declared.order.SenderOrder.{SenderOrder}
use Rattle.mb_scenario.specs.Plans.{ScenarioData, scenario_of}
use Rattle.mb_script.specs.Script.{Scripted, after_of, gives_of}
use Rattle.mb_script.specs.declared.operation.Operation.{Operation}
use Rattle.mb_script.specs.declared.script.Hooks.{Hooks}
use Rattle.toml.specs.Parse.{parse_document}

-- the scenario of a text, if the text is a document
abbrev pub scenario_in : List ℕ → Option ScenarioData
scenario_in text = option_map scenario_of (parse_document text)

-- its actors, from number 1 on
abbrev pub scripts_in : List ℕ → List Scripted
scripts_in text = option_map_or (λ (s : ScenarioData). s.scripts) (scenario_in text) []

-- what a sender outside is to send, in order
abbrev pub orders_of : List SenderOrder → ℕ → List Order
orders_of sends from = map (λ (s : SenderOrder). s.order) (filter (λ (s : SenderOrder). s.from == from) sends)

-- what each of so many senders is to send, the first sender first
abbrev pub lists_of : ℕ → List SenderOrder → List (List Order)
lists_of senders sends = map (orders_of sends) (range_with_len 0 senders)

-- the same, of a text
abbrev pub orders_in : List ℕ → List (List Order)
orders_in text = option_map_or (λ (s : ScenarioData). lists_of s.plan.senders s.sends) (scenario_in text) []

-- the state of an actor after messages, by its script
abbrev pub after_script : Option Scripted → List Message → ℤ
after_script None messages = pos 0
after_script (Some s) messages = after_of s.script.initial s.script.rows messages

-- what a call of an actor may give, by its script
abbrev pub gives_script : Option Scripted → Moment → Reply → Type 0
gives_script None moment reply = Unit {0}
gives_script (Some s) moment reply = gives_of s.script moment reply

-- the state of the actor of each number after messages, where the first script is that of number 1
abbrev pub after_in : List ℕ → ℕ → List Message → ℤ
after_in text number = after_script (slice_get (scripts_in text) (number - 1))

-- what a call of the actor of each number may give
abbrev pub gives_in : List ℕ → ℕ → Moment → Reply → Type 0
gives_in text number = gives_script (slice_get (scripts_in text) (number - 1))

-- no message came to this actor yet
abbrev pub IsAtStart : Scripted → Type 0
IsAtStart s = s.state ≡ s.script.initial

-- what is done at the hooks
abbrev pub hooks_data : Hooks → List Operation × List Operation × List Operation × Option (List Operation)
hooks_data h = (h.start.items, h.restart.items, h.stop.items, option_map (λ operations. operations.items) h.terminated)
