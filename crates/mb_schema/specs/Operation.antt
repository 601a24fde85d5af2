-- The text of an operation (this project's own profile).
use Rattle.std.specs.Prelude.{ℕ, ◌+◌, ◌==◌, List, [], ◌∷◌, codes, drop, take, position, Bool, true, false, not, ◌&&◌}
use Rattle.std.specs.Prelude.{Option, Some, None}
use Rattle.std.specs.Prelude.{if◌then◌else◌, option_map, option_and_then}
use Rattle.std.specs.Str.{bytes_eq}
use Rattle.mb_schema.specs.Context.{ContextData, knows, knows_child}
use Rattle.mb_schema.specs.Name.{is_name}
use Rattle.mb_schema.specs.Number.{number_of}
use Rattle.mb_schema.specs.Location.{first, when}
use Rattle.mb_schema.specs.declared.finding.Reason.{Reason}
use Rattle.mb_schema.specs.declared.finding.Reason.TheVariants.{UnknownName, BadOp}
use Rattle.mb_schema.specs.declared.operation.Verb.{Verb}
use Rattle.mb_schema.specs.declared.operation.Verb.TheVariants.{Tell, Control, Watch, Unwatch, Stop, Spawn}

-- an operation: `add`, `ignore`, `fail n`, or what is done to the actor of a name, with a number where the verb has one
pub data OpData : Type 0 where
  add : OpData
  ignore : OpData
  fail : ℕ → OpData
  about : Verb → List ℕ → ℕ → OpData

-- the operations of one word
abbrev pub op_alone : List ℕ → Option OpData
op_alone word = if bytes_eq word (codes "add") then Some add else (if bytes_eq word (codes "ignore") then Some ignore else None)

-- the verbs that a name follows
abbrev pub verb_of_name : List ℕ → Option Verb
verb_of_name word =
    if bytes_eq word (codes "watch") then Some Watch
    else (if bytes_eq word (codes "unwatch") then Some Unwatch
    else (if bytes_eq word (codes "stop") then Some Stop
    else (if bytes_eq word (codes "spawn") then Some Spawn
    else None)))

-- the verbs that a name and a number follow
abbrev pub verb_of_both : List ℕ → Option Verb
verb_of_both word = if bytes_eq word (codes "tell") then Some Tell else (if bytes_eq word (codes "control") then Some Control else None)

-- what is done to the actor of a name, where it is a name
abbrev pub about_name : Verb → List ℕ → ℕ → Option OpData
about_name verb name number = if is_name name then Some (about verb name number) else None

-- the operations of two words
abbrev pub op_of_two : List ℕ → List ℕ → Option OpData
op_of_two word next =
    if bytes_eq word (codes "fail") then option_map fail (number_of next)
    else option_and_then (λ verb. about_name verb next 0) (verb_of_name word)

-- the operations of three words
abbrev pub op_of_three : List ℕ → List ℕ → List ℕ → Option OpData
op_of_three word name last =
    option_and_then (λ verb. option_and_then (λ number. about_name verb name number) (number_of last)) (verb_of_both word)

-- where the first space is
abbrev pub space_in : List ℕ → Option ℕ
space_in text = position (λ byte. byte == 32) text

-- the operation of a first word, of the text after the space, and of where the next space is in it
abbrev pub op_after : List ℕ → List ℕ → Option ℕ → Option OpData
op_after word rest None = op_of_two word rest
op_after word rest (Some i) = op_of_three word (take i rest) (drop (i + 1) rest)

-- the operation of a text, of which the first space is there
abbrev pub op_split : List ℕ → Option ℕ → Option OpData
op_split text None = op_alone text
op_split text (Some i) = op_after (take i text) (drop (i + 1) text) (space_in (drop (i + 1) text))

-- the operation that a text is: words with single spaces between them
abbrev pub op_of : List ℕ → Option OpData
op_of text = op_split text (space_in text)

-- the verb is `spawn`
abbrev pub is_spawn : Verb → Bool
is_spawn Spawn = true
is_spawn _ = false

-- what is wrong with an operation, where `add` is allowed or not: it has to name an actor of the document, and a spawn a
-- child of the actor whose script it is
abbrev pub op_reason : ContextData → Bool → Option OpData → Option Reason
op_reason a adds None = Some BadOp
op_reason a adds (Some add) = when (not adds) BadOp
op_reason a adds (Some ignore) = None
op_reason a adds (Some (fail number)) = None
op_reason a adds (Some (about verb name number)) =
    first (when (not (knows a.actor_entries name)) UnknownName ∷ when (is_spawn verb && not (knows_child a name)) BadOp ∷ [])
